pub mod Sections
pub mod Values
pub mod Taken
pub mod Room
pub mod Go
pub mod Read
