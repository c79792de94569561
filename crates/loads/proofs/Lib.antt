pub mod Jumps
pub mod Masks
pub mod Tables
pub mod Works
