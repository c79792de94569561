pub mod Works
pub mod Laws
pub mod Added
pub mod Tables
