pub mod Stairs
pub mod Values
pub mod Laws
