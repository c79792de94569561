pub mod Values
pub mod Within
