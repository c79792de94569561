pub mod Refusals
pub mod Windows
pub mod Sources
