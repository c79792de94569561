pub mod Staircases
pub mod Steps
pub mod Reading
