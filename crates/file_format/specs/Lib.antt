pub mod Settings
pub mod Models
pub mod Entries
pub mod File
pub mod Spelling
