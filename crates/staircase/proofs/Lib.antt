pub mod Chunks
pub mod Halving
pub mod Counts
