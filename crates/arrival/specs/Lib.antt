pub mod Meaning
pub mod Tasks
pub mod TasksLaws
pub mod Chain
pub mod ChainLaws
