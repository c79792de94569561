pub mod Refusals
pub mod Records
pub mod Calls
pub mod Executions
