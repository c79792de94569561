pub mod Models
pub mod Read
pub mod Answered
