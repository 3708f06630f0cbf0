pub mod Writing
pub mod Forms
pub mod Longest
pub mod Outcome
