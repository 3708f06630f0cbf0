pub mod Forms
pub mod Levels
pub mod Longest
pub mod Example
pub mod Outcome
