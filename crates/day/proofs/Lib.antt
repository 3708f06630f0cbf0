pub mod Commands
pub mod Days
pub mod Answers
pub mod Counts
pub mod Each
pub mod Steps
pub mod Outcome
pub mod Examples
