pub mod Settings
pub mod Outcome
