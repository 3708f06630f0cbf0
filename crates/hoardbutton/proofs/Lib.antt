pub mod Whole
pub mod States
pub mod Values
pub mod Keeps
pub mod Outcome
