pub mod Forms
pub mod Turns
pub mod Longest
pub mod Whole
pub mod Laws
pub mod Examples
pub mod Outcome
