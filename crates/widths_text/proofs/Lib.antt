pub mod Widths
pub mod Forms
pub mod Answers
pub mod Asked
pub mod Longest
pub mod Laws
pub mod Examples
pub mod Outcome
