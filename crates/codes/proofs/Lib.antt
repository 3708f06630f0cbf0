pub mod Listed
pub mod Within
pub mod Outcome
