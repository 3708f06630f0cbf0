pub mod Decimals
pub mod Texts
pub mod Outcome
