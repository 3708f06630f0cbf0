pub mod Examples
pub mod Outcome
pub mod Places
pub mod Same
