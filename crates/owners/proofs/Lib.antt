pub mod Examples
pub mod Laws
pub mod Loops
pub mod Outcome
