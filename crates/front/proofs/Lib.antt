pub mod Examples
pub mod Laws
pub mod Outcome
pub mod Readers
