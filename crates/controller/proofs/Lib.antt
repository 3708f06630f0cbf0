pub mod Examples
pub mod Steps
pub mod Walking
pub mod Runs
pub mod Laws
pub mod Outcome
