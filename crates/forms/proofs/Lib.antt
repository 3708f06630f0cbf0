pub mod Loops
pub mod Forms
pub mod Most
pub mod Outcome
