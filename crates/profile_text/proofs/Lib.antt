pub mod Words
pub mod Longest
pub mod Apart
pub mod Given
pub mod Examples
pub mod Outcome
