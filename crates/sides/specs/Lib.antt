pub mod Parts
pub mod Calls
pub mod Histories
pub mod Means
