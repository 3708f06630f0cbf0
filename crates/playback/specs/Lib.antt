pub mod Trace
pub mod Plays
pub mod Parts
pub mod Code
