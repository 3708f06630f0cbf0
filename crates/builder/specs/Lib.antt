pub mod Building
pub mod Ways
pub mod Gives
