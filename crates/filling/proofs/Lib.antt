pub mod Pieces
pub mod Images
pub mod Filling
pub mod Outcome
