pub mod Below
pub mod Past
pub mod Then
pub mod Cells
pub mod Rows
pub mod Heads
pub mod Outcome
