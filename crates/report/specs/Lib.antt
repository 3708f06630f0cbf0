pub mod Report
pub mod Lengths
