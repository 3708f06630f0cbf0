pub mod Enums
pub mod Values
