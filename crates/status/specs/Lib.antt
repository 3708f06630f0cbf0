pub mod Notation
pub mod Codes
pub mod Words
