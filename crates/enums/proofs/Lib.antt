pub mod Listed
pub mod Agree
pub mod Called
