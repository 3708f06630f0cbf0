pub mod Words
pub mod Seats
pub mod Decoding
