pub mod Number
pub mod Codes
pub mod Table
pub mod Heads
pub mod Laid
pub mod Narrowed
