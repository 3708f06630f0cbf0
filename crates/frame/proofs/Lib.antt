pub mod Bits
pub mod OneField
pub mod Fields
pub mod Puts
pub mod Bytewise
pub mod Outcome
