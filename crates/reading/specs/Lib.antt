pub mod Decimal
pub mod Level
