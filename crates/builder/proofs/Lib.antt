pub mod Apart
pub mod Padded
pub mod Arguments
pub mod Returns
pub mod Taking
pub mod Outcome
