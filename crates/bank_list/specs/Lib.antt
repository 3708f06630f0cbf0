pub mod Lines
pub mod Banks
