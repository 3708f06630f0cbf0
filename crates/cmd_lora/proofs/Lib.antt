pub mod Order
pub mod Outcome
pub mod Widths
pub mod ResponsesOutcome
