pub mod Outcome
pub mod ResponsesOutcome
