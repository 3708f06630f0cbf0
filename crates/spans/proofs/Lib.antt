pub mod Pastes
pub mod Spans
pub mod Outcome
