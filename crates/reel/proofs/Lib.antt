pub mod Steps
pub mod Reels
pub mod Walks
pub mod Found
pub mod Outcome
