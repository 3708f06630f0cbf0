pub mod Days
pub mod Steps
pub mod Tally
