pub mod Rules
pub mod Profile
pub mod Steps
pub mod Latest
pub mod Shared
