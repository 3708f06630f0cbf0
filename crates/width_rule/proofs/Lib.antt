pub mod Examples
pub mod Listed
pub mod Rules
