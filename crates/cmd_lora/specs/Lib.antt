pub mod Codes
pub mod Methods
pub mod Responses
