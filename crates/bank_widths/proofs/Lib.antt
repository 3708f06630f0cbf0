pub mod Banks
pub mod Divisors
pub mod Examples
pub mod Keys
pub mod Laws
pub mod Outcome
pub mod Passing
pub mod Search
