pub mod Fitting
pub mod Accepted
pub mod Narrowing
pub mod Places
pub mod Laws
pub mod SyncWord
