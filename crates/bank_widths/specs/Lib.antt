pub mod Lists
pub mod Keys
