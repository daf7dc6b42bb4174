pub mod Collected
pub mod Errors
pub mod Lists
pub mod Texts
