pub mod Shapes
pub mod Places
pub mod Numbers
pub mod Lists
pub mod Texts
pub mod Collected
