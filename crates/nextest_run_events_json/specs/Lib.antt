pub mod Calls
pub mod Forms
pub mod Laws
pub mod Reading
pub mod ReadBack
