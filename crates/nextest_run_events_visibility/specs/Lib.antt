pub mod Laws
pub mod Visibility
