pub mod Inheritance
pub mod Inherits
pub mod Laws
pub mod Places
pub mod Refusals
