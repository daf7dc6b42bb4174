pub mod Laws
pub mod Notes
pub mod Places
pub mod Slices
