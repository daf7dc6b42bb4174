pub mod Config
pub mod Groups
pub mod Identifier
pub mod Laws
pub mod Parts
pub mod Tools
