pub mod Accepted
pub mod Defined
pub mod Laws
pub mod Paths
pub mod Rules
pub mod Scripts
