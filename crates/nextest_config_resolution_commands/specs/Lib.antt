pub mod Accepted
pub mod Commands
pub mod Laws
pub mod Programs
pub mod SoFar
pub mod Splitting
pub mod Words
