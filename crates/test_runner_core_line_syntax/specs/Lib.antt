pub mod Spelling
pub mod Fields
pub mod Hex
pub mod Lent
pub mod Faults
pub mod Reading
pub mod Writing
pub mod Laws
