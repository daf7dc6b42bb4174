pub mod Given
pub mod Values
pub mod Reading
pub mod Calls
pub mod Shape
pub mod Faults
pub mod Laws
