pub mod RunEnd
pub mod Parts
pub mod Writes
pub mod Final
pub mod Steps
pub mod Opening
pub mod Keeping
pub mod Laws
