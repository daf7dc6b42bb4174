pub mod Hex
pub mod Fields
pub mod Apart
pub mod Spellings
pub mod Lines
pub mod Refusals
pub mod Writable
