pub mod Pieces
pub mod Shown
pub mod Fronts
pub mod Slashes
pub mod Letters
pub mod Readings
pub mod Ended
