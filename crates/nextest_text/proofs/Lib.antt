pub mod Same
pub mod Cut
pub mod Filtered
