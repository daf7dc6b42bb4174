pub mod Told
pub mod Named
pub mod Done
pub mod Each
pub mod Scripts
pub mod Texts
pub mod KeptReports
