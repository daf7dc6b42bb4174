pub mod Clones
pub mod Reading
pub mod Parts
pub mod Sources
pub mod Spans
