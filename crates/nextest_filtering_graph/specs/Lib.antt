pub mod Graph
pub mod Making
pub mod Reaching
pub mod Rows
