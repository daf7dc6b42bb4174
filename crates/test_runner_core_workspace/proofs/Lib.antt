pub mod Repeats
pub mod Tables
mod Separators
