pub mod Counting
pub mod Kinds
