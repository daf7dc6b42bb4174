pub mod Attempts
pub mod Counting
pub mod Description
pub mod Rows
pub mod Summary
