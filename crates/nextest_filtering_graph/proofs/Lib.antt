pub mod Places
pub mod Rows
pub mod Words
pub mod Copies
