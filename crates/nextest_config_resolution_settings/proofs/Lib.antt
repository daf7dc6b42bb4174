pub mod EachSetting
pub mod Least
pub mod Searching
pub mod Some
pub mod Sourced
pub mod Unique
