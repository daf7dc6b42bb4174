pub mod Comings
pub mod Counting
pub mod Names
pub mod ShortVersions
