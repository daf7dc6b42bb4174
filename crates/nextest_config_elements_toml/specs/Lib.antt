pub mod Paths
pub mod Reading
pub mod Walks
