pub mod Patterns
pub mod Looking
