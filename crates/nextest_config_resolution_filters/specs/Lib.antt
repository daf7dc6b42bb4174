pub mod Filters
pub mod Specs
pub mod Calls
