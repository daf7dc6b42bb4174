pub mod PlainFilters
pub mod PlainSpecs
pub mod Configs
