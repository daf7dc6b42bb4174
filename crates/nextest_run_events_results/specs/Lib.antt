pub mod Cancel
pub mod Described
pub mod Result
pub mod Signals
pub mod Texts
