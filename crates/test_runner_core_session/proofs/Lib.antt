pub mod ByName
pub mod InOrder
