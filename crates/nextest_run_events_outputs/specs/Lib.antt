pub mod Chain
pub mod ChildError
pub mod Live
pub mod Output
