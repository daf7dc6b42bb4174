pub mod Accepting
pub mod Finding
pub mod Listed
