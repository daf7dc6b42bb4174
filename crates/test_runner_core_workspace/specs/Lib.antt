pub mod Ids
pub mod Lister
pub mod Workspace
