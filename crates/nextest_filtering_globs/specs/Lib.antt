pub mod Signs
pub mod Syntax
pub mod Reading
pub mod Laws
pub mod Glob
pub mod Meaning
pub mod Inside
