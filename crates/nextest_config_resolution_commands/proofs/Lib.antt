pub mod Accepting
pub mod Bytes
pub mod Characters
pub mod Divided
pub mod Listed
pub mod Pieced
pub mod Stands
