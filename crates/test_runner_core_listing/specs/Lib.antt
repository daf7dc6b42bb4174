pub mod Answers
pub mod Hashed
pub mod Selected
pub mod Listing
pub mod Laws
