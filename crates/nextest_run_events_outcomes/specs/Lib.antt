pub mod State
pub mod Texts
pub mod Finished
pub mod Laws
pub mod Outcome
pub mod Progress
