pub mod Statuses
pub mod Kept
pub mod Records
pub mod Short
pub mod Parts
pub mod Counted
pub mod Progress
