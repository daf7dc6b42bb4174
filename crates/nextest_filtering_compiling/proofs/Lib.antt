pub mod Behind
pub mod Stacks
pub mod Looked
pub mod Asked
pub mod Kept
pub mod Placed
pub mod Whole
pub mod Trees
mod Results
