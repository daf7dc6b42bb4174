pub mod Backoffs
pub mod Failing
pub mod Giving
pub mod Keys
pub mod Parts
pub mod Policies
pub mod Slow
