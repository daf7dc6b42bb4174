pub mod Chains
pub mod Climbing
pub mod Faults
pub mod Following
pub mod Found
pub mod Stages
pub mod Verdict
pub mod Walks
