pub mod Condition
pub mod Groups
pub mod Overrides
pub mod Platforms
pub mod RuleKeys
pub mod Schedule
