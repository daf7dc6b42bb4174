pub mod Demand
pub mod Eval
pub mod Features
pub mod Laws
pub mod Sources
pub mod Verdict
