pub mod Blanks
pub mod Faults
pub mod Kinds
pub mod Texts
pub mod Matchers
pub mod Bans
