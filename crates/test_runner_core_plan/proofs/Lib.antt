pub mod Rising
pub mod Strict
pub mod OneOrder
