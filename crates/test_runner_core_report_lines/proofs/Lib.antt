pub mod Fronts
pub mod Tries
pub mod Levels
pub mod Spelled
pub mod OneText
pub mod SomeText
