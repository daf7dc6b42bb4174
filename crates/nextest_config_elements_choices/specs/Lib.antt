pub mod Display
pub mod FailWeight
pub mod Flaky
pub mod Laws
pub mod Levels
pub mod MaxFail
pub mod RunMode
