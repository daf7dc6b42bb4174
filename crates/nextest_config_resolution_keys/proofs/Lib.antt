pub mod Accepting
mod Joined
pub mod KnownBoth
pub mod Made
pub mod OneByOne
