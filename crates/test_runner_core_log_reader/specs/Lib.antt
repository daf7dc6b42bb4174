pub mod Limits
pub mod Items
pub mod Feeds
pub mod Cursor
pub mod Calls
pub mod Inside
