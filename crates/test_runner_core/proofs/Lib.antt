pub mod Left
pub mod Checking
pub mod Course
pub mod Kept
pub mod Walk
pub mod NextLine
mod Near
mod NearCalls
pub mod Reported
pub mod Stream
pub mod OneStep
pub mod OneRun
pub mod OneReport
pub mod Built
pub mod Due
pub mod OneEnd
mod Headline
pub mod Written
mod Whole
mod Aside
mod Isolated
mod Statuses
pub mod SomeReport
mod SomeLog
