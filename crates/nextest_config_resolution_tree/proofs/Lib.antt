pub mod Keys
pub mod Tables
pub mod Standings
mod Gathered
mod Rising
mod Ends
mod Leaves
mod Merged
mod Parting
mod Keyed
mod Rebuilt
mod AtPath
mod Waiting
mod Answered
