pub mod Counts
pub mod Tallies
pub mod Kept
pub mod OtherRecords
pub mod Totals
pub mod Taken
pub mod Begun
pub mod Clones
