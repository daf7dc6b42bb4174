pub mod Fronts
pub mod Halves
pub mod Meanings
pub mod Nanos
pub mod Numbers
pub mod Parts
pub mod Sums
pub mod Words
