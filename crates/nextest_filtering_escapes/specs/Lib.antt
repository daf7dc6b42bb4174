pub mod Text
pub mod Ends
pub mod Spans
pub mod Parts
pub mod Reading
pub mod Printing
pub mod Regex
pub mod Laws
