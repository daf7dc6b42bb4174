pub mod Meets
pub mod Bytes
pub mod Fits
pub mod FitsInputs
pub mod Firsts
