pub mod Writing
pub mod Due
pub mod Texts
pub mod Written
pub mod Report
pub mod Laws
