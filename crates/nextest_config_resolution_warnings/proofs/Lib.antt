mod Exact
pub mod Fronts
mod InOrder
mod Lines
mod Named
mod Rules
mod Sections
mod Showing
mod Standing
mod Ways
