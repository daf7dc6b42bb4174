mod Accepting
mod Grouped
mod Platformed
