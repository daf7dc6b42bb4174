mod Dotted
mod Texts
mod Walks
