pub mod Layout
pub mod Sizes
