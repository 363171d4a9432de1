pub mod Needs
pub mod Outline
pub mod Lines
pub mod Story
pub mod Top
