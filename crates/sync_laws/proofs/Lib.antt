mod Beside
pub mod Watching
pub mod Carrying
mod Content
mod Sparing
mod Laying
mod Naming
mod ToCome
mod Phases
mod Whole
mod Syncs
mod First
