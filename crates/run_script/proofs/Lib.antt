pub mod Runs
pub mod Stories
pub mod Halts
pub mod Ends
pub mod Tops
mod Witnesses
pub mod Steady
pub mod Commands
pub mod Inspecting
