pub mod Head
pub mod Copies
pub mod Lines
pub mod Inspect
pub mod Check
