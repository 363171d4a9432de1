pub mod Lines
pub mod Ending
pub mod Halt
pub mod Inspects
pub mod Commands
