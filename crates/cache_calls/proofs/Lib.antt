pub mod Keeping
pub mod Others
mod Faults
