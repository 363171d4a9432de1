pub mod Surviving
pub mod Formatted
