mod Turning
pub mod Calls
pub mod Rest
