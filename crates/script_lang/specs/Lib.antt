pub mod Taken
pub mod Refusal
pub mod Spelled
pub mod Lines
pub mod Jobs
