pub mod Seen
pub mod Cache
pub mod Resting
