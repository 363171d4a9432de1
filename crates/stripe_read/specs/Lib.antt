pub mod Readers
pub mod Troubles
pub mod Lookups
pub mod Fetches
pub mod Nexts
