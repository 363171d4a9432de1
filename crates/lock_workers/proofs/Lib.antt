pub mod Under
pub mod Fronts
pub mod Joining
pub mod Hiring
