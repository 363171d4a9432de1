pub mod Owned
pub mod Lanes
pub mod Asked
pub mod Reading
