pub mod Needs
pub mod Running
pub mod Devices
