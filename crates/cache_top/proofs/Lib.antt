pub mod Devices
pub mod Sends
