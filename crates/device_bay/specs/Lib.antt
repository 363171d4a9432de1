pub use Rattle.device_log.specs.Image
pub use Rattle.device_log.specs.Calls as DeviceCalls
pub use Rattle.device_log.specs.Faults
pub use Rattle.logged_disk.specs.Device
pub use Rattle.logged_disk.specs.MemDisk as MemoryDevice
pub use Rattle.device_log.specs.Causes
pub mod Calls
pub mod Entry
pub mod Register
pub mod Bay
pub mod Returns
pub mod MemBay
pub mod HostDisk
