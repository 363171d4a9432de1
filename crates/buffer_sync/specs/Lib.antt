pub mod OnDevice
pub mod Covering
pub use Rattle.cyclone.specs.Cyclone
pub use Rattle.cyclone.specs.Syncing
