pub mod Format
pub mod Copies
pub mod Packs
pub use Rattle.stripe_header.specs.Spelling
pub use Rattle.packed_directory.specs.PackedImage
pub use Rattle.dir_sync.specs.SyncCalls
pub use Rattle.logged_disk.specs.Device
pub use Rattle.tape_base.specs.Place
