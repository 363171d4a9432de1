pub use Rattle.stripe_header.specs.Layout
pub use Rattle.logged_disk.specs.MemDisk
