pub mod Cyclone
pub mod Switch
pub mod Syncing
pub use Rattle.logged_disk.specs.Device
pub use Rattle.agg_buffer.specs.Buffer
pub use Rattle.dir_table.specs.Rows
pub use Rattle.tape_base.specs.Place
