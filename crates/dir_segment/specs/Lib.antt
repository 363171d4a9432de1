pub mod Cleaning
pub mod Entries
pub mod Image
pub mod Links
pub mod Lists
pub mod Purging
pub use Rattle.dir_entry.specs.Layout
