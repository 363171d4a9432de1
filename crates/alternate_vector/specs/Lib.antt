pub mod Alternates
pub mod Field
pub mod Joined
pub mod Lines
pub mod Reading
pub mod Spelling
pub mod Vary
pub use Rattle.fragment_table.specs.Reading as TableReading
pub use Rattle.fragment_table.specs.Table
