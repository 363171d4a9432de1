pub use Rattle.dir_table.specs.Candidates
pub use Rattle.dir_table.specs.Rows
pub use Rattle.dir_table.specs.Window
