-- What a contract sees of a `ListDirectory`.
use Rattle.std.specs.Prelude.{ℕ, List}
use Rattle.dir_table.specs.declared.rows.StoredRow.{StoredRow}
use Rattle.dir_table.specs.declared.window.Window.{Window}
use Rattle.dir_table.specs.Links.{rows_of}

-- its window, the rows with their numbers, the newest first, and how many more take no memory
pub record Listed : Type 0 where
  pub window : Window
  pub entries : List (ℕ × StoredRow)
  pub spare : ℕ

-- the rows alone, the newest first
abbrev pub rows_listed : Listed → List StoredRow
rows_listed d = rows_of d.entries
