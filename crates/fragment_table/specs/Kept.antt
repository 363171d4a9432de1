-- How a table is kept: each row with the end of its fragment.
use Rattle.std.specs.Prelude.{◌≡◌, ℕ, ◌+◌, ◌-◌, List, [], ◌∷◌, map, vec_len, vec_capacity}
use Rattle.std.specs.Global.{Vec}
use Rattle.fragment_table.specs.declared.table.FragmentRow.{FragmentRow}
use Rattle.fragment_table.specs.Table.{TableRow, Table, AreRows}

-- a row without its end
abbrev pub table_row_of : FragmentRow → TableRow
table_row_of row = record { length = row.length; digest = row.digest }

-- the rows as contracts see them, in the order of the fragments
abbrev pub table_rows_of : List FragmentRow → List TableRow
table_rows_of rows = map table_row_of rows

-- the table that contracts see; its room is the capacity that no row takes
abbrev pub kept_table : Vec FragmentRow → Table
kept_table rows = record { rows = table_rows_of rows.items; room = vec_capacity rows - vec_len rows }

-- each fragment ends so many bytes behind the one before
abbrev pub EndsFrom : ℕ → List FragmentRow → Type 0
EndsFrom start [] = Unit {0}
EndsFrom start (row ∷ rows) = (row.end ≡ start + row.length) × EndsFrom row.end rows

-- the rows are those of some table, and each end is the sum of the lengths up to it
pub record AreKept (rows : List FragmentRow) : Type 0 where
  pub valid : AreRows (table_rows_of rows)
  pub ends : EndsFrom 0 rows
