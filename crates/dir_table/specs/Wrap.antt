-- Which rows go when a buffer begins.
use Rattle.std.specs.Prelude.{ℕ, nat_le, List, filter}
use Rattle.dir_table.specs.declared.rows.DirRow.{DirRow}
use Rattle.dir_table.specs.declared.rows.StoredRow.{StoredRow}

-- the rows at a place or above, in their order
abbrev pub rows_at_or_above : ℕ → List DirRow → List DirRow
rows_at_or_above low rows = filter (λ r. nat_le low r.place) rows

-- the same of rows with what is kept of each
abbrev pub stored_from : ℕ → List StoredRow → List StoredRow
stored_from low rows = filter (λ r. nat_le low r.place) rows
