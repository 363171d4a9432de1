-- What a directory and its image say of each other.
use Rattle.std.specs.Prelude.{ℕ, ◌≤◌, List}
use Rattle.std.specs.List.Sorted.{IsPermutation}
use Rattle.dir_table.specs.declared.rows.StoredRow.{StoredRow}
use Rattle.dir_table.specs.Wrap.{stored_from}

-- an image tells the rows from some place at or below a bound on
pub record Tells (bound : ℕ) (rows told : List StoredRow) : Type 0 where
  pub low : ℕ
  pub below : low ≤ bound
  pub from : IsPermutation (stored_from low rows) told
