-- What an opening of a device finds: the newest copy of the directory, and the pieces that it names.
use Rattle.std.specs.Prelude.{ℕ, Bool, List}
use Rattle.cache_model.specs.declared.findings.FoundRow.{FoundRow}

-- the serial, cursor, next put number and clean mark of a copy, the place below which nothing is looked for, and the
-- pieces that stand from there on, in rising place
pub record Opening : Type 0 where
  pub serial : ℕ
  pub cursor : ℕ
  pub floor : ℕ
  pub next_put : ℕ
  pub clean : Bool
  pub found : List FoundRow
