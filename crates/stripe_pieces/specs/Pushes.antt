-- What it comes to that records are pushed.
use Rattle.std.specs.Prelude.{ℕ, ◌≡◌, ◌+◌, ◌≤◌, List}
use Rattle.cache_model.specs.declared.record.Rec.{Rec}
use Rattle.cache_model.specs.Kept.{with_records}
use Rattle.cache_chronicle.specs.declared.chronicle.Chronicle.{Ghosts as ChronicleGhosts}

-- a chronicle has these records more, and room for so many less at most
pub record Pushes {C : Type 0} (c : ChronicleGhosts C) (recs : List Rec) (most : ℕ) (old new : C) : Type 0 where
  pub kept : c.kept new ≡ with_records (c.kept old) recs
  pub room : c.room old ≤ c.room new + most
