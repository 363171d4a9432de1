-- What a contract sees of a `FullChronicle`.
use Rattle.std.specs.Prelude.{ℕ, List}
use Rattle.cache_model.specs.declared.record.Rec.{Rec}
use Rattle.cache_model.specs.State.{State, nothing_yet, after_all}
use Rattle.cache_model.specs.Kept.{Kept, all_of}

-- its records, and how many more can be pushed without memory
pub record History : Type 0 where
  pub records : List Rec
  pub room : ℕ

-- nothing was forgotten
abbrev pub kept_of_history : History → Kept
kept_of_history h = all_of h.records

-- what the records stand for
abbrev pub state_of_history : History → State
state_of_history h = after_all nothing_yet h.records
