-- What a chronicle keeps: the values at its beginning, and the records since.
use Rattle.std.specs.Prelude.{ℕ, ◌+◌, List, [], ◌∷◌, ◌++◌, length}
use Rattle.cache_model.specs.declared.record.Rec.{Rec}
use Rattle.cache_model.specs.State.{State, nothing_yet, after_all}

-- a chronicle, which need not keep the records that led to its base: how many they were, what they made, and those since
pub record Kept : Type 0 where
  pub told : ℕ
  pub base : State
  pub since : List Rec

-- what it stands for
abbrev pub state_of : Kept → State
state_of k = after_all k.base k.since

-- how many records it was ever told
abbrev pub count_of : Kept → ℕ
count_of k = k.told + length k.since

-- all the records of a session
abbrev pub all_of : List Rec → Kept
all_of recs = record { told = 0; base = nothing_yet; since = recs }

-- with more records
abbrev pub with_records : Kept → List Rec → Kept
with_records k recs = record { told = k.told; base = k.base; since = k.since ++ recs }

-- with one record more, behind all others
abbrev pub with_record : Kept → Rec → Kept
with_record k rec = with_records k (rec ∷ [])
