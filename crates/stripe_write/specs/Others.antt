-- Whose records the calls of a writer add.
use Rattle.std.specs.Prelude.{ℕ, ◌≡◌, List}
use Rattle.std.specs.List.{AllByRecursion}
use Rattle.cache_model.specs.declared.record.Rec.{Rec}
use Rattle.cache_model.specs.State.{State, put_of}
use Rattle.cache_model.specs.Kept.{Kept, state_of, with_records}
use Rattle.cache_model.specs.Subjects.{IsOfPut}

-- records of one put alone were added
pub record AddsOfPut (put : ℕ) (old new : Kept) : Type 0 where
  pub added : List Rec
  pub adds : new ≡ with_records old added
  pub own : AllByRecursion (IsOfPut put) added
