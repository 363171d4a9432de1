-- A flush leaves each fragment that part of what its writer took, or shows two documents of one SHA-256; and
-- one that stops leaves it so.
use Rattle.std.proofs.Common.{◌⊎◌, ℕ, List, inl, inr}
use Rattle.cache_model.specs.State.{State, Row, after_all}
use Rattle.cache_model.specs.Pair.{IsCopyPair}
use Rattle.cache_model.specs.Permit.{Permit}
use Rattle.cache_model.specs.Tape.{IsSound}
use Rattle.cache_model.specs.Due.{due_pieces}
use Rattle.cache_model.specs.Outcomes.{AreOutcomes, Outcome, flush_records, stopped_records}
use Rattle.script_run.specs.Run.{Stream}
use Rattle.script_run.specs.Own.{AreOwn, IsPlacedAs}
use Rattle.script_run.proofs.Saying.{stands_alike}
use Rattle.script_run.proofs.Fragments.{own_kind, own_stands, stands_own}
use Rattle.script_run.proofs.Flushing.{loses_alike, stands_flushed, stopped_loses}

pub flush_owns : (p : Permit) (s : State) (streams : ℕ → Stream) (now left : ℕ) (outcomes : List Outcome) → IsSound s → AreOwn s streams → AreOutcomes p s left (due_pieces s now) outcomes
    → AreOwn (after_all s (flush_records s (due_pieces s now) outcomes)) streams ⊎ IsCopyPair (IsPlacedAs streams) p s now left
flush_owns p s streams now left outcomes sound own o = elim (stands_flushed own_kind p s streams now left outcomes sound (stands_own s streams own) o) [
  | inl stands ↦ inl (own_stands (after_all s (flush_records s (due_pieces s now) outcomes)) streams stands)
  | inr pair ↦ inr pair
]

pub stopped_owns : (s : State) (streams : ℕ → Stream) (rows : List Row) (outcomes : List Outcome) (count : ℕ) → AreOwn s streams → AreOwn (after_all s (stopped_records rows outcomes count)) streams
stopped_owns s streams rows outcomes count own =
    let t : State = after_all s (stopped_records rows outcomes count) in
    own_stands t streams (stands_alike own_kind s t streams (loses_alike s t (stopped_loses s rows outcomes count)) (stands_own s streams own))
