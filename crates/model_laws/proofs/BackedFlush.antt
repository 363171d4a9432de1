-- What a flush records of the pieces that it does not copy is what the device did.
use Rattle.std.proofs.Common.{ℕ, List, [], ◌∷◌, ◌++◌}
use Rattle.device_log.specs.Calls.{Asked}
use Rattle.cache_model.specs.declared.record.Rec.{Rec}
use Rattle.cache_model.specs.declared.record.Rec.TheVariants as rec
use Rattle.cache_model.specs.State.{State, Row, after_all, state_after, AllAlong}
use Rattle.cache_model.specs.Permit.{Permit}
use Rattle.cache_model.proofs.Steps.{along_append}
use Rattle.cache_model.specs.Given.{MayCount}
use Rattle.model_laws.specs.FlushLaws.{IsOfDevice}
use Rattle.step_laws.specs.StepLaws.{IsRisen}
use Rattle.cache_model.specs.Outcomes.{AreOutcomes, Copied, IsOutcome, NoRoom, Outcome, ReadRefused, Spoiled, front_of, left_behind, records_of, stopped_front_of, stopped_records, stopped_records_of}
use Rattle.step_laws.proofs.Alike.{IsAlike, alike_self, alike_stopped, outcome_alike}

pub risen : (p : Permit) (s : State) (asked : Asked) (count : ℕ) → MayCount p s asked count → IsRisen p s (rec.Fault count)
risen p s asked count m = (m.rose, (asked, m.refused))

one_risen : (p : Permit) (s : State) (left : ℕ) (row : Row) (o : Outcome) → IsOutcome p s left row o → AllAlong (IsRisen p) s (records_of row o)
one_risen p s left row NoRoom h = (tt, tt)
one_risen p s left row (Copied bytes) h = tt
one_risen p s left row (Spoiled found) h = (tt, tt)
one_risen p s left row (ReadRefused count) h = (risen p s _ count h.2, (tt, tt))

one_backed : (p : Permit) (s : State) (left : ℕ) (row : Row) (o : Outcome) → IsOutcome p s left row o → AllAlong (IsOfDevice p) s (records_of row o)
one_backed p s left row NoRoom h = (tt, tt)
one_backed p s left row (Copied bytes) h = tt
one_backed p s left row (Spoiled found) h =
    let d = h.1 in
    ((record { bytes = d.bytes; given = d.given.given; digest = d.digest }, d.differ), tt)
one_backed p s left row (ReadRefused count) h = ((_, h.2.refused), (tt, tt))

pub front_is_backed : (p : Permit) (s : State) (left : ℕ) (rows : List Row) (outcomes : List Outcome) → AreOutcomes p s left rows outcomes
    → AllAlong (IsRisen p) s (front_of rows outcomes) × AllAlong (IsOfDevice p) s (front_of rows outcomes)
front_is_backed p s left [] [] h = (tt, tt)
front_is_backed p s left [] (o ∷ outcomes) h = absurd h
front_is_backed p s left (row ∷ rows) [] h = absurd h
front_is_backed p s left (row ∷ rows) (o ∷ outcomes) h =
    let rest = front_is_backed p (after_all s (records_of row o)) (left_behind left row o) rows outcomes h.1 in (
      along_append (IsRisen p) s (records_of row o) (front_of rows outcomes) (one_risen p s left row o h.0) rest.0,
      along_append (IsOfDevice p) s (records_of row o) (front_of rows outcomes) (one_backed p s left row o h.0) rest.1,
    )

-- ---- a flush that stops

one_stopped_risen : (p : Permit) (s : State) (left : ℕ) (row : Row) (o : Outcome) → IsOutcome p s left row o → AllAlong (IsRisen p) s (stopped_records_of row o)
one_stopped_risen p s left row NoRoom h = tt
one_stopped_risen p s left row (Copied bytes) h = tt
one_stopped_risen p s left row (Spoiled found) h = (tt, tt)
one_stopped_risen p s left row (ReadRefused count) h = (risen p s _ count h.2, tt)

one_stopped_backed : (p : Permit) (s : State) (left : ℕ) (row : Row) (o : Outcome) → IsOutcome p s left row o → AllAlong (IsOfDevice p) s (stopped_records_of row o)
one_stopped_backed p s left row NoRoom h = tt
one_stopped_backed p s left row (Copied bytes) h = tt
one_stopped_backed p s left row (Spoiled found) h =
    let d = h.1 in
    ((record { bytes = d.bytes; given = d.given.given; digest = d.digest }, d.differ), tt)
one_stopped_backed p s left row (ReadRefused count) h = ((_, h.2.refused), tt)

-- s is behind the records of a whole flush, t behind those of one that stops
pub stopped_front : (p : Permit) (s t : State) (left : ℕ) (rows : List Row) (outcomes : List Outcome) → IsAlike s t → AreOutcomes p s left rows outcomes
    → AllAlong (IsRisen p) t (stopped_front_of rows outcomes) × AllAlong (IsOfDevice p) t (stopped_front_of rows outcomes)
stopped_front p s t left [] [] a h = (tt, tt)
stopped_front p s t left [] (o ∷ outcomes) a h = absurd h
stopped_front p s t left (row ∷ rows) [] a h = absurd h
stopped_front p s t left (row ∷ rows) (o ∷ outcomes) a h =
    let here : IsOutcome p t left row o = outcome_alike p s t left row o a h.0 in
    let rest = stopped_front p (after_all s (records_of row o)) (after_all t (stopped_records_of row o)) (left_behind left row o) rows outcomes (alike_stopped s t row o a) h.1 in (
      along_append (IsRisen p) t (stopped_records_of row o) (stopped_front_of rows outcomes) (one_stopped_risen p t left row o here) rest.0,
      along_append (IsOfDevice p) t (stopped_records_of row o) (stopped_front_of rows outcomes) (one_stopped_backed p t left row o here) rest.1,
    )

pub stopped_is_backed : (p : Permit) (s : State) (left : ℕ) (rows : List Row) (outcomes : List Outcome) (asked : Asked) (count : ℕ) → AreOutcomes p s left rows outcomes
    → MayCount p (after_all s (stopped_front_of rows outcomes)) asked count
    → AllAlong (IsRisen p) s (stopped_records rows outcomes count) × AllAlong (IsOfDevice p) s (stopped_records rows outcomes count)
stopped_is_backed p s left rows outcomes asked count h m =
    let front = stopped_front p s s left rows outcomes (alike_self s) h in
    let t : State = after_all s (stopped_front_of rows outcomes) in (
      along_append (IsRisen p) s (stopped_front_of rows outcomes) (rec.Fault count ∷ []) front.0 (risen p t asked count m, tt),
      along_append (IsOfDevice p) s (stopped_front_of rows outcomes) (rec.Fault count ∷ []) front.1 ((asked, m.refused), tt),
    )
