-- What comes of a piece depends on the state through the geometry, where its buffer begins, how far that is filled and its last
-- fault alone.
use Rattle.std.proofs.Common.{◌≡◌, ℕ, ◌+◌, List, [], ◌∷◌, refl, sym, ◌∙◌, subst, arith}
use Rattle.device_log.specs.Causes.{Rose}
use Rattle.device_log.specs.Calls.{Asked, ToRead, ToWrite, Read}
use Rattle.tape_base.specs.Place.{block_of}
use Rattle.cache_model.specs.State.{State, Row, after_all}
use Rattle.cache_model.specs.Permit.{Permit, IsAmong}
use Rattle.cache_model.specs.Given.{CountsRead, CountsWrite, IsDamaged, IsGiven, IsWritten, MayCount}
use Rattle.tape_base.specs.declared.digests.Digest.{Digest}
use Rattle.cache_model.specs.Outcomes.{AreOutcomes, Copied, IsOutcome, NoRoom, Outcome, ReadRefused, Spoiled, left_behind, records_of, stopped_records_of}

-- ---- states alike

-- in t places have the blocks that they have in s, and as much is written out
abbrev pub ReadsAlike : State → State → Type 0
ReadsAlike s t = (t.geometry ≡ s.geometry) × (t.cursor ≡ s.cursor)

pub reads_self : (s : State) → ReadsAlike s s
reads_self s = (refl, refl)

pub reads_back : (s t : State) → ReadsAlike s t → ReadsAlike t s
reads_back s t a = (sym a.0, sym a.1)

-- t tells as much of a piece and of the buffer as s
abbrev pub IsAlike : State → State → Type 0
IsAlike s t = ReadsAlike s t × (t.filled ≡ s.filled) × (t.fault ≡ s.fault)

pub alike_self : (s : State) → IsAlike s s
alike_self s = (reads_self s, refl, refl)

pub alike_trans : (s t u : State) → IsAlike s t → IsAlike t u → IsAlike s u
alike_trans s t u a b = ((b.0.0 ∙ a.0.0, b.0.1 ∙ a.0.1), b.1 ∙ a.1, b.2 ∙ a.2)

pub written_alike : (s t : State) (row : Row) → t.cursor ≡ s.cursor → IsWritten s row → IsWritten t row
written_alike s t row same h = omega (arith, same, h)

pub given_alike : (p : Permit) (s t : State) (row : Row) (bytes : List ℕ) → ReadsAlike s t → IsGiven p s row bytes → IsGiven p t row bytes
given_alike p s t row bytes same g = record {
  written = written_alike s t row same.1 g.written;
  given = subst (λ geometry. IsAmong (Read (block_of geometry row.place) bytes) p.events) (sym same.0) g.given;
  whole = g.whole;
  of_bytes = g.of_bytes;
}

pub counts_alike : (p : Permit) (s t : State) (asked : Asked) (count : ℕ) → t.fault ≡ s.fault → MayCount p s asked count → MayCount p t asked count
counts_alike p s t asked count same m = record { rose = subst (λ n. Rose n count) (sym same) m.rose; refused = m.refused }

pub read_alike : (p : Permit) (s t : State) (row : Row) (count : ℕ) → IsAlike s t → CountsRead p s row count → CountsRead p t row count
read_alike p s t row count a m =
    subst (λ geometry. MayCount p t (ToRead (block_of geometry row.place) row.blocks) count) (sym a.0.0) (counts_alike p s t _ count a.2 m)

pub write_alike : (p : Permit) (s t : State) (count : ℕ) → IsAlike s t → CountsWrite p s count → CountsWrite p t count
write_alike p s t count a m = record {
  left = m.left;
  counts =
      subst (λ geometry. MayCount p t (ToWrite (block_of geometry t.cursor) t.filled m.left) count) (sym a.0.0)
      (subst (λ cursor. MayCount p t (ToWrite (block_of s.geometry cursor) t.filled m.left) count) (sym a.0.1)
      (subst (λ filled. MayCount p t (ToWrite (block_of s.geometry s.cursor) filled m.left) count) (sym a.1)
      (counts_alike p s t (ToWrite (block_of s.geometry s.cursor) s.filled m.left) count a.2 m.counts)));
}

damaged_alike : (p : Permit) (s t : State) (row : Row) (found : Digest) → ReadsAlike s t → IsDamaged p s row found → IsDamaged p t row found
damaged_alike p s t row found same d = record { bytes = d.bytes; given = given_alike p s t row d.bytes same d.given; digest = d.digest; differ = d.differ }

pub outcome_alike : (p : Permit) (s t : State) (left : ℕ) (row : Row) (o : Outcome) → IsAlike s t → IsOutcome p s left row o → IsOutcome p t left row o
outcome_alike p s t left row NoRoom a h = h
outcome_alike p s t left row (Copied bytes) a h = (h.0, given_alike p s t row bytes a.0 h.1, h.2)
outcome_alike p s t left row (Spoiled found) a h = (h.0, damaged_alike p s t row found a.0 h.1)
outcome_alike p s t left row (ReadRefused count) a h = (h.0, written_alike s t row a.0.1 h.1, read_alike p s t row count a h.2)

-- the records of a piece leave two states alike
alike_records : (s t : State) (row : Row) (o : Outcome) → IsAlike s t → IsAlike (after_all s (records_of row o)) (after_all t (records_of row o))
alike_records s t row NoRoom a = a
alike_records s t row (Copied bytes) a = a
alike_records s t row (Spoiled found) a = a
alike_records s t row (ReadRefused count) a = (a.0, a.1, refl)

-- so one behind the other
pub outcomes_alike : (p : Permit) (s t : State) (left : ℕ) (rows : List Row) (outcomes : List Outcome) → IsAlike s t → AreOutcomes p s left rows outcomes → AreOutcomes p t left rows outcomes
outcomes_alike p s t left [] [] a h = tt
outcomes_alike p s t left [] (o ∷ outcomes) a h = absurd h
outcomes_alike p s t left (row ∷ rows) [] a h = absurd h
outcomes_alike p s t left (row ∷ rows) (o ∷ outcomes) a h = (
  outcome_alike p s t left row o a h.0,
  outcomes_alike p (after_all s (records_of row o)) (after_all t (records_of row o)) (left_behind left row o) rows outcomes (alike_records s t row o a) h.1,
)

-- and so do those of a flush that stops
pub alike_stopped : (s t : State) (row : Row) (o : Outcome) → IsAlike s t → IsAlike (after_all s (records_of row o)) (after_all t (stopped_records_of row o))
alike_stopped s t row NoRoom a = a
alike_stopped s t row (Copied bytes) a = a
alike_stopped s t row (Spoiled found) a = a
alike_stopped s t row (ReadRefused count) a = (a.0, a.1, refl)
