-- The causes that answers tell have no count of faults to which the device has not come.
use Rattle.std.proofs.Common.{◌≡◌, ℕ, ◌≤◌, List, [], ◌∷◌, ◌⊎◌, inl, inr, Bool, true, false, cond, refl, sym, ◌∙◌, ap, subst, arith}
use Rattle.std.specs.Prelude.{Option, Some, None, if◌then◌else◌, option_map, unwrap_or, ◌==◌}
use Rattle.std.specs.List.{AllByRecursion}
use Rattle.std.specs.Map.{lookup}
use Rattle.tape_base.specs.declared.keys.Key.{Key}
use Rattle.tape_base.specs.declared.pieces.PieceId.{PieceId}
use Rattle.tape_base.specs.Piece.{same_piece}
use Rattle.cache_model.specs.declared.cause.Cause.{Cause}
use Rattle.cache_model.specs.declared.cause.Cause.TheVariants as cause
use Rattle.cache_model.specs.State.{Complete, LastVector, Row, State, TakenOut, last_abort, last_vector, live_row_of, row_of, vector_piece}
use Rattle.cache_model.specs.Verdict.{cause_of_beginning, cause_of_last, cause_of_miss, cause_of_piece, cause_without_vector, next_piece, no_match, no_record, passed}
use Rattle.call_laws.specs.Moments.{At}
use Rattle.cache_answers.specs.declared.answers.NextPiece.{NextPiece}
use Rattle.cache_answers.specs.declared.answers.NextPiece.TheVariants as piece
use Rattle.cache_answers.specs.declared.answers.Opened.{Opened}
use Rattle.cache_answers.specs.declared.answers.Opened.TheVariants as opened
use Rattle.cache_calls.specs.Actors.{ReaderSeen, as_row}
use Rattle.cache_calls.specs.Keeping.{state_at}
use Rattle.cache_calls.specs.Readers.{IsCountedBreak, IsCountedCause, IsCountedMiss, answer_in}
use Rattle.script_run.specs.Answers.{broken_said, miss_said}
use Rattle.script_run.specs.Losses.{NoLossIsAFault, is_fault}
use Rattle.cache_replay.specs.Getting.{count_in_piece}
use Rattle.run_promise.specs.Outline.{count_in, count_of_cause}
use Rattle.cache_replay.specs.ReaderLines.{next_answer, opened_answer}

-- ---- no loss tells a count

no_fault : (why : Cause) → is_fault why ≡ false → count_of_cause why ≡ 0
no_fault (cause.DeviceFault count) none = cc
no_fault _ none = refl

found_counts : (b : Bool) (why : Cause) (found : Option Cause) (other : Cause) → is_fault why ≡ false
    → count_of_cause (unwrap_or found other) ≡ 0
    → count_of_cause (unwrap_or (cond b (Some why) found) other) ≡ 0
found_counts true why found other none rest = no_fault why none
found_counts false why found other none rest = rest

lost_counts : (test : PieceId → Bool) (lost : List (PieceId × Cause)) (other : Cause) → AllByRecursion (λ (l : PieceId × Cause). is_fault l.1 ≡ false) lost
    → count_of_cause other ≡ 0 → count_of_cause (unwrap_or (lookup test lost) other) ≡ 0
lost_counts test [] other none rest = rest
lost_counts test (l ∷ lost) other none rest = found_counts (test l.0) l.1 (lookup test lost) other none.0 (lost_counts test lost other none.1 rest)

-- nor is that of what no record speaks of
beginning_counts : (b : Bool) (opened : Option ℕ) (dropped : ℕ) → count_of_cause (if b then cause_of_beginning opened else cause.Unrecorded dropped) ≡ 0
beginning_counts true None dropped = refl
beginning_counts true (Some serial) dropped = refl
beginning_counts false opened dropped = refl

passed_counts : (s : State) (o : Option Row) → count_of_cause (unwrap_or (option_map (passed s) o) (no_record s)) ≡ 0
passed_counts s None = beginning_counts (s.dropped == 0) s.opened s.dropped
passed_counts s (Some row) = refl

-- why a piece is not live is no fault
pub loss_counts : (s : State) (id : PieceId) → NoLossIsAFault s → count_of_cause (cause_of_piece s id) ≡ 0
loss_counts s id none = lost_counts (λ lost. same_piece lost id) s.lost (unwrap_or (option_map (passed s) (row_of s id)) (no_record s)) none (passed_counts s (row_of s id))

vector_counts : (s : State) (id : PieceId) (o : Option Row) → NoLossIsAFault s → count_of_cause (unwrap_or (option_map (λ (row : Row). no_match s id) o) (cause_of_piece s id)) ≡ 0
vector_counts s id None none = loss_counts s id none
vector_counts s id (Some row) none = refl

last_counts : (s : State) (key : Key) (last : LastVector) → NoLossIsAFault s → count_of_cause (cause_of_last s key last) ≡ 0
last_counts s key (Complete put) none = vector_counts s (vector_piece key put) (live_row_of s (vector_piece key put)) none
last_counts s key (TakenOut put) none = refl

none_counts : (s : State) (o : Option ℕ) → count_of_cause (unwrap_or (option_map cause.Aborted o) (no_record s)) ≡ 0
none_counts s None = beginning_counts (s.dropped == 0) s.opened s.dropped
none_counts s (Some put) = refl

missed_counts : (s : State) (key : Key) (o : Option LastVector) → NoLossIsAFault s
    → count_of_cause (unwrap_or (option_map (cause_of_last s key) o) (cause_without_vector s key)) ≡ 0
missed_counts s key None none = none_counts s (last_abort s key)
missed_counts s key (Some last) none = last_counts s key last none

-- nor is why a key gives nothing
pub miss_counts : (s : State) (key : Key) → NoLossIsAFault s → count_of_cause (cause_of_miss s key) ≡ 0
miss_counts s key none = missed_counts s key (last_vector s key) none

-- ---- causes

-- a count that is 0
pub at_most : (n k : ℕ) → n ≡ 0 → n ≤ k
at_most n k e = omega (arith, e)

cause_counts : (old new : At) (why : Cause) → IsCountedCause old new why → count_of_cause why ≤ new.device.faults
cause_counts old new (cause.DeviceFault count) h = h.reached
cause_counts old new _ h = omega arith

-- a cause that stands, or that is counted
either_counts : (old new : At) (why other : Cause) → count_of_cause other ≡ 0 → (why ≡ other) ⊎ IsCountedCause old new why
    → count_of_cause why ≤ new.device.faults
either_counts old new why other none (inl is) = at_most (count_of_cause why) new.device.faults (ap count_of_cause is ∙ none)
either_counts old new why other none (inr counted) = cause_counts old new why counted

-- ---- answers

miss_said_counts : (why : Cause) → count_in (miss_said why) ≡ count_of_cause why
miss_said_counts (cause.DeviceFault count) = refl
miss_said_counts _ = refl

broken_said_counts : (why : Cause) → count_in (broken_said why) ≡ count_of_cause why
broken_said_counts (cause.DeviceFault count) = refl
broken_said_counts _ = refl

pub miss_tells : (why : Cause) (n : ℕ) → count_of_cause why ≤ n → count_in (miss_said why) ≤ n
miss_tells why n h = subst (λ k. k ≤ n) (sym (miss_said_counts why)) h

pub broken_tells : (why : Cause) (n : ℕ) → count_of_cause why ≤ n → count_in (broken_said why) ≤ n
broken_tells why n h = subst (λ k. k ≤ n) (sym (broken_said_counts why)) h

-- a lookup
pub missed_tells : {R : Type 0} (old new : At) (key : Key) (given : Opened R) → NoLossIsAFault (state_at old) → IsCountedMiss old new key (answer_in given)
    → count_in (opened_answer given) ≤ new.device.faults
missed_tells old new key (opened.Hit reader put length) none h = omega arith
missed_tells old new key (opened.Follow reader put) none h = omega arith
missed_tells old new key (opened.Miss why) none h =
    miss_tells why new.device.faults (either_counts old new why (cause_of_miss (state_at old) key) (miss_counts (state_at old) key none) h)

-- a reader that reads on
pub piece_counts : (old new : At) (r : ReaderSeen) (given : NextPiece) → NoLossIsAFault (state_at old) → IsCountedBreak old new r given
    → count_in_piece given ≤ new.device.faults
piece_counts old new r (piece.Piece index size) none h = omega arith
piece_counts old new r (piece.End size) none h = omega arith
piece_counts old new r (piece.NotYet cut) none h = omega arith
piece_counts old new r (piece.Broken why) none h =
    let id = next_piece (as_row r) in
    either_counts old new why (cause_of_piece (state_at old) id) (loss_counts (state_at old) id none) h

pub piece_tells : (given : NextPiece) (into : List ℕ) (n : ℕ) → count_in_piece given ≤ n → count_in (next_answer given into) ≤ n
piece_tells (piece.Piece index size) into n h = h
piece_tells (piece.End size) into n h = h
piece_tells (piece.NotYet cut) into n h = h
piece_tells (piece.Broken why) into n h = broken_tells why n h
