-- What the records of a flush leave as it is.
use Rattle.std.proofs.Common.{◌≡◌, ℕ, List, [], ◌∷◌, refl, ◌∙◌, subst}
use Rattle.std.specs.Prelude.{Option, Some, None, option_and_then, Result, Ok, Err}
use Rattle.std.specs.List.{AllByRecursion}
use Rattle.std.specs.Map.{lookup}
use Rattle.tape_base.specs.declared.keys.Key.{Key}
use Rattle.tape_base.specs.declared.pieces.PieceId.{PieceId}
use Rattle.tape_base.specs.Key.{same_key}
use Rattle.cache_model.specs.declared.record.Rec.{Rec}
use Rattle.cache_model.specs.declared.record.Rec.TheVariants as rec
use Rattle.cache_model.specs.State.{LastVector, Row, State, after_all, last_vector, live_row_of, state_after}
use Rattle.cache_model.specs.Verdict.{live_vector_of, vector_of_last}
use Rattle.cache_answers.specs.declared.answers.Refusal.{Refusal}
use Rattle.cache_answers.specs.declared.answers.Refusal.TheVariants as refusal
use Rattle.piece_answers.specs.declared.answer.Stop.{Stop}
use Rattle.piece_answers.specs.declared.answer.Stop.TheVariants as stop
use Rattle.stripe_core.specs.Stripe.{AnswersOrWants, HasMemory}
use Rattle.cache_model.specs.Subjects.{IsOfFlush, IsOfPut}
use Rattle.cache_model.specs.Live.{IsSamePiece, LiveBefore}
use Rattle.piece_answers.specs.Flush.{AreOfFlush}

-- puts, readers, vectors and inserts are as they were
pub record LeavesActors (s t : State) : Type 0 where
  pub geometry : t.geometry ≡ s.geometry
  pub puts : t.puts ≡ s.puts
  pub readers : t.readers ≡ s.readers
  pub pending : t.pending ≡ s.pending
  pub displaced : t.displaced ≡ s.displaced
  pub vectors : t.vectors ≡ s.vectors
  pub next_put : t.next_put ≡ s.next_put
  pub next_reader : t.next_reader ≡ s.next_reader

pub leaves_all : (s : State) → LeavesActors s s
leaves_all s = record { geometry = refl; puts = refl; readers = refl; pending = refl; displaced = refl; vectors = refl; next_put = refl; next_reader = refl }

leaves_then : (s t u : State) → LeavesActors s t → LeavesActors t u → LeavesActors s u
leaves_then s t u a b = record {
  geometry = b.geometry ∙ a.geometry;
  puts = b.puts ∙ a.puts;
  readers = b.readers ∙ a.readers;
  pending = b.pending ∙ a.pending;
  displaced = b.displaced ∙ a.displaced;
  vectors = b.vectors ∙ a.vectors;
  next_put = b.next_put ∙ a.next_put;
  next_reader = b.next_reader ∙ a.next_reader;
}

one_leaves : (s : State) (r : Rec) → IsOfFlush r → LeavesActors s (state_after s r)
one_leaves s (rec.Began cursor floor) h = record { geometry = refl; puts = refl; readers = refl; pending = refl; displaced = refl; vectors = refl; next_put = refl; next_reader = refl }
one_leaves s (rec.Moved piece from place digest) h = record { geometry = refl; puts = refl; readers = refl; pending = refl; displaced = refl; vectors = refl; next_put = refl; next_reader = refl }
one_leaves s (rec.Unsaved piece place fault) h = record { geometry = refl; puts = refl; readers = refl; pending = refl; displaced = refl; vectors = refl; next_put = refl; next_reader = refl }
one_leaves s (rec.Damaged piece place kept found) h = record { geometry = refl; puts = refl; readers = refl; pending = refl; displaced = refl; vectors = refl; next_put = refl; next_reader = refl }
one_leaves s (rec.Fault count) h = record { geometry = refl; puts = refl; readers = refl; pending = refl; displaced = refl; vectors = refl; next_put = refl; next_reader = refl }
one_leaves s _ h = absurd h

pub flush_leaves : (s : State) (recs : List Rec) → AreOfFlush recs → LeavesActors s (after_all s recs)
flush_leaves s [] h = leaves_all s
flush_leaves s (r ∷ recs) h = leaves_then s (state_after s r) _ (one_leaves s r h.0) (flush_leaves (state_after s r) recs h.1)

-- ---- they are of any put

one_of_put : (put : ℕ) (r : Rec) → IsOfFlush r → IsOfPut put r
one_of_put put (rec.Began cursor floor) h = tt
one_of_put put (rec.Moved piece from place digest) h = tt
one_of_put put (rec.Unsaved piece place fault) h = tt
one_of_put put (rec.Damaged piece place kept found) h = tt
one_of_put put (rec.Fault count) h = tt
one_of_put put _ h = absurd h

pub flush_is_own : (put : ℕ) (recs : List Rec) → AreOfFlush recs → AllByRecursion (IsOfPut put) recs
flush_is_own put [] h = tt
flush_is_own put (r ∷ recs) h = (one_of_put put r h.0, flush_is_own put recs h.1)

-- ---- a vector that is live behind them was live before

-- a live vector, and the same piece
pub record WasLive (s : State) (key : Key) (row : Row) : Type 0 where
  pub before : Row
  pub live : live_vector_of s key ≡ Some before
  pub same : IsSamePiece before row

live_found : (s t : State) (o : Option PieceId) (row : Row) → LiveBefore s t → option_and_then (live_row_of t) o ≡ Some row
    → (before : Row) × (option_and_then (live_row_of s) o ≡ Some before) × IsSamePiece before row
live_found s t None row live h = cc
live_found s t (Some id) row live h = live id row h

pub vector_before : (s t : State) (key : Key) (row : Row) → t.vectors ≡ s.vectors → LiveBefore s t → live_vector_of t key ≡ Some row → WasLive s key row
vector_before s t key row same live h =
    let there : option_and_then (live_row_of t) (option_and_then (vector_of_last key) (last_vector s key)) ≡ Some row =
    subst (λ (vs : List (Key × LastVector)). option_and_then (live_row_of t) (option_and_then (vector_of_last key) (lookup (λ k. same_key k key) vs)) ≡ Some row) same h in
    let found = live_found s t (option_and_then (vector_of_last key) (last_vector s key)) row live there in
    record { before = found.0; live = found.1; same = found.2 }

-- ---- why a call stops

-- a refusal that is not for want of memory, where there is no other
pub stop_in : {X : Type 0} (R : Result X Stop → Type 0) (why : Refusal) → AnswersOrWants {X = X} (Err why) R ⊥ → (x : Stop) × R (Err x)
stop_in R (refusal.DeviceFault count) h = (stop.DeviceFault count, h)
stop_in R (refusal.Exhausted number) h = (stop.Exhausted number, h)
stop_in R _ h = absurd h

-- where memory is not wanting, whatever may hold for want of it
pub never_wanting : {X : Type 0} (r : Result X Refusal) (answers : Result X Stop → Type 0) (wanting holds : Type 0) → HasMemory r
    → AnswersOrWants r answers wanting → AnswersOrWants r answers holds
never_wanting (Ok x) answers wanting holds memory h = h
never_wanting (Err (refusal.DeviceFault count)) answers wanting holds memory h = h
never_wanting (Err (refusal.Exhausted number)) answers wanting holds memory h = h
never_wanting (Err (refusal.Memory e)) answers wanting holds memory h = absurd memory
never_wanting (Err _) answers wanting holds memory h = absurd h
