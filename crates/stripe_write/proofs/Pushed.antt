-- What is displaced for a piece: the records of that are of any put, and make no vector live.
use Rattle.std.proofs.Common.{◌≡◌, ℕ, List, [], ◌∷◌, subst, Bool, true, false}
use Rattle.std.specs.Prelude.{Option, Some, None, if◌then◌else◌, option_and_then}
use Rattle.std.specs.List.{AllByRecursion}
use Rattle.tape_base.specs.declared.keys.Key.{Key}
use Rattle.tape_base.specs.declared.pieces.PieceId.{PieceId}
use Rattle.tape_base.specs.Piece.{same_piece}
use Rattle.cache_model.specs.declared.record.Rec.{Rec}
use Rattle.cache_model.specs.declared.record.Rec.TheVariants as rec
use Rattle.cache_model.specs.State.{Row, State, after_all, last_vector, live_row_of, only_live, row_in, state_after}
use Rattle.cache_model.specs.Verdict.{live_vector_of, vector_of_last}
use Rattle.cache_model.proofs.Lists.{row_in-without}
use Rattle.cache_model.specs.Displacing.{AreOfDisplacement, IsOfDisplacement}
use Rattle.piece_answers.specs.Place.{AreOfPlace}
use Rattle.piece_answers.proofs.Displacing.{pushed_kinds}
use Rattle.cache_model.specs.Subjects.{IsOfPut}

-- all that the entry of a piece displaces is recorded as displaced
pub pushed_by : {packed : Bool} (s : State) (id : PieceId) (pin start : ℕ) (payload : List ℕ) (added : List Rec) → (a : AreOfPlace packed s id pin start payload added) → AreOfDisplacement a.displaced
pushed_by {packed} s id pin start payload added a = pushed_kinds packed s id a.displaced a.pushed

-- ---- they are of any put

one_of_put : (put : ℕ) (r : Rec) → IsOfDisplacement r → IsOfPut put r
one_of_put put (rec.Displaced piece segment live) h = tt
one_of_put put _ h = absurd h

pub pushed_is_own : (put : ℕ) (recs : List Rec) → AreOfDisplacement recs → AllByRecursion (IsOfPut put) recs
pushed_is_own put [] h = tt
pushed_is_own put (r ∷ recs) h = (one_of_put put r h.0, pushed_is_own put recs h.1)

-- ---- a vector that is live behind them was live before

live_left : (s : State) (o : Option Row) (b : Bool) (row : Row) → option_and_then (only_live s) (if b then None else o) ≡ Some row → option_and_then (only_live s) o ≡ Some row
live_left s o true row h = cc
live_left s o false row h = h

vector_left : (s : State) (piece : PieceId) (segment live : ℕ) (o : Option PieceId) (row : Row)
    → option_and_then (live_row_of (state_after s (rec.Displaced piece segment live))) o ≡ Some row → option_and_then (live_row_of s) o ≡ Some row
vector_left s piece segment live None row h = cc
vector_left s piece segment live (Some id) row h =
    live_left s (row_in s.rows id) (same_piece piece id) row (subst (λ o. option_and_then (only_live s) o ≡ Some row) (row_in-without piece id s.rows) h)

one_vector : (s : State) (r : Rec) (key : Key) (row : Row) → IsOfDisplacement r → live_vector_of (state_after s r) key ≡ Some row → live_vector_of s key ≡ Some row
one_vector s (rec.Displaced piece segment live) key row h there = vector_left s piece segment live (option_and_then (vector_of_last key) (last_vector s key)) row there
one_vector s _ key row h there = absurd h

pub pushed_vector : (s : State) (recs : List Rec) (key : Key) (row : Row) → AreOfDisplacement recs → live_vector_of (after_all s recs) key ≡ Some row → live_vector_of s key ≡ Some row
pushed_vector s [] key row h there = there
pushed_vector s (r ∷ recs) key row h there = one_vector s r key row h.0 (pushed_vector (state_after s r) recs key row h.1 there)
