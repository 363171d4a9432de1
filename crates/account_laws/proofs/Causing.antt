-- How a key stands, where a miss of it is told a cause of how things stand.
use Rattle.std.proofs.Common.{◌≡◌, ℕ, List, Bool, true, false, refl, sym, ◌∙◌, ap, inl, inr}
use Rattle.std.specs.Prelude.{Option, Some, None, if◌then◌else◌, option_map, unwrap_or, ◌==◌}
use Rattle.tape_base.specs.declared.keys.Key.{Key}
use Rattle.tape_base.specs.declared.pieces.PieceId.{PieceId}
use Rattle.cache_model.specs.declared.cause.Cause.{Cause}
use Rattle.cache_model.specs.declared.cause.Cause.TheVariants as cause
use Rattle.cache_model.specs.State.{State, Row, LastVector, Complete, TakenOut, last_abort, last_vector, live_row_of, row_of, vector_piece}
use Rattle.cache_model.specs.Verdict.{cause_of_beginning, cause_of_last, cause_of_loss, cause_of_miss, cause_of_piece, cause_without_vector, no_match, no_record, passed}
use Rattle.cache_model.proofs.Found.{no_truth}
use Rattle.script_run.specs.Run.{fresh}
use Rattle.script_run.specs.Turn.{Turn}
use Rattle.script_run.specs.Takes.{IsRun, run_after}
use Rattle.script_laws.specs.Causes.{is_standing}
use Rattle.account_laws.proofs.Lost.{no_standing_loss}
use Rattle.account_laws.proofs.Missing.{MissesHere, is_of_device}

-- the last vector was taken out, is live and lists, stands below the floor, or is not on record; without one the last put
-- was given up, or there is none
pub data Stands (s : State) (key : Key) (why : Cause) : Type 0 where
  out : (put : ℕ) → last_vector s key ≡ Some (TakenOut put) → cause.Removed ≡ why → Stands s key why
  lists : (put : ℕ) (row : Row) → last_vector s key ≡ Some (Complete put) → live_row_of s (vector_piece key put) ≡ Some row → no_match s (vector_piece key put) ≡ why → Stands s key why
  below : (put : ℕ) (row : Row) → last_vector s key ≡ Some (Complete put) → live_row_of s (vector_piece key put) ≡ None → row_of s (vector_piece key put) ≡ Some row
      → passed s row ≡ why → Stands s key why
  untold : (put : ℕ) → last_vector s key ≡ Some (Complete put) → row_of s (vector_piece key put) ≡ None → cause_of_loss s (vector_piece key put) ≡ None → no_record s ≡ why → Stands s key why
  dropped : (put : ℕ) → last_vector s key ≡ None → last_abort s key ≡ Some put → cause.Aborted put ≡ why → Stands s key why
  never : last_vector s key ≡ None → last_abort s key ≡ None → no_record s ≡ why → Stands s key why

module _ (s : State) (key : Key) (why : Cause) (standing : is_standing why ≡ true) (none_lost : (id : PieceId) (w : Cause) → cause_of_loss s id ≡ Some w → is_standing w ≡ false) where
  by_row : (put : ℕ) → last_vector s key ≡ Some (Complete put) → live_row_of s (vector_piece key put) ≡ None → cause_of_loss s (vector_piece key put) ≡ None
      → (o : Option Row) → row_of s (vector_piece key put) ≡ o → unwrap_or (option_map (passed s) o) (no_record s) ≡ why → Stands s key why
  by_row put last dead lost None e h = untold put last e lost h
  by_row put last dead lost (Some row) e h = below put row last dead e h

  by_loss : (put : ℕ) → last_vector s key ≡ Some (Complete put) → live_row_of s (vector_piece key put) ≡ None → (o : Option Cause) → cause_of_loss s (vector_piece key put) ≡ o
      → unwrap_or o (unwrap_or (option_map (passed s) (row_of s (vector_piece key put))) (no_record s)) ≡ why → Stands s key why
  by_loss put last dead None e h = by_row put last dead e (row_of s (vector_piece key put)) refl h
  by_loss put last dead (Some w) e h = no_truth (sym standing ∙ (ap is_standing (sym h) ∙ none_lost (vector_piece key put) w e))

  by_live : (put : ℕ) → last_vector s key ≡ Some (Complete put) → (o : Option Row) → live_row_of s (vector_piece key put) ≡ o
      → unwrap_or (option_map (λ (row : Row). no_match s (vector_piece key put)) o) (cause_of_piece s (vector_piece key put)) ≡ why → Stands s key why
  by_live put last (Some row) e h = lists put row last e h
  by_live put last None e h = by_loss put last e (cause_of_loss s (vector_piece key put)) refl h

  by_abort : last_vector s key ≡ None → (o : Option ℕ) → last_abort s key ≡ o → unwrap_or (option_map cause.Aborted o) (no_record s) ≡ why → Stands s key why
  by_abort last None e h = never last e h
  by_abort last (Some put) e h = dropped put last e h

  by_last : (o : Option LastVector) → last_vector s key ≡ o → unwrap_or (option_map (cause_of_last s key) o) (cause_without_vector s key) ≡ why → Stands s key why
  by_last None e h = by_abort e (last_abort s key) refl h
  by_last (Some (TakenOut put)) e h = out put e h
  by_last (Some (Complete put)) e h = by_live put e (live_row_of s (vector_piece key put)) refl h

  pub stands_so : cause_of_miss s key ≡ why → Stands s key why
  stands_so h = by_last (last_vector s key) refl h

-- so it stands before a line that is answered so
pub standing_here : (lines : List (List ℕ)) (turns : List Turn) (key : Key) (why : Cause) → IsRun fresh lines turns → (h : MissesHere (run_after fresh lines turns) key why)
    → is_standing why ≡ true → is_of_device why ≡ false → Stands h.s key why
standing_here lines turns key why is h standing own = elim h.is [
  | inr device ↦ no_truth (sym device ∙ own)
  | inl same ↦ stands_so h.s key why standing (no_standing_loss lines turns h.s is h.state) same
]

-- nothing is on record
abbrev pub is_unknown : Cause → Bool
is_unknown cause.NeverPut = true
is_unknown (cause.BeforeOpening serial) = true
is_unknown (cause.Unrecorded count) = true
is_unknown _ = false

by_beginning : (b : Bool) (opened : Option ℕ) (count : ℕ) → is_unknown (if b then cause_of_beginning opened else cause.Unrecorded count) ≡ true
by_beginning true None count = refl
by_beginning true (Some serial) count = refl
by_beginning false opened count = refl

pub unknown : (s : State) (why : Cause) → no_record s ≡ why → is_unknown why ≡ true
unknown s why h = ap is_unknown (sym h) ∙ by_beginning (s.dropped == 0) s.opened s.dropped
