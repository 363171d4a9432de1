-- What lookups and readers are told by how things stand.
use Rattle.std.proofs.Common.{◌≡◌, ℕ, List, [], ◌∷◌, Bool, true, false, refl, inl, inr}
use Rattle.std.specs.Prelude.{Option, Some, None, cond, ◌==◌, if◌then◌else◌, option_map, unwrap_or}
use Rattle.std.specs.Map.{lookup}
use Rattle.tape_base.specs.declared.keys.Key.{Key}
use Rattle.tape_base.specs.declared.pieces.PieceId.{PieceId}
use Rattle.tape_base.specs.Piece.{same_piece}
use Rattle.fragment_table.specs.Table.{TableRow}
use Rattle.alternate_vector.specs.Field.{Field}
use Rattle.alternate_vector.specs.Alternates.{Stored}
use Rattle.cache_model.specs.declared.cause.Cause.{Cause}
use Rattle.cache_model.specs.declared.cause.Cause.TheVariants as cause
use Rattle.cache_model.specs.declared.answer.ReadAnswer.{ReadAnswer}
use Rattle.cache_model.specs.declared.answer.ReadAnswer.TheVariants as read
use Rattle.cache_model.specs.declared.answer.NextAnswer.{NextAnswer}
use Rattle.cache_model.specs.declared.answer.NextAnswer.TheVariants as next
use Rattle.cache_model.specs.declared.record.Rec.{Rec}
use Rattle.cache_model.specs.State.{State, Row, PutRow, ReaderRow, LastVector, Complete, TakenOut, Writing, Open, Closed, GivenUp, last_abort, last_vector, live_row_of, put_of, row_of, vector_piece}
use Rattle.cache_model.specs.Verdict.{cause_of_beginning, cause_of_last, cause_of_loss, cause_of_miss, cause_of_piece, cause_without_vector, follow_answer, followed, hit, hit_answer, lookup_verdict, next_piece, next_row, no_match, no_record, passed, reader_verdict, verdict_at_end, verdict_of_followed, verdict_of_fragment, verdict_of_writing}
use Rattle.cache_model.specs.Permit.{IsAmong}
use Rattle.cache_model.proofs.Found.{none_is}
use Rattle.script_laws.specs.Causes
use Rattle.script_laws.specs.Causes.{IsTraced, is_standing}

-- the cause of a miss or of a break is traced
abbrev pub LookIsTraced : State → List Rec → ReadAnswer → Type 0
LookIsTraced s all (read.Miss why) = IsTraced s all why
LookIsTraced s all _ = Unit {0}

abbrev pub NextIsTraced : State → List Rec → NextAnswer → Type 0
NextIsTraced s all (next.Broke why) = IsTraced s all why
NextIsTraced s all _ = Unit {0}

-- ---- losses

record IsLost (losses : List (PieceId × Cause)) (why : Cause) : Type 0 where
  piece : PieceId
  among : IsAmong (piece, why) losses

lost_by : (first : PieceId × Cause) (losses : List (PieceId × Cause)) (why : Cause) (b : Bool) (rest : Option Cause) → (rest ≡ Some why → IsLost losses why)
    → cond b (Some first.1) rest ≡ Some why → IsLost (first ∷ losses) why
lost_by first losses why true rest later h = let same : first.1 ≡ why = cc in record { piece = first.0; among = inl (rw same refl) }
lost_by first losses why false rest later h = let l : IsLost losses why = later h in record { piece = l.piece; among = inr l.among }

found_loss : (id : PieceId) (losses : List (PieceId × Cause)) (why : Cause) → lookup (λ lost. same_piece lost id) losses ≡ Some why → IsLost losses why
found_loss id [] why h = none_is h
found_loss id (first ∷ losses) why h = lost_by first losses why (same_piece first.0 id) (lookup (λ lost. same_piece lost id) losses) (found_loss id losses why) h

-- ---- causes

-- of what no record speaks
beginning_stands : (b : Bool) (opened : Option ℕ) (dropped : ℕ) → is_standing (if b then cause_of_beginning opened else cause.Unrecorded dropped) ≡ true
beginning_stands true None dropped = refl
beginning_stands true (Some serial) dropped = refl
beginning_stands false opened dropped = refl

module _ (s : State) (all : List Rec) where
  by_row : (o : Option Row) → IsTraced s all (unwrap_or (option_map (passed s) o) (no_record s))
  by_row None = Causes.IsTraced.stands (beginning_stands (s.dropped == 0) s.opened s.dropped)
  by_row (Some row) = Causes.IsTraced.stands refl

  by_loss : (id : PieceId) (o : Option Cause) → cause_of_loss s id ≡ o → IsTraced s all (unwrap_or o (unwrap_or (option_map (passed s) (row_of s id)) (no_record s)))
  by_loss id None e = by_row (row_of s id)
  by_loss id (Some why) e = let l : IsLost s.lost why = found_loss id s.lost why e in Causes.IsTraced.lost l.piece l.among

  pub of_piece : (id : PieceId) → IsTraced s all (cause_of_piece s id)
  of_piece id = by_loss id (cause_of_loss s id) refl

  of_vector : (id : PieceId) (o : Option Row) → IsTraced s all (unwrap_or (option_map (λ (row : Row). no_match s id) o) (cause_of_piece s id))
  of_vector id None = of_piece id
  of_vector id (Some row) = Causes.IsTraced.stands refl

  by_abort : (o : Option ℕ) → IsTraced s all (unwrap_or (option_map cause.Aborted o) (no_record s))
  by_abort None = Causes.IsTraced.stands (beginning_stands (s.dropped == 0) s.opened s.dropped)
  by_abort (Some put) = Causes.IsTraced.stands refl

  by_last : (key : Key) (o : Option LastVector) → IsTraced s all (unwrap_or (option_map (cause_of_last s key) o) (cause_without_vector s key))
  by_last key None = by_abort (last_abort s key)
  by_last key (Some (Complete put)) = of_vector (vector_piece key put) (live_row_of s (vector_piece key put))
  by_last key (Some (TakenOut put)) = Causes.IsTraced.stands refl

  pub of_miss : (key : Key) → IsTraced s all (cause_of_miss s key)
  of_miss key = by_last key (last_vector s key)

  -- ---- lookups

  by_hit : (key : Key) (o : Option Stored) (f : Option PutRow) → LookIsTraced s all (unwrap_or (option_map hit_answer o) (unwrap_or (option_map follow_answer f) (read.Miss (cause_of_miss s key))))
  by_hit key (Some a) f = tt
  by_hit key None (Some w) = tt
  by_hit key None None = of_miss key

  pub look_stands : (key : Key) (request : List Field) → LookIsTraced s all (lookup_verdict s key request)
  look_stands key request = by_hit key (hit s key request) (followed s key request)

  -- ---- readers

  by_live : (r : ReaderRow) (entry : TableRow) (o : Option Row)
      → NextIsTraced s all (unwrap_or (option_map (λ (live : Row). next.Gave r.next entry.length) o) (next.Broke (cause_of_piece s (next_piece r))))
  by_live r entry None = of_piece (next_piece r)
  by_live r entry (Some row) = tt

  by_writing : (w : PutRow) (writing : Writing) → NextIsTraced s all (verdict_of_writing w writing)
  by_writing w Open = tt
  by_writing w Closed = tt
  by_writing w GivenUp = Causes.IsTraced.stands refl

  by_put : (o : Option PutRow) → NextIsTraced s all (verdict_of_followed o)
  by_put None = tt
  by_put (Some w) = by_writing w w.writing

  at_end : (r : ReaderRow) (table : Option (List TableRow)) → NextIsTraced s all (verdict_at_end s r table)
  at_end r None = by_put (put_of s r.put)
  at_end r (Some table) = tt

  by_next : (r : ReaderRow) (o : Option TableRow) → NextIsTraced s all (unwrap_or (option_map (verdict_of_fragment s r) o) (verdict_at_end s r r.table))
  by_next r None = at_end r r.table
  by_next r (Some entry) = by_live r entry (live_row_of s (next_piece r))

  pub next_stands : (r : ReaderRow) → NextIsTraced s all (reader_verdict s r)
  next_stands r = by_next r (next_row s r)
