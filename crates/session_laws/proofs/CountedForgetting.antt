-- Forgetting leaves what is told of how many alternates a vector lists.
use Rattle.std.proofs.Common.{◌≡◌, ℕ, List, refl, sym, ◌∙◌, ap, Bool, true, false}
use Rattle.std.specs.Prelude.{Option, Some, None, option_map, unwrap_or}
use Rattle.tape_base.specs.declared.keys.Key.{Key}
use Rattle.cache_model.specs.State.{State, LastVector, Complete, last_vector, vector_piece}
use Rattle.cache_model.specs.Verdict.{is_open}
use Rattle.cache_model.specs.Forgetting.{forget, forgotten_puts, is_among_puts, put_of_last, without_puts}
use Rattle.cache_model.specs.Legal.{is_writing}
use Rattle.cache_model.proofs.Found.{none_is, same_some}
use Rattle.step_laws.specs.VectorLaws.{VectorsAreCounted}
use Rattle.model_laws.proofs.CountedRecords.{KeepsCounts, counted_kept}
use Rattle.session_laws.proofs.Forgetting.{AreDead, count_stays, forgotten_is_dead, put_gone, put_kept, puts_by, row_kept, vector_gone, vector_kept, vector_none}

module _ (s : State) (puts : List ℕ) (dead : AreDead s puts) where
  abbrev after : State
  after = without_puts puts s

  -- a last vector that is left was it before, and its put was not forgotten
  record WasLast (key : Key) (put : ℕ) : Type 0 where
    last : last_vector s key ≡ Some (Complete put)
    kept : is_among_puts puts put ≡ false

  last_in : (key : Key) (put : ℕ) (last : LastVector) (b : Bool) → last_vector s key ≡ Some last → is_among_puts puts (put_of_last last) ≡ b
      → last_vector after key ≡ Some (Complete put) → WasLast key put
  last_in key put last true e k h = none_is (sym (vector_gone s puts dead key last e k) ∙ h)
  last_in key put last false e k h =
      let before : last_vector s key ≡ Some (Complete put) = sym (vector_kept s puts dead key last e k) ∙ h in
      let same : last ≡ Complete put = same_some last (Complete put) (last_vector s key) e before in
      record { last = before; kept = sym (ap (λ l. is_among_puts puts (put_of_last l)) same) ∙ k }

  last_by : (key : Key) (put : ℕ) (o : Option LastVector) → last_vector s key ≡ o → last_vector after key ≡ Some (Complete put) → WasLast key put
  last_by key put None e h = none_is (sym (vector_none s puts dead key e) ∙ h)
  last_by key put (Some last) e h = last_in key put last (is_among_puts puts (put_of_last last)) e refl h

  was_last : (key : Key) (put : ℕ) → last_vector after key ≡ Some (Complete put) → WasLast key put
  was_last key put h = last_by key put (last_vector s key) refl h

  ended_by : (put : ℕ) (b : Bool) → is_among_puts puts put ≡ b → is_writing s put ≡ false → is_writing after put ≡ false
  ended_by put true k h = ap (λ o. unwrap_or (option_map is_open o) false) (put_gone s puts dead put k)
  ended_by put false k h = ap (λ o. unwrap_or (option_map is_open o) false) (put_kept s puts dead put k) ∙ h

  keeps_left : KeepsCounts s after
  keeps_left = record {
    vectors = λ key put h. (was_last key put h).last;
    rows = λ key put row h found. record { old = row; found = sym (row_kept s puts dead (vector_piece key put) (was_last key put h).kept) ∙ found; lists = refl };
    counts = λ key put h. count_stays s puts (vector_piece key put) (was_last key put h).kept;
    known = λ put w found. (w, puts_by s puts dead put w (is_among_puts puts put) refl found);
    ended = λ put h. ended_by put (is_among_puts puts put) refl h;
    next = refl;
  }

pub forgetting_counts : (cap : ℕ) (s : State) → VectorsAreCounted s → VectorsAreCounted (forget cap s)
forgetting_counts cap s h = counted_kept (keeps_left s (forgotten_puts cap s) (forgotten_is_dead cap s)) h
