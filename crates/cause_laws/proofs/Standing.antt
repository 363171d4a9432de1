-- Where a line is answered removed, no-match, aborted or passed, of a key, the lines of its session recorded why.
use Rattle.std.proofs.Common.{◌≡◌, ℕ, suc, ◌+◌, ◌<◌, List, [], ◌∷◌, length, Bool, true, false, refl, sym, ◌∙◌, ap, subst, inl, inr, arith, leb-false}
use Rattle.std.specs.Prelude.{Option, Some, None, if◌then◌else◌, option_and_then, slice_get}
use Rattle.tape_base.specs.declared.keys.Key.{Key}
use Rattle.tape_base.specs.declared.pieces.PieceId.{PieceId}
use Rattle.alternate_vector.specs.Alternates.{Stored, chosen, is_match, or_first}
use Rattle.alternate_vector.specs.Field.{Field}
use Rattle.cache_model.specs.declared.cause.Cause.{Cause}
use Rattle.cache_model.specs.declared.cause.Cause.TheVariants as cause
use Rattle.cache_model.specs.declared.answer.ReadAnswer.TheVariants as read
use Rattle.cache_model.specs.State.{State, Row, LastVector, Complete, alternates_of, floor_now, is_live, last_match, last_vector, live_row_of, only_live, row_of, vector_piece}
use Rattle.cache_model.specs.Verdict.{cause_of_miss, is_unsaved, live_vector_of, lookup_verdict, passed, vector_of_last}
use Rattle.cache_model.specs.Permit.{IsAmong}
use Rattle.cache_model.proofs.Found.{no_truth, none_is}
use Rattle.step_laws.specs.VectorLaws.{IsUnanswered, VectorsAreCounted}
use Rattle.model_laws.proofs.Counted.{told_count}
use Rattle.script_grammar.specs.declared.step.Step.{Step}
use Rattle.script_grammar.specs.declared.step.Step.TheVariants as step
use Rattle.script_grammar.specs.declared.answer.StepAnswer.{StepAnswer}
use Rattle.script_grammar.specs.declared.answer.StepAnswer.TheVariants as answer
use Rattle.script_run.specs.Run.{Run, fresh}
use Rattle.script_run.specs.Turn.{Turn}
use Rattle.script_run.specs.Takes.{IsRun, run_after}
use Rattle.script_laws.specs.Counts.{IsCountedWhere, RunsAreCounted}
use Rattle.line_laws.specs.Laws.{LegalIsKept}
use Rattle.headline.specs.Account.{Account, HistoryTells, RunLogs}
use Rattle.headline.specs.Misses
use Rattle.headline.specs.Misses.{MissesKey}
use Rattle.headline.specs.Reads
use Rattle.headline.specs.Reads.{AsksFor, DidBefore}
use Rattle.headline.specs.Standing.{BringsTo, ChangesVector, Completes, CompletesPut, FitsNone, GivesUpKey, HasRecorded, HasRecordedLast, IsBelowFloor, LeavesAt, Shifts, WasGivenUp, WasPassed, WasRemoved}
use Rattle.account_laws.proofs.Answered.{giving_up_answered, put_answered, removal_answered}
use Rattle.account_laws.proofs.Causing.{Stands, below, dropped, lists, never, out, standing_here, stands_so, unknown, untold}
use Rattle.cause_laws.proofs.Keeping.{HasVector, IsAbort, IsComplete, IsLastAbort, IsRemoval, IsTakenOut, IsUnsaved, StandsAt, complete_by, formats_change_none, last_abort_by, left_at_by, stands_at_by, taken_out_by, vector_by, vector_stays}
use Rattle.account_laws.proofs.Last.{told_last}
use Rattle.account_laws.proofs.Lost.{no_standing_loss}
use Rattle.account_laws.proofs.Missing.{AbsentHere, LooksHere, MissedSo, MissesHere, absent_here, looks_here, misses_here}
use Rattle.account_laws.proofs.Places.{told_line}
use Rattle.account_laws.proofs.Staying.{recorded_none}
use Rattle.account_laws.proofs.Troubles.{did_before}

-- ---- what the lines recorded

module _ (lines : List (List ℕ)) (turns : List Turn) (s : State) (legal : IsRun fresh lines turns) (state : (run_after fresh lines turns).state ≡ Some s) (key : Key) where
  pub completed : (put : ℕ) → last_vector s key ≡ Some (Complete put) → HasRecordedLast (CompletesPut key put) (ChangesVector key) lines turns
  completed put last = told_last (IsComplete key put) (CompletesPut key put) (ChangesVector key) (λ g h. none_is h) (complete_by key put) lines turns s legal state last

  -- ---- removed

  removed : Stands s key cause.Removed → (put : ℕ) × HasRecordedLast (IsRemoval key put) (Completes key) lines turns
  removed (out put last same) = (put, told_last (IsTakenOut key put) (IsRemoval key put) (Completes key) (λ g h. none_is h) (taken_out_by key put) lines turns s legal state last)
  removed (lists put row last live same) = absurd cc
  removed (below put row last dead found same) = absurd cc
  removed (untold put last none lost same) = no_truth (sym (unknown s cause.Removed same))
  removed (dropped put last abort same) = absurd cc
  removed (never last abort same) = no_truth (sym (unknown s cause.Removed same))

  -- ---- aborted

  record IsGivenUp (put : ℕ) : Type 0 where
    aborted : HasRecordedLast (IsAbort key put) (GivesUpKey key) lines turns
    none : HasRecorded (ChangesVector key) lines turns → ⊥

  given_up : (put : ℕ) → Stands s key (cause.Aborted put) → IsGivenUp put
  given_up put (out n last same) = absurd cc
  given_up put (lists n row last live same) = absurd cc
  given_up put (below n row last dead found same) = absurd cc
  given_up put (untold n last none lost same) = no_truth (sym (unknown s (cause.Aborted put) same))
  given_up put (dropped n last abort same) =
      let number : n ≡ put = cc in
      record {
        aborted = told_last (IsLastAbort key put) (IsAbort key put) (GivesUpKey key) (λ g h. none_is h) (last_abort_by key put) lines turns s legal state (abort ∙ ap (λ x. Some x) number);
        none = recorded_none (ChangesVector key) (HasVector key) (formats_change_none key) (λ count changes. changes) (vector_by key) (vector_stays key) lines turns s legal state (λ has. has last);
      }
  given_up put (never last abort same) = no_truth (sym (unknown s (cause.Aborted put) same))

-- ---- no match

-- a chosen alternate is there
there_by : (request : List Field) (a : Stored) (list : List Stored) (i : ℕ) (o : Option ℕ) (b : Bool) → chosen request list ≡ o
    → ((j : ℕ) → chosen request list ≡ Some j → slice_get list j ≡ None → ⊥) → or_first o b ≡ Some i → slice_get (a ∷ list) i ≡ None → ⊥
there_by request a list i (Some j) b e rest h gone =
    let same : j + 1 ≡ i = cc in
    let k : i ≡ suc j = omega (arith, same) in
    rest j e (subst (λ n. slice_get (a ∷ list) n ≡ None) k gone)
there_by request a list i None true e rest h gone =
    let same : 0 ≡ i = cc in
    let first : Some a ≡ None = subst (λ n. slice_get (a ∷ list) n ≡ None) (sym same) gone in
    none_is (sym first)
there_by request a list i None false e rest h gone = none_is h

chosen_there : (request : List Field) (list : List Stored) (i : ℕ) → chosen request list ≡ Some i → slice_get list i ≡ None → ⊥
chosen_there request [] i h gone = none_is h
chosen_there request (a ∷ list) i h gone = there_by request a list i (chosen request list) (is_match request a) refl (chosen_there request list) h gone

chosen_by : (request : List Field) (list : List Stored) (o : Option ℕ) → chosen request list ≡ o → option_and_then (slice_get list) o ≡ None → o ≡ None
chosen_by request list (Some i) e h = absurd (chosen_there request list i e h)
chosen_by request list None e h = refl

parts : (o : Option ℕ) (b : Bool) → or_first o b ≡ None → (o ≡ None) × (b ≡ false)
parts (Some i) b h = none_is (sym h)
parts None true h = none_is (sym h)
parts None false h = (refl, refl)

none_fits : (request : List Field) (list : List Stored) → chosen request list ≡ None → (a : Stored) → IsAmong a list → is_match request a ≡ false
none_fits request [] h a among = absurd among
none_fits request (x ∷ list) h a (inl same) = ap (is_match request) same ∙ (parts (chosen request list) (is_match request x) h).1
none_fits request (x ∷ list) h a (inr later) = none_fits request list (parts (chosen request list) (is_match request x) h).0 a later

-- where none is the last that matches none does
pub unmatched : (request : List Field) (list : List Stored) → last_match request list ≡ None → (a : Stored) → IsAmong a list → is_match request a ≡ false
unmatched request list h = none_fits request list (chosen_by request list (chosen request list) refl h)

-- what such a vector is
record Unfit (s : State) (key : Key) (request : List Field) (count : ℕ) : Type 0 where
  unanswered : IsUnanswered s key request
  counted : length (alternates_of s key) ≡ count

module _ (s : State) (key : Key) (request : List Field) (count : ℕ) (counts : VectorsAreCounted s) (missed : MissedSo s key request (cause.NoMatch count)) where
  unfit : Stands s key (cause.NoMatch count) → Unfit s key request count
  unfit (out put last same) = absurd cc
  unfit (lists put row last live same) =
      let u : IsUnanswered s key request = record { put = put; row = row; last = last; live = live; none_matches = missed.none_matches; none_writes = missed.none_writes } in
      let told : lookup_verdict s key request ≡ read.Miss (cause.NoMatch (length (alternates_of s key))) = told_count s key request counts u in
      let verdict : lookup_verdict s key request ≡ read.Miss (cause_of_miss s key) = rw (missed.none_matches, missed.none_writes) refl in
      let both : read.Miss (cause.NoMatch (length (alternates_of s key))) ≡ read.Miss (cause.NoMatch count) = sym told ∙ (verdict ∙ ap (λ w. read.Miss w) missed.is) in
      let named : length (alternates_of s key) ≡ count = cc in
      record { unanswered = u; counted = named }
  unfit (below put row last dead found same) = absurd cc
  unfit (untold put last none lost same) = no_truth (sym (unknown s (cause.NoMatch count) same))
  unfit (dropped put last abort same) = absurd cc
  unfit (never last abort same) = no_truth (sym (unknown s (cause.NoMatch count) same))

-- ---- passed

abbrev place_in : Cause → ℕ
place_in (cause.Passed place floor unsaved) = place
place_in _ = 0

abbrev floor_in : Cause → ℕ
floor_in (cause.Passed place floor unsaved) = floor
floor_in _ = 0

abbrev unsaved_in : Cause → Bool
unsaved_in (cause.Passed place floor unsaved) = unsaved
unsaved_in _ = false

dead_by : (row : Row) (b : Bool) → (if b then Some row else None) ≡ None → b ≡ false
dead_by row true h = none_is (sym h)
dead_by row false h = refl

-- a piece that stands, and is not live, is below the floor
pub is_below : (lines : List (List ℕ)) (turns : List Turn) (s : State) → IsRun fresh lines turns → (run_after fresh lines turns).state ≡ Some s → (piece : PieceId) (row : Row)
    (place floor : ℕ) (unsaved : Bool) → live_row_of s piece ≡ None → row_of s piece ≡ Some row → passed s row ≡ cause.Passed place floor unsaved → IsBelowFloor lines turns s piece place floor unsaved
is_below lines turns s legal state piece row place floor unsaved dead found same =
    let place_is : row.place ≡ place = ap place_in same in
    let floor_is : floor_now s ≡ floor = ap floor_in same in
    let unsaved_is : is_unsaved s place ≡ unsaved = ap (is_unsaved s) (sym place_is) ∙ ap unsaved_in same in
    let gone : option_and_then (only_live s) (Some row) ≡ None = subst (λ (o : Option Row). option_and_then (only_live s) o ≡ None) found dead in
    let not_live : is_live s row ≡ false = dead_by row (is_live s row) gone in
    record {
      brought =
          told_last (StandsAt piece place) (BringsTo piece place) (Shifts piece) (λ g h. none_is h.1) (stands_at_by piece place) lines turns s legal state (row, found, place_is);
      row = row;
      stands = found;
      place_is = place_is;
      floor_is = floor_is;
      below = subst (λ n. n < floor) place_is (subst (λ n. row.place < n) floor_is (leb-false (floor_now s) row.place not_live));
      unsaved_is = unsaved_is;
      left = λ is. (told_last (IsUnsaved place) (LeavesAt place) (λ told. ⊥) (λ g h. no_truth (sym h)) (left_at_by place) lines turns s legal state (unsaved_is ∙ is)).is;
    }

module _ (lines : List (List ℕ)) (turns : List Turn) (s : State) (legal : IsRun fresh lines turns) (state : (run_after fresh lines turns).state ≡ Some s) (key : Key)
    (place floor : ℕ) (unsaved : Bool) where
  abbrev Why : Cause
  Why = cause.Passed place floor unsaved

  -- what such a vector is
  record Below : Type 0 where
    put : ℕ
    completed : HasRecordedLast (CompletesPut key put) (ChangesVector key) lines turns
    passed : IsBelowFloor lines turns s (vector_piece key put) place floor unsaved

  vector_below : Stands s key Why → Below
  vector_below (out put last same) = absurd cc
  vector_below (lists put row last live same) = absurd cc
  vector_below (below put row last dead found same) = record {
    put = put;
    completed = completed lines turns s legal state key put last;
    passed = is_below lines turns s legal state (vector_piece key put) row place floor unsaved dead found same;
  }
  vector_below (untold put last none lost same) = no_truth (sym (unknown s Why same))
  vector_below (dropped put last abort same) = absurd cc
  vector_below (never last abort same) = no_truth (sym (unknown s Why same))

-- ---- lines that are answered so

pub removed_was_recorded : (l : RunLogs) (a : Account l) (lines : List (List ℕ)) (asks : Step) (said : StepAnswer) (key : Key)
    → MissesKey key cause.Removed asks said → HistoryTells a lines asks said → WasRemoved a lines key
removed_was_recorded l a lines asks said key misses at =
    let f = told_line l a lines asks said at in
    let run : Run = run_after fresh lines f.earlier in
    let h : MissesHere run key cause.Removed = misses_here run f.turn key cause.Removed misses f.takes f.is in
    let r = removed lines f.earlier h.s f.legal h.state key (standing_here lines f.earlier key cause.Removed f.legal h refl refl) in
    let did : DidBefore a.turns lines = did_before l a lines asks said f in
    record {
      did = did;
      put = r.0;
      removed = r.1;
      answered = removal_answered l a lines asks said at did r.0 key r.1.is;
    }

pub aborted_was_last : (law : LegalIsKept) (l : RunLogs) (a : Account l) (lines : List (List ℕ)) (asks : Step) (said : StepAnswer) (key : Key) (put : ℕ)
    → MissesKey key (cause.Aborted put) asks said → HistoryTells a lines asks said → WasGivenUp a lines key put
aborted_was_last law l a lines asks said key put misses at =
    let f = told_line l a lines asks said at in
    let run : Run = run_after fresh lines f.earlier in
    let h : MissesHere run key (cause.Aborted put) = misses_here run f.turn key (cause.Aborted put) misses f.takes f.is in
    let g = given_up lines f.earlier h.s f.legal h.state key put (standing_here lines f.earlier key (cause.Aborted put) f.legal h refl refl) in
    let did : DidBefore a.turns lines = did_before l a lines asks said f in
    record {
      did = did;
      aborted = g.aborted;
      answered = giving_up_answered l a lines asks said at did law put key g.aborted.is;
      none = g.none;
    }

no_match_here : (lines : List (List ℕ)) (turns : List Turn) (key : Key) (request : List Field) (count : ℕ) → IsRun fresh lines turns
    → (h : LooksHere (run_after fresh lines turns) key request (cause.NoMatch count)) → VectorsAreCounted h.s → Unfit h.s key request count
no_match_here lines turns key request count legal h counts = elim h.is [
  | inr device ↦ no_truth (sym device)
  | inl missed ↦ unfit h.s key request count counts missed (stands_so h.s key (cause.NoMatch count) refl (no_standing_loss lines turns h.s legal h.state) missed.is)
]

fits_none : (kept : LegalIsKept) (law : RunsAreCounted) (l : RunLogs) (a : Account l) (lines : List (List ℕ)) (asks : Step) (key : Key) (request : List Field) (count : ℕ)
    → AsksFor key request asks → HistoryTells a lines asks (answer.Miss (cause.NoMatch count)) → FitsNone a lines key request count
fits_none kept law l a lines asks key request count asking at =
    let said : StepAnswer = answer.Miss (cause.NoMatch count) in
    let f = told_line l a lines asks said at in
    let run : Run = run_after fresh lines f.earlier in
    let h : LooksHere run key request (cause.NoMatch count) = looks_here run f.turn key (cause.NoMatch count) request asking f.takes f.is in
    let counts : VectorsAreCounted h.s = subst IsCountedWhere h.state (law lines f.earlier f.legal) in
    let u : Unfit h.s key request count = no_match_here lines f.earlier key request count f.legal h counts in
    let did : DidBefore a.turns lines = did_before l a lines asks said f in
    let last : HasRecordedLast (CompletesPut key u.unanswered.put) (ChangesVector key) lines f.earlier = completed lines f.earlier h.s f.legal h.state key u.unanswered.put u.unanswered.last in
    record {
      did = did;
      s = h.s;
      state = h.state;
      unanswered = u.unanswered;
      completed = last;
      answered = put_answered l a lines asks said at did kept key u.unanswered.put last.is;
      counted = u.counted;
      none = unmatched request (alternates_of h.s key) u.unanswered.none_matches;
    }

-- what is live is removed
live_there : (s : State) (key : Key) (put : ℕ) (row : Row) → last_vector s key ≡ Some (Complete put) → live_row_of s (vector_piece key put) ≡ Some row → live_vector_of s key ≡ None → ⊥
live_there s key put row last live none =
    none_is (sym none ∙ (ap (λ (o : Option LastVector). option_and_then (live_row_of s) (option_and_then (vector_of_last key) o)) last ∙ live))

removal_lists_none : (s : State) (key : Key) (count : ℕ) → live_vector_of s key ≡ None → Stands s key (cause.NoMatch count) → ⊥
removal_lists_none s key count none (out put last same) = cc
removal_lists_none s key count none (lists put row last live same) = live_there s key put row last live none
removal_lists_none s key count none (below put row last dead found same) = cc
removal_lists_none s key count none (untold put last gone lost same) = no_truth (sym (unknown s (cause.NoMatch count) same))
removal_lists_none s key count none (dropped put last abort same) = cc
removal_lists_none s key count none (never last abort same) = no_truth (sym (unknown s (cause.NoMatch count) same))

no_removal : (l : RunLogs) (a : Account l) (lines : List (List ℕ)) (key : Key) (count : ℕ) → HistoryTells a lines (step.Remove key) (answer.Absent (cause.NoMatch count)) → ⊥
no_removal l a lines key count at =
    let why : Cause = cause.NoMatch count in
    let f = told_line l a lines (step.Remove key) (answer.Absent why) at in
    let h : AbsentHere (run_after fresh lines f.earlier) key why = absent_here (run_after fresh lines f.earlier) f.turn key why f.takes f.is in
    removal_lists_none h.s key count h.none (stands_so h.s key why refl (no_standing_loss lines f.earlier h.s f.legal h.state) h.is)

pub no_match_fits_none : (kept : LegalIsKept) (law : RunsAreCounted) (l : RunLogs) (a : Account l) (lines : List (List ℕ)) (asks : Step) (said : StepAnswer) (key : Key) (count : ℕ)
    → MissesKey key (cause.NoMatch count) asks said → HistoryTells a lines asks said → (request : List Field) × AsksFor key request asks × FitsNone a lines key request count
no_match_fits_none kept law l a lines asks said key count (Misses.MissesKey.gets request) at =
    (request, Reads.AsksFor.gets, fits_none kept law l a lines (step.Get key request) key request count Reads.AsksFor.gets at)
no_match_fits_none kept law l a lines asks said key count (Misses.MissesKey.opens name request) at =
    (request, Reads.AsksFor.opens name, fits_none kept law l a lines (step.OpenRead name key request) key request count (Reads.AsksFor.opens name) at)
no_match_fits_none kept law l a lines asks said key count Misses.MissesKey.removes at = absurd (no_removal l a lines key count at)

pub passed_was_placed : (kept : LegalIsKept) (l : RunLogs) (a : Account l) (lines : List (List ℕ)) (asks : Step) (said : StepAnswer) (key : Key) (place floor : ℕ) (unsaved : Bool)
    → MissesKey key (cause.Passed place floor unsaved) asks said → HistoryTells a lines asks said → WasPassed a lines key place floor unsaved
passed_was_placed kept l a lines asks said key place floor unsaved misses at =
    let why : Cause = cause.Passed place floor unsaved in
    let f = told_line l a lines asks said at in
    let run : Run = run_after fresh lines f.earlier in
    let h : MissesHere run key why = misses_here run f.turn key why misses f.takes f.is in
    let b = vector_below lines f.earlier h.s f.legal h.state key place floor unsaved (standing_here lines f.earlier key why f.legal h refl refl) in
    let did : DidBefore a.turns lines = did_before l a lines asks said f in
    record {
      did = did;
      s = h.s;
      state = h.state;
      put = b.put;
      completed = b.completed;
      answered = put_answered l a lines asks said at did kept key b.put b.completed.is;
      passed = b.passed;
    }
