-- What is found is listed by the vector of the put that the lines of the session completed last.
use Rattle.std.proofs.Common.{◌≡◌, ℕ, List, [], Bool, true, false, refl, sym, ◌∙◌, subst, inl, inr}
use Rattle.std.specs.Prelude.{Option, Some, None, if◌then◌else◌, option_map, unwrap_or}
use Rattle.tape_base.specs.declared.keys.Key.{Key}
use Rattle.alternate_vector.specs.Alternates.{Stored}
use Rattle.alternate_vector.specs.Field.{Field}
use Rattle.cache_model.specs.State.{State, Row, PutRow, LastVector, Complete, TakenOut, Open, Closed, GivenUp, alternates_of, is_live, last_vector, list_of_last, list_of_row, live_row_of, put_of, row_of, state_after, vector_piece}
use Rattle.cache_model.specs.declared.record.Rec.{Rec}
use Rattle.cache_model.specs.declared.record.Rec.TheVariants as rec
use Rattle.cache_model.specs.Legal.{IsQuiet}
use Rattle.cache_model.specs.Permit.{IsAmong, Permit}
use Rattle.cache_model.proofs.Found.{none_is}
use Rattle.step_laws.proofs.Answered.{hit_matches}
use Rattle.script_grammar.specs.declared.step.Step.{Step}
use Rattle.script_grammar.specs.declared.answer.StepAnswer.{StepAnswer}
use Rattle.script_run.specs.Run.{Run, fresh}
use Rattle.script_run.specs.Turn.{Turn}
use Rattle.script_run.specs.Answers.{step_answer}
use Rattle.script_run.specs.Takes.{IsRun, StepTakes, run_after}
use Rattle.script_run.specs.Own.{IsComplete, IsListedOf}
use Rattle.script_run.proofs.Hitting.{IsHitOf, hit_listed}
use Rattle.script_laws.proofs.Groups.{IsKept}
use Rattle.line_laws.specs.Laws.{LegalIsKept}
use Rattle.headline.specs.Account.{Account, HistoryTells, RunLogs}
use Rattle.headline.specs.Reads.{DidBefore, IsChosenPut}
use Rattle.headline.specs.Standing
use Rattle.headline.specs.Standing.{ChangesVector, ClosesPut, CompletesPut, FindsPut, HasRecorded, HasRecordedLast, IsListedPut}
use Rattle.account_laws.proofs.Answered.{closed_answered, put_answered}
use Rattle.account_laws.proofs.Last.{ByRecord, told_last}
use Rattle.account_laws.proofs.Opened.{kept_here}
use Rattle.account_laws.proofs.Places.{told_line}
use Rattle.cause_laws.proofs.Standing.{completed}
use Rattle.account_laws.proofs.Troubles.{did_before}
use Rattle.account_laws.proofs.Whole.{get_chosen, open_chosen}
use Rattle.account_laws.proofs.Written.{IsWrittenSo, WritesSo, written_by}

module _ (s : State) (key : Key) (a : Stored) where
  -- the vector that lists it
  record Lists : Type 0 where
    vector : ℕ
    last : last_vector s key ≡ Some (Complete vector)
    row : Row
    live : live_row_of s (vector_piece key vector) ≡ Some row

  by_live : (put : ℕ) (row : Row) (b : Bool) → last_vector s key ≡ Some (Complete put) → row_of s (vector_piece key put) ≡ Some row → is_live s row ≡ b
      → IsAmong a (if b then unwrap_or row.alternates [] else []) → Lists
  by_live put row true last found live among = record { vector = put; last = last; row = row; live = rw (found, live) refl }
  by_live put row false last found live among = absurd among

  by_row : (put : ℕ) (o : Option Row) → last_vector s key ≡ Some (Complete put) → row_of s (vector_piece key put) ≡ o → IsAmong a (unwrap_or (option_map (list_of_row s) o) []) → Lists
  by_row put None last found among = absurd among
  by_row put (Some row) last found among = by_live put row (is_live s row) last found refl among

  by_last : (o : Option LastVector) → last_vector s key ≡ o → IsAmong a (unwrap_or (option_map (list_of_last s s.rows key) o) []) → Lists
  by_last None e among = absurd among
  by_last (Some (TakenOut put)) e among = absurd among
  by_last (Some (Complete put)) e among = by_row put (row_of s (vector_piece key put)) e refl among

  lists_it : IsAmong a (alternates_of s key) → Lists
  lists_it among = by_last (last_vector s key) refl among

finds_chosen : (run : Run) (turn : Turn) (asks : Step) (said : StepAnswer) (key : Key) (request : List Field) (put : ℕ) → FindsPut key request put asks said → StepTakes run turn asks
    → said ≡ step_answer run turn asks → IsChosenPut run key request put
finds_chosen run turn asks said key request put (Standing.FindsPut.gets size bytes) takes is = get_chosen run turn key request put size bytes run.state refl takes (sym is)
finds_chosen run turn asks said key request put (Standing.FindsPut.opens name size) takes is = open_chosen run turn key request put size name run.state refl takes (sym is)

-- ---- its put

module _ (put : ℕ) where
  closes : (r : Rec) → WritesSo put Closed r → ClosesPut put r
  closes (rec.Committed n key bytes list) w = w.0
  closes (rec.Aborted n key) w = let other : GivenUp ≡ Closed = w.1 in absurd cc
  closes _ w = absurd w

  closed_one : (p : Permit) (s : State) (r : Rec) → IsKept p r → IsWrittenSo put Closed (state_after s r) → ByRecord (IsWrittenSo put Closed) (ClosesPut put) (λ told. ⊥) s r
  closed_one p s r kept h = elim (written_by put Closed (λ (e : Closed ≡ Open). cc) p s r kept h) [ inl old ↦ inl (old, λ none. none) | inr w ↦ inr (closes r w) ]

-- a put that is closed was completed by the lines
pub closed_by : (lines : List (List ℕ)) (turns : List Turn) (s : State) → IsRun fresh lines turns → (run_after fresh lines turns).state ≡ Some s
    → (put : ℕ) (w : PutRow) → put_of s put ≡ Some w → w.writing ≡ Closed → HasRecorded (ClosesPut put) lines turns
closed_by lines turns s legal state put w found closed =
    (told_last (IsWrittenSo put Closed) (ClosesPut put) (λ told. ⊥) (λ g x. none_is x.1) (closed_one put) lines turns s legal state (w, found, closed)).is

pub closed_here : (s : State) (w : PutRow) (put : ℕ) → IsQuiet s → IsComplete s put w → w.writing ≡ Closed
closed_here s w put quiet (inl closed) = closed
closed_here s w put quiet (inr pending) = none_is (sym quiet ∙ pending)

put_closed : (law : LegalIsKept) (lines : List (List ℕ)) (turns : List Turn) (s : State) → IsRun fresh lines turns → (run_after fresh lines turns).state ≡ Some s
    → (key : Key) (request : List Field) (put : ℕ) (h : IsHitOf s key request put) → HasRecorded (ClosesPut put) lines turns
put_closed law lines turns s legal state key request put h =
    let k = kept_here law lines turns s legal state in
    let listed : IsListedOf s key h.a = hit_listed s key request put k.0.kept.alternates h in
    let found : put_of s put ≡ Some listed.w = subst (λ n. put_of s n ≡ Some listed.w) h.put_is listed.found in
    closed_by lines turns s legal state put listed.w found (closed_here s listed.w h.a.put k.1 listed.complete)

pub found_is_listed : (law : LegalIsKept) (l : RunLogs) (a : Account l) (lines : List (List ℕ)) (asks : Step) (said : StepAnswer) (key : Key) (request : List Field) (put : ℕ)
    → FindsPut key request put asks said → HistoryTells a lines asks said → IsListedPut a lines key request put
found_is_listed law l a lines asks said key request put finds at =
    let f = told_line l a lines asks said at in
    let run : Run = run_after fresh lines f.earlier in
    let c : IsChosenPut run key request put = finds_chosen run f.turn asks said key request put finds f.takes f.is in
    let matches = hit_matches c.s key request c.alternate c.found in
    let by : Lists c.s key c.alternate = lists_it c.s key c.alternate matches.0 in
    let did : DidBefore a.turns lines = did_before l a lines asks said f in
    let last : HasRecordedLast (CompletesPut key by.vector) (ChangesVector key) lines f.earlier = completed lines f.earlier c.s f.legal c.state key by.vector by.last in
    let closed : HasRecorded (ClosesPut put) lines f.earlier =
    put_closed law lines f.earlier c.s f.legal c.state key request put (record { a = c.alternate; found = c.found; put_is = c.put_is }) in
    let told = closed_answered l a lines asks said at did law put closed in
    record {
      did = did;
      vector = by.vector;
      completed = last;
      s = c.s;
      state = c.state;
      row = by.row;
      live = by.live;
      alternate = c.alternate;
      lists = matches.0;
      put_is = c.put_is;
      fits = matches.1;
      closed = closed;
      vector_answered = put_answered l a lines asks said at did law key by.vector last.is;
      closed_key = told.0;
      closed_answered = told.1;
    }
