-- Which causes a miss, an absence and a break may have: what the records say, or what the device gave in the line.
use Rattle.std.proofs.Common.{◌≡◌, ℕ, List, [], ◌∷◌, ◌++◌, length, Bool, true, false, refl, sym, ◌∙◌, ap, subst, inl, inr, ◌⊎◌}
use Rattle.std.specs.Prelude.{◌-◌, ◌<◌, Option, Some, None, cond, find, option_map, slice_get, unwrap_or}
use Rattle.std.proofs.lemmas.Option.{same_Some}
use Rattle.std.specs.List.{AllByRecursion}
use Rattle.tape_base.specs.declared.actors.Actor.{Actor}
use Rattle.tape_base.specs.declared.keys.Key.{Key}
use Rattle.tape_base.specs.declared.pieces.PieceId.{PieceId}
use Rattle.tape_base.specs.Piece.{same_piece}
use Rattle.fragment_table.specs.Table.{TableRow}
use Rattle.alternate_vector.specs.Alternates.{Stored}
use Rattle.alternate_vector.specs.Field.{Field}
use Rattle.cache_model.specs.declared.cause.Cause.{Cause}
use Rattle.cache_model.specs.declared.cause.Cause.TheVariants as cause
use Rattle.cache_model.specs.declared.answer.ReadAnswer.{ReadAnswer}
use Rattle.cache_model.specs.declared.answer.ReadAnswer.TheVariants as read
use Rattle.cache_model.specs.declared.answer.NextAnswer.{NextAnswer}
use Rattle.cache_model.specs.declared.answer.NextAnswer.TheVariants as next
use Rattle.cache_model.specs.declared.record.Rec.{Rec}
use Rattle.cache_model.specs.declared.record.Rec.TheVariants as rec
use Rattle.cache_model.specs.State.{State, Row, PutRow, ReaderRow, LastVector, Complete, TakenOut, Writing, Open, Closed, GivenUp, after_all, alternates_of, last_abort, last_vector, live_row_of, put_of, reader_of, row_of, state_after, table_of_hit, vector_piece}
use Rattle.cache_model.specs.Verdict.{cause_of_last, cause_of_loss, cause_of_miss, cause_of_piece, cause_without_vector, followed, hit, cuts_of, live_vector_of, lookup_verdict, may_follow, next_piece, next_row, no_match, no_record, passed, reader_verdict, verdict_at_end, verdict_of_followed, verdict_of_fragment, verdict_of_writing}
use Rattle.cache_model.specs.Permit.{End, Intent, IsAmong, Look, Permit, ReadOn, Reason}
use Rattle.cache_model.specs.Given
use Rattle.cache_model.specs.Given.{IsReadWhereLive}
use Rattle.cache_model.specs.Legal
use Rattle.cache_model.specs.Legal.{IsStep, answer_record}
use Rattle.cache_model.proofs.Found.{no_truth, none_is}
use Rattle.cache_model.proofs.Steps.{First, alone, first_of}
use Rattle.step_laws.specs.VectorLaws.{IsUnanswered, VectorsAreCounted}
use Rattle.model_laws.proofs.Counted.{told_count}
use Rattle.script_grammar.specs.declared.step.Step.{Step}
use Rattle.script_grammar.specs.declared.step.Step.TheVariants as step
use Rattle.script_grammar.specs.declared.answer.StepAnswer.{StepAnswer}
use Rattle.script_grammar.specs.declared.answer.StepAnswer.TheVariants as answer
use Rattle.script_run.specs.Run.{Holding, Run, fresh, held_by, reader_by}
use Rattle.script_run.specs.Asked
use Rattle.script_run.specs.Turn.{Turn, lookup_in, told_in}
use Rattle.script_run.specs.Answers
use Rattle.script_run.specs.Answers.{get_said, if_free, lookup_said, miss_said, next_said, step_answer, step_said}
use Rattle.script_run.specs.Takes.{IsRun, StepTakes, Takes, run_after}
use Rattle.script_laws.specs.Counts.{IsCountedWhere, RunsAreCounted}
use Rattle.script_laws.specs.Vectors.{AreOnRecord, AreOnRecordWhere, VectorsAreOnRecord}
use Rattle.script_laws.proofs.Groups.{IsKept}
use Rattle.headline.specs.Account.{Account, HistoryTells, RunLogs}
use Rattle.headline.specs.Reads
use Rattle.headline.specs.Reads.{AreLiveBefore, AsksFor, IsChosenPut}
use Rattle.headline.specs.Verdicts
use Rattle.headline.specs.Verdicts.{AbsenceIsCaused, BreakIsCaused, BreaksFor, FragmentIsDamaged, HasNoneFor, GetIsCaused, IsGoneFor, IsMissingFor, IsReadOther, MissIsCaused, MissesFor, PieceIsDamaged, VectorIsDamaged}
use Rattle.cause_laws.proofs.Breaking.{broken_is, never_stays, verdict_breaks}
use Rattle.account_laws.proofs.Causing.{is_unknown, unknown}
use Rattle.cause_laws.proofs.Getting.{AsBefore, GoneHere, IsGone, IsOfPut, gone_here}
use Rattle.account_laws.proofs.Last.{ByRecord, told_last}
use Rattle.account_laws.proofs.Lost.{LossAlong, loss_found, loss_in, loss_is_told}
use Rattle.account_laws.proofs.Missing.{AbsentHere, MissedSo, absent_here, get_misses, is_fault, open_misses, verdict_misses}
use Rattle.cause_laws.proofs.NeverPut.{on_record}
use Rattle.account_laws.proofs.Places.{told_line}
use Rattle.cause_laws.proofs.Standing.{unmatched}
use Rattle.account_laws.proofs.Staying.{other_by}
use Rattle.account_laws.proofs.Troubles.{did_before}
use Rattle.account_laws.proofs.Whole.{chosen_of}

-- ---- what is not on record

-- the session began by an opening, or puts were forgotten
abbrev is_older : Cause → Bool
is_older (cause.BeforeOpening serial) = true
is_older (cause.Unrecorded count) = true
is_older _ = false

abbrev IsOlder : State → Type 0
IsOlder s = is_older (no_record s) ≡ true

older_by : (p : Permit) (s : State) (r : Rec) → IsKept p r → IsOlder (state_after s r) → ByRecord IsOlder (λ told. ⊥) (λ told. ⊥) s r
older_by p s (rec.Formatted geometry) kept h = absurd kept
older_by p s (rec.Opened geometry serial cursor floor next_put clean list) kept h = absurd kept
older_by p s _ kept h = inl (h, λ none. none)

never_by : (why : Cause) → is_unknown why ≡ true → (is_older why ≡ true → ⊥) → why ≡ cause.NeverPut
never_by cause.NeverPut k h = refl
never_by (cause.BeforeOpening serial) k h = absurd (h refl)
never_by (cause.Unrecorded count) k h = absurd (h refl)
never_by _ k h = no_truth (sym k)

-- ---- losses

abbrev is_loss : Cause → Bool
is_loss (cause.Displaced segment live) = true
is_loss (cause.Damaged place kept found) = true
is_loss _ = false

abbrev tells_loss : Option (PieceId × Cause) → Bool
tells_loss (Some loss) = is_loss loss.1
tells_loss None = false

loss_told : (r : Rec) (loss : PieceId × Cause) → loss_in r ≡ Some loss → is_loss loss.1 ≡ true
loss_told (rec.Displaced piece segment live) loss h = ap tells_loss (sym h)
loss_told (rec.Damaged piece place kept found) loss h = ap tells_loss (sym h)
loss_told _ loss h = none_is h

gone_by : (s : State) (id : PieceId) (why : Cause) → is_loss why ≡ true → cause_of_loss s id ≡ Some why → IsGoneFor s id why
gone_by s id (cause.Displaced segment live) k e = Verdicts.IsGoneFor.displaced segment live e
gone_by s id (cause.Damaged place kept found) k e = Verdicts.IsGoneFor.damaged place kept found e
gone_by s id _ k e = no_truth (sym k)

-- the session began with a format, nothing was forgotten, and each loss is a displacement or damage
pub record IsWhole (s : State) : Type 0 where
  pub never : no_record s ≡ cause.NeverPut
  pub losses : (id : PieceId) (why : Cause) → cause_of_loss s id ≡ Some why → is_loss why ≡ true

pub whole_here : (lines : List (List ℕ)) (turns : List Turn) (s : State) → IsRun fresh lines turns → (run_after fresh lines turns).state ≡ Some s → IsWhole s
whole_here lines turns s legal state = record {
  never =
      never_by (no_record s) (unknown s (no_record s) refl)
      (λ older. (told_last IsOlder (λ told. ⊥) (λ told. ⊥) (λ g h. no_truth (sym h)) older_by lines turns s legal state older).is.tells);
  losses = λ id why found.
      let t : LossAlong (id, why) fresh lines turns = loss_is_told (id, why) lines turns s legal state (loss_found id s.lost why found) in
      loss_told t.made.told (id, why) t.made.tells;
}

-- so it is where other readers are open
pub with_readers : (s : State) → IsWhole s → (readers : List ReaderRow) (next_reader : ℕ) → IsWhole (record s { readers = readers; next_reader = next_reader })
with_readers s whole readers next_reader = record { never = whole.never; losses = whole.losses }

-- and behind more records of the session
loss_by : (b : Bool) (w why : Cause) (o : Option Cause) → is_loss w ≡ true → (o ≡ Some why → is_loss why ≡ true) → cond b (Some w) o ≡ Some why → is_loss why ≡ true
loss_by true w why o k rest h = ap is_loss (sym (same_Some w why h)) ∙ k
loss_by false w why o k rest h = rest h

whole_by : (p : Permit) (s : State) (r : Rec) → IsKept p r → IsWhole s → IsWhole (state_after s r)
whole_by p s (rec.Formatted geometry) kept whole = absurd kept
whole_by p s (rec.Opened geometry serial cursor floor next_put clean list) kept whole = absurd kept
whole_by p s (rec.Displaced piece segment live) kept whole = record {
  never = whole.never;
  losses = λ id why h. loss_by (same_piece piece id) (cause.Displaced segment live) why (cause_of_loss s id) refl (whole.losses id why) h;
}
whole_by p s (rec.Damaged piece place k f) kept whole = record {
  never = whole.never;
  losses = λ id why h. loss_by (same_piece piece id) (cause.Damaged place k f) why (cause_of_loss s id) refl (whole.losses id why) h;
}
whole_by p s _ kept whole = record { never = whole.never; losses = whole.losses }

pub whole_along : (p : Permit) (s : State) (recs : List Rec) → AllByRecursion (IsKept p) recs → IsWhole s → IsWhole (after_all s recs)
whole_along p s [] kept whole = whole
whole_along p s (r ∷ recs) kept whole = whole_along p (state_after s r) recs kept.1 (whole_by p s r kept.0 whole)

-- ---- pieces

-- the piece is gone, or no record speaks of it
abbrev IsGoneOrNot : State → PieceId → Cause → Type 0
IsGoneOrNot s id why = IsGoneFor s id why ⊎ ((row_of s id ≡ None) × (cause_of_loss s id ≡ None) × (cause.NeverPut ≡ why))

module _ (s : State) (whole : IsWhole s) (id : PieceId) (why : Cause) where
  piece_by_row : cause_of_loss s id ≡ None → (o : Option Row) → row_of s id ≡ o → unwrap_or (option_map (passed s) o) (no_record s) ≡ why → IsGoneOrNot s id why
  piece_by_row lost None e h = inr (e, lost, sym whole.never ∙ h)
  piece_by_row lost (Some row) e h = inl (subst (IsGoneFor s id) h (Verdicts.IsGoneFor.passed row lost e))

  piece_by_loss : (o : Option Cause) → cause_of_loss s id ≡ o → unwrap_or o (unwrap_or (option_map (passed s) (row_of s id)) (no_record s)) ≡ why → IsGoneOrNot s id why
  piece_by_loss None e h = piece_by_row e (row_of s id) refl h
  piece_by_loss (Some w) e h = inl (subst (IsGoneFor s id) h (gone_by s id w (whole.losses id w e) e))

  gone_or_not : cause_of_piece s id ≡ why → IsGoneOrNot s id why
  gone_or_not h = piece_by_loss (cause_of_loss s id) refl h

  pub missing_for : live_row_of s id ≡ None → cause_of_piece s id ≡ why → IsMissingFor s id why
  missing_for dead h = elim (gone_or_not h) [
    | inl gone ↦ Verdicts.IsMissingFor.gone dead gone
    | inr not ↦ subst (IsMissingFor s id) not.2 (Verdicts.IsMissingFor.untold not.0 not.1)
  ]

-- ---- keys

-- the key's vector is live
record HasLive (s : State) (key : Key) : Type 0 where
  put : ℕ
  row : Row
  last : last_vector s key ≡ Some (Complete put)
  live : live_row_of s (vector_piece key put) ≡ Some row

module _ (s : State) (whole : IsWhole s) (on : AreOnRecord s) (key : Key) (why : Cause) where
  abbrev NoneOrLive : Type 0
  NoneOrLive = HasNoneFor s key why ⊎ HasLive s key

  by_live : (put : ℕ) → last_vector s key ≡ Some (Complete put) → (o : Option Row) → live_row_of s (vector_piece key put) ≡ o
      → unwrap_or (option_map (λ (row : Row). no_match s (vector_piece key put)) o) (cause_of_piece s (vector_piece key put)) ≡ why → NoneOrLive
  by_live put last (Some row) e h = inr (record { put = put; row = row; last = last; live = e })
  by_live put last None e h = elim (gone_or_not s whole (vector_piece key put) why h) [
    | inl gone ↦ inl (Verdicts.HasNoneFor.gone put last e gone)
    | inr not ↦ absurd (on_record s (vector_piece key put) not.0 not.1 (on key put last))
  ]

  by_abort : last_vector s key ≡ None → (o : Option ℕ) → last_abort s key ≡ o → unwrap_or (option_map cause.Aborted o) (no_record s) ≡ why → NoneOrLive
  by_abort last None e h = inl (subst (HasNoneFor s key) (sym whole.never ∙ h) (Verdicts.HasNoneFor.never_put last e))
  by_abort last (Some put) e h = inl (subst (HasNoneFor s key) h (Verdicts.HasNoneFor.aborted put last e))

  by_last : (o : Option LastVector) → last_vector s key ≡ o → unwrap_or (option_map (cause_of_last s key) o) (cause_without_vector s key) ≡ why → NoneOrLive
  by_last None e h = by_abort e (last_abort s key) refl h
  by_last (Some (TakenOut put)) e h = inl (subst (HasNoneFor s key) h (Verdicts.HasNoneFor.removed put e))
  by_last (Some (Complete put)) e h = by_live put e (live_row_of s (vector_piece key put)) refl h

  none_or_live : cause_of_miss s key ≡ why → NoneOrLive
  none_or_live h = by_last (last_vector s key) refl h

  -- ---- misses

  misses_for : (request : List Field) → VectorsAreCounted s → MissedSo s key request why → MissesFor s key why
  misses_for request counts missed = elim (none_or_live missed.is) [
    | inl none ↦ Verdicts.MissesFor.nothing none
    | inr h ↦
        let u : IsUnanswered s key request = record { put = h.put; row = h.row; last = h.last; live = h.live; none_matches = missed.none_matches; none_writes = missed.none_writes } in
        let told : lookup_verdict s key request ≡ read.Miss (cause.NoMatch (length (alternates_of s key))) = told_count s key request counts u in
        let verdict : lookup_verdict s key request ≡ read.Miss (cause_of_miss s key) = rw (missed.none_matches, missed.none_writes) refl in
        let both : read.Miss (cause.NoMatch (length (alternates_of s key))) ≡ read.Miss why = sym told ∙ (verdict ∙ ap (λ w. read.Miss w) missed.is) in
        let named : cause.NoMatch (length (alternates_of s key)) ≡ why = cc in
        subst (MissesFor s key) named (Verdicts.MissesFor.no_match h.put h.row h.last h.live)
  ]

  -- ---- what is absent

  has_none : cause_of_miss s key ≡ why → live_vector_of s key ≡ None → HasNoneFor s key why
  has_none is none = elim (none_or_live is) [
    | inl has ↦ has
    | inr h ↦
        let live : live_vector_of s key ≡ Some h.row = rw (h.last, h.live) refl in
        none_is (sym none ∙ live)
  ]

-- ---- what a lookup found

-- the vector was read where it is live, and nothing answers; or the device gave other bytes for it
abbrev LookedSo : Permit → State → Key → List Field → Cause → Type 0
LookedSo p s key request why = (IsReadWhereLive p s (live_vector_of s key) × MissedSo s key request why) ⊎ VectorIsDamaged p s key why

looked : (p : Permit) (s : State) (who : Actor) (key : Key) (request : List Field) (before : List Rec) (a : ReadAnswer) (rest : List Rec) (why : Cause)
    → Legal.IsLookup p s key request before a → lookup_in ((before ++ rec.ReadOpened s.next_reader who key request a ∷ []) ++ rest) ≡ Some (read.Miss why) → is_fault why ≡ false
    → LookedSo p s key request why
looked p s who key request before a rest why (Legal.IsLookup.verdict r) h own =
    inl (r, verdict_misses s key request why (hit s key request) (followed s key request) refl refl (same_Some (lookup_verdict s key request) (read.Miss why) h))
looked p s who key request before a rest why (Legal.IsLookup.trouble row b other live (Given.Trouble.faulted count w m)) h own =
    let same : read.Miss (cause.DeviceFault count) ≡ read.Miss why = same_Some (read.Miss (cause.DeviceFault count)) (read.Miss why) h in
    let is : cause.DeviceFault count ≡ why = cc in
    no_truth (ap is_fault is ∙ own)
looked p s who key request before a rest why (Legal.IsLookup.trouble row b other live (Given.Trouble.damaged found d)) h own =
    let same : read.Miss (Given.damage_cause row row.digest found) ≡ read.Miss why = same_Some (read.Miss (Given.damage_cause row row.digest found)) (read.Miss why) h in
    let is : Given.damage_cause row row.digest found ≡ why = cc in
    inr (record { row = row; live = live; found = found; damaged = d; is = is })

look : (p : Permit) (s : State) (actor : ℕ) (key : Key) (request : List Field) (added rest : List Rec) (e : End) (why : Cause) → Legal.DoesLook p s actor key request added e
    → lookup_in (added ++ rest) ≡ Some (read.Miss why) → is_fault why ≡ false → LookedSo p s key request why
look p s actor key request added rest e why (Legal.DoesLook.looks m) h own =
    looked p s m.who key request m.before m.answer rest why m.right (ap (λ recs. lookup_in (recs ++ rest)) (sym m.is) ∙ h) own

step_looked : (p : Permit) (s : State) (actor : ℕ) (key : Key) (request : List Field) (more : List Intent) (added : List Rec) (refused : Option Reason) (why : Cause)
    → IsStep p s (Look actor key request ∷ more) added refused → lookup_in added ≡ Some (read.Miss why) → is_fault why ≡ false → LookedSo p s key request why
step_looked p s actor key request more added refused why legal h own =
    let f : First p s (Look actor key request) more None added refused = first_of p s (Look actor key request) more None refused added legal.grows in
    look p s actor key request f.added f.rest f.end why f.does (ap lookup_in (sym f.split) ∙ h) own

own_miss : (w why : Cause) → miss_said w ≡ answer.Miss why → is_fault w ≡ false
own_miss (cause.DeviceFault count) why h = absurd cc
own_miss _ why h = refl

none_first : {X : Type 0} (b : Bool) (x : X) (o : Option X) → cond b (Some x) o ≡ None → b ≡ false
none_first true x o h = none_is (sym h)
none_first false x o h = refl

-- there is a session, in whose state it was looked for
record LookedHere (run : Run) (turn : Turn) (key : Key) (request : List Field) (why : Cause) : Type 0 where
  s : State
  state : run.state ≡ Some s
  is : LookedSo turn.device s key request why

module _ (run : Run) (turn : Turn) (key : Key) (request : List Field) (why : Cause) where
  get_looked : (o : Option State) → run.state ≡ o → Takes run turn o (step.Get key request) → step_said run turn o (step.Get key request) ≡ answer.Miss why → LookedHere run turn key request why
  get_looked None e takes said = absurd takes
  get_looked (Some s) e takes said =
      let found : lookup_in turn.added ≡ Some (read.Miss why) = get_misses turn.given (told_in turn.added) (lookup_in turn.added) why said in
      let own : is_fault why ≡ false = own_miss why why (subst (λ (o : Option ReadAnswer). get_said turn.given (told_in turn.added) o ≡ answer.Miss why) found said) in
      record { s = s; state = e; is = step_looked turn.device s 0 key request _ turn.added turn.refused why takes.legal found own }

  free_looked : (s t : State) (actor : ℕ) (held : Option Holding) → run.state ≡ Some s → IsStep turn.device s (Asked.asks_if_free held (Look actor key request ∷ [])) turn.added turn.refused
      → if_free held (lookup_said t s.next_reader (lookup_in turn.added)) ≡ answer.Miss why → LookedHere run turn key request why
  free_looked s t actor None e legal said =
      let found : lookup_in turn.added ≡ Some (read.Miss why) = open_misses t s.next_reader (lookup_in turn.added) why said in
      let own : is_fault why ≡ false = own_miss why why (subst (λ (o : Option ReadAnswer). lookup_said t s.next_reader o ≡ answer.Miss why) found said) in
      record { s = s; state = e; is = step_looked turn.device s actor key request [] turn.added turn.refused why legal found own }
  free_looked s t actor (Some holding) e legal said = absurd cc

  open_looked : (name : List ℕ) (o : Option State) → run.state ≡ o → Takes run turn o (step.OpenRead name key request)
      → step_said run turn o (step.OpenRead name key request) ≡ answer.Miss why → LookedHere run turn key request why
  open_looked name None e takes said = absurd takes
  open_looked name (Some s) e takes said = free_looked s (after_all s turn.added) _ (held_by run name) e takes.legal said

  looked_here : {asks : Step} → AsksFor key request asks → StepTakes run turn asks → answer.Miss why ≡ step_answer run turn asks → LookedHere run turn key request why
  looked_here Reads.AsksFor.gets takes said = get_looked run.state refl takes (sym said)
  looked_here (Reads.AsksFor.opens name) takes said = open_looked name run.state refl takes (sym said)

-- what is not found is not there
none_found : {X : Type 0} (test : X → Bool) (xs : List X) → find test xs ≡ None → (x : X) → IsAmong x xs → test x ≡ false
none_found test [] h x among = absurd among
none_found test (first ∷ xs) h x (inl same) = ap test same ∙ none_first (test first) first (find test xs) h
none_found test (first ∷ xs) h x (inr later) = none_found test xs (other_by (test first) first (find test xs) h) x later

pub misses_are_caused : (on : VectorsAreOnRecord) (counts : RunsAreCounted) (l : RunLogs) (a : Account l) (lines : List (List ℕ)) (asks : Step) (key : Key) (request : List Field) (why : Cause)
    → AsksFor key request asks → HistoryTells a lines asks (answer.Miss why) → MissIsCaused a.turns lines key request why
misses_are_caused on counts l a lines asks key request why looks at =
    let f = told_line l a lines asks (answer.Miss why) at in
    let run : Run = run_after fresh lines f.earlier in
    let h : LookedHere run f.turn key request why = looked_here run f.turn key request why looks f.takes f.is in
    record {
      did = did_before l a lines asks (answer.Miss why) f;
      s = h.s;
      state = h.state;
      caused = elim h.is [
        | inl m ↦ inl (record {
          read = m.0;
          none_matches = m.1.none_matches;
          none_fits = unmatched request (alternates_of h.s key) m.1.none_matches;
          none_writes = m.1.none_writes;
          none_open = none_found (may_follow key request) h.s.puts m.1.none_writes;
          is = m.1.is;
          one_of =
              misses_for h.s (whole_here lines f.earlier h.s f.legal h.state) (subst AreOnRecordWhere h.state (on lines f.earlier f.legal)) key why request
              (subst IsCountedWhere h.state (counts lines f.earlier f.legal)) m.1;
        })
        | inr d ↦ inr d
      ];
    }

pub absences_are_caused : (on : VectorsAreOnRecord) (l : RunLogs) (a : Account l) (lines : List (List ℕ)) (key : Key) (why : Cause)
    → HistoryTells a lines (step.Remove key) (answer.Absent why) → AbsenceIsCaused a.turns lines key why
absences_are_caused on l a lines key why at =
    let f = told_line l a lines (step.Remove key) (answer.Absent why) at in
    let run : Run = run_after fresh lines f.earlier in
    let h : AbsentHere run key why = absent_here run f.turn key why f.takes f.is in
    record {
      did = did_before l a lines (step.Remove key) (answer.Absent why) f;
      s = h.s;
      state = h.state;
      none = h.none;
      is = h.is;
      one_of = has_none h.s (whole_here lines f.earlier h.s f.legal h.state) (subst AreOnRecordWhere h.state (on lines f.earlier f.legal)) key why h.is h.none;
    }

-- ---- breaks

module _ (s : State) (whole : IsWhole s) (r : ReaderRow) (why : Cause) where
  break_by_live : (entry : TableRow) → next_row s r ≡ Some entry → (o : Option Row) → live_row_of s (next_piece r) ≡ o
      → unwrap_or (option_map (λ (live : Row). next.Gave r.next entry.length) o) (next.Broke (cause_of_piece s (next_piece r))) ≡ next.Broke why → BreaksFor s r why
  break_by_live entry cut (Some row) e h = absurd cc
  break_by_live entry cut None e h =
      let same : cause_of_piece s (next_piece r) ≡ why = cc in
      Verdicts.BreaksFor.missing entry cut (missing_for s whole (next_piece r) why e same)

  module _ (none : next_row s r ≡ None) where
    break_by_writing : r.table ≡ None → (w : PutRow) (writing : Writing) → put_of s r.put ≡ Some w → w.writing ≡ writing → verdict_of_writing w writing ≡ next.Broke why → BreaksFor s r why
    break_by_writing table w Open found e h = absurd cc
    break_by_writing table w Closed found e h = absurd cc
    break_by_writing table w GivenUp found e h = let same : cause.Aborted w.put ≡ why = cc in subst (BreaksFor s r) same (Verdicts.BreaksFor.aborted w none table found e)

    break_by_put : r.table ≡ None → (o : Option PutRow) → put_of s r.put ≡ o → verdict_of_followed o ≡ next.Broke why → BreaksFor s r why
    break_by_put table None e h = absurd cc
    break_by_put table (Some w) e h = break_by_writing table w w.writing e refl h

    break_by_table : (o : Option (List TableRow)) → r.table ≡ o → verdict_at_end s r o ≡ next.Broke why → BreaksFor s r why
    break_by_table (Some table) e h = absurd cc
    break_by_table None e h = break_by_put e (put_of s r.put) refl h

  break_by_next : (o : Option TableRow) → next_row s r ≡ o → unwrap_or (option_map (verdict_of_fragment s r) o) (verdict_at_end s r r.table) ≡ next.Broke why → BreaksFor s r why
  break_by_next None e h = break_by_table e r.table refl h
  break_by_next (Some entry) e h = break_by_live entry e (live_row_of s (next_piece r)) refl h

  pub breaks_for : reader_verdict s r ≡ next.Broke why → BreaksFor s r why
  breaks_for h = break_by_next (next_row s r) refl h

-- the verdict has the cause, or what was read is not what was kept
abbrev pub StopsSo : Permit → State → ReaderRow → Cause → Type 0
StopsSo p s r why = (reader_verdict s r ≡ next.Broke why) ⊎ FragmentIsDamaged p s r why

own_trouble : (p : Permit) (s : State) (row : Row) (entry : TableRow) (before : List Rec) (why : Cause) → Legal.ReadTrouble p s row entry before why → is_fault why ≡ false → IsReadOther p s row entry why
own_trouble p s row entry before why (Legal.ReadTrouble.troubled b c (Given.Trouble.faulted count asked m)) own = no_truth own
own_trouble p s row entry before why (Legal.ReadTrouble.troubled b c (Given.Trouble.damaged found d)) own = Verdicts.IsReadOther.damaged found d
own_trouble p s row entry before why (Legal.ReadTrouble.mismatched found read unlike) own = Verdicts.IsReadOther.mismatched found read unlike

read_other : (n : ℕ) (p : Permit) (s : State) (row : Row) (entry : TableRow) (before : List Rec) (w why : Cause) (given : List ℕ) → Legal.ReadTrouble p s row entry before w
    → next_said given (told_in (before ++ rec.Broke n w ∷ [])) ≡ answer.Broken why → IsReadOther p s row entry why
read_other n p s row entry before w why given (Legal.ReadTrouble.troubled b c (Given.Trouble.faulted count asked m)) h = absurd cc
read_other n p s row entry before w why given (Legal.ReadTrouble.troubled b c (Given.Trouble.damaged found d)) h =
    subst (IsReadOther p s row entry) (broken_is (Given.damage_cause row row.digest found) why h) (Verdicts.IsReadOther.damaged found d)
read_other n p s row entry before w why given (Legal.ReadTrouble.mismatched found read unlike) h =
    subst (IsReadOther p s row entry) (broken_is _ why h) (Verdicts.IsReadOther.mismatched found read unlike)

reading_stops : (n : ℕ) (p : Permit) (s : State) (r : ReaderRow) (before : List Rec) (a : NextAnswer) (given : List ℕ) (why : Cause) → Legal.IsReading p s r before a
    → next_said given (told_in (before ++ answer_record n a ∷ [])) ≡ answer.Broken why → StopsSo p s r why
reading_stops n p s r before a given why (Legal.IsReading.verdict x listed) h = inl (verdict_breaks n s r given why (reader_verdict s r) refl h)
reading_stops n p s r before a given why (Legal.IsReading.trouble entry row b w e live t) h =
    inr (record { entry = entry; next = e; piece = record { row = row; live = live; other = read_other n p s row entry before w why given t h } })

-- the reader that breaks
pub record StopsHere (run : Run) (turn : Turn) (name : List ℕ) (why : Cause) : Type 0 where
  pub s : State
  pub state : run.state ≡ Some s
  pub number : ℕ
  pub held : reader_by run name ≡ Some number
  pub reader : ReaderRow
  pub reading : reader_of s number ≡ Some reader
  pub is : StopsSo turn.device s reader why

module _ (run : Run) (turn : Turn) (name : List ℕ) (why : Cause) where
  does_stop : (s : State) (n : ℕ) (e : End) → run.state ≡ Some s → reader_by run name ≡ Some n → Legal.DoesReadOn turn.device s n turn.added e
      → next_said turn.given (told_in turn.added) ≡ answer.Broken why → StopsHere run turn name why
  does_stop s n e state held (Legal.DoesReadOn.reads_on a m) h = record {
    s = s;
    state = state;
    number = n;
    held = held;
    reader = m.r;
    reading = m.reading;
    is = reading_stops n turn.device s m.r m.before a turn.given why m.right (subst (λ recs. next_said turn.given (told_in recs) ≡ answer.Broken why) m.is h);
  }

  held_stops : (s : State) (o : Option ℕ) → run.state ≡ Some s → reader_by run name ≡ o → IsStep turn.device s (Asked.asks_if_has o (λ reader. ReadOn reader ∷ [])) turn.added turn.refused
      → Answers.if_has o (λ reader. next_said turn.given (told_in turn.added)) ≡ answer.Broken why → StopsHere run turn name why
  held_stops s None e held legal said = absurd cc
  held_stops s (Some n) e held legal said =
      let does = alone turn.device s (ReadOn n) turn.added turn.refused (never_stays n turn.device s) legal.grows in
      does_stop s n does.0 e held does.1 said

  state_stops : (o : Option State) → run.state ≡ o → Takes run turn o (step.Next name) → step_said run turn o (step.Next name) ≡ answer.Broken why → StopsHere run turn name why
  state_stops None e takes said = absurd takes
  state_stops (Some s) e takes said = held_stops s (reader_by run name) e refl takes.legal said

  pub stops_here : StepTakes run turn (step.Next name) → answer.Broken why ≡ step_answer run turn (step.Next name) → StopsHere run turn name why
  stops_here takes said = state_stops run.state refl takes (sym said)

pub breaks_are_caused : (l : RunLogs) (a : Account l) (lines : List (List ℕ)) (name : List ℕ) (why : Cause) → HistoryTells a lines (step.Next name) (answer.Broken why) → BreakIsCaused a.turns lines name why
breaks_are_caused l a lines name why at =
    let said : StepAnswer = answer.Broken why in
    let f = told_line l a lines (step.Next name) said at in
    let run : Run = run_after fresh lines f.earlier in
    let h : StopsHere run f.turn name why = stops_here run f.turn name why f.takes f.is in
    record {
      at = record { did = did_before l a lines (step.Next name) said f; s = h.s; state = h.state; number = h.number; held = h.held; reader = h.reader; reading = h.reading };
      caused = elim h.is [
        | inl verdict ↦ inl (record { is = verdict; one_of = breaks_for h.s (whole_here lines f.earlier h.s f.legal h.state) h.reader why verdict })
        | inr d ↦ inr d
      ];
    }

-- ---- whole reads

module _ (s : State) (readers : List ReaderRow) (next_reader : ℕ) where
  abbrev Other : State
  Other = record s { readers = readers; next_reader = next_reader }

  as_gone : (id : PieceId) (why : Cause) → IsGoneFor Other id why → IsGoneFor s id why
  as_gone id why (Verdicts.IsGoneFor.displaced segment live e) = Verdicts.IsGoneFor.displaced segment live e
  as_gone id why (Verdicts.IsGoneFor.damaged place kept found e) = Verdicts.IsGoneFor.damaged place kept found e
  as_gone id why (Verdicts.IsGoneFor.passed row lost e) = Verdicts.IsGoneFor.passed row lost e

  as_missing : (id : PieceId) (why : Cause) → IsMissingFor Other id why → IsMissingFor s id why
  as_missing id why (Verdicts.IsMissingFor.gone dead gone) = Verdicts.IsMissingFor.gone dead (as_gone id _ gone)
  as_missing id why (Verdicts.IsMissingFor.untold row lost) = Verdicts.IsMissingFor.untold row lost

  as_read : (p : Permit) (row : Row) → Given.IsRead p Other row → Given.IsRead p s row
  as_read p row (Given.IsRead.buffered h) = Given.IsRead.buffered h
  as_read p row (Given.IsRead.given bytes g d) =
      Given.IsRead.given bytes (record { written = g.written; given = g.given; whole = g.whole; of_bytes = g.of_bytes }) d

  as_other : (p : Permit) (row : Row) (entry : TableRow) (why : Cause) → IsReadOther p Other row entry why → IsReadOther p s row entry why
  as_other p row entry why (Verdicts.IsReadOther.damaged found d) = Verdicts.IsReadOther.damaged found (record {
    bytes = d.bytes;
    given = record { written = d.given.written; given = d.given.given; whole = d.given.whole; of_bytes = d.given.of_bytes };
    digest = d.digest;
    differ = d.differ;
  })
  as_other p row entry why (Verdicts.IsReadOther.mismatched found read unlike) = Verdicts.IsReadOther.mismatched found (as_read p row read) unlike

-- a piece of the put that the table lists is why
record PieceBreaks (key : Key) (put : ℕ) (table : List TableRow) (p : Permit) (s : State) (why : Cause) : Type 0 where
  piece : PieceId
  key_is : piece.first ≡ key
  put_is : piece.put ≡ put
  entry : TableRow
  some : 0 < piece.index
  listed : slice_get table (piece.index - 1) ≡ Some entry
  live : AreLiveBefore s key put piece.index
  caused : IsMissingFor s piece why ⊎ PieceIsDamaged p s piece entry why

module _ (key : Key) (put : ℕ) (table : List TableRow) (p : Permit) (s : State) where
  table_lists : (t : State) (r : ReaderRow) (entry : TableRow) → IsOfPut s key put table r → next_row t r ≡ Some entry → slice_get table (r.next - 1) ≡ Some entry
  table_lists t r entry of_put h = ap (λ (o : Option (List TableRow)). slice_get (unwrap_or o (cuts_of t r.put)) (r.next - 1)) (sym of_put.table_is) ∙ h

  by_breaks : (t : State) (r : ReaderRow) (why : Cause) → IsOfPut s key put table r → AsBefore s t → BreaksFor t r why → PieceBreaks key put table p s why
  by_breaks t r why of_put same (Verdicts.BreaksFor.missing entry cut missing) = record {
    piece = next_piece r;
    key_is = of_put.key_is;
    put_is = of_put.put_is;
    entry = entry;
    some = of_put.first;
    listed = table_lists t r entry of_put cut;
    live = of_put.live;
    caused = inl (as_missing s t.readers t.next_reader (next_piece r) why (subst (λ (x : State). IsMissingFor x (next_piece r) why) same missing));
  }
  by_breaks t r why of_put same (Verdicts.BreaksFor.aborted w none no_table found e) = none_is (sym no_table ∙ of_put.table_is)

  piece_breaks : (why : Cause) → IsWhole s → is_fault why ≡ false → IsGone s key put table p why → PieceBreaks key put table p s why
  piece_breaks why whole own (inl by) = record {
    piece = next_piece by.r;
    key_is = by.of_put.key_is;
    put_is = by.of_put.put_is;
    entry = by.entry;
    some = by.of_put.first;
    listed = table_lists by.t by.r by.entry by.of_put by.next_is;
    live = by.of_put.live;
    caused = inr (record {
      row = by.row;
      live = sym (ap (λ (x : State). live_row_of x (next_piece by.r)) by.same) ∙ by.live;
      other =
          as_other s by.t.readers by.t.next_reader p by.row by.entry why
          (subst (λ (x : State). IsReadOther p x by.row by.entry why) by.same (own_trouble p by.t by.row by.entry by.before why by.trouble own));
    });
  }
  piece_breaks why whole own (inr g) =
      let there : IsWhole g.t = subst IsWhole (sym g.same) (with_readers s whole g.t.readers g.t.next_reader) in
      by_breaks g.t g.r why g.of_put g.same (breaks_for g.t there g.r why g.verdict)

pub gets_are_caused : (l : RunLogs) (a : Account l) (lines : List (List ℕ)) (key : Key) (request : List Field) (why : Cause)
    → HistoryTells a lines (step.Get key request) (answer.Broken why) → GetIsCaused a.turns lines key request why
gets_are_caused l a lines key request why at =
    let said : StepAnswer = answer.Broken why in
    let f = told_line l a lines (step.Get key request) said at in
    let run : Run = run_after fresh lines f.earlier in
    let h : GoneHere run f.turn key request why = gone_here run f.turn key request why f.takes f.is in
    let table : List TableRow = table_of_hit h.s key request in
    let b : PieceBreaks key h.put table f.turn.device h.s why =
    piece_breaks key h.put table f.turn.device h.s why (whole_here lines f.earlier h.s f.legal h.state) h.own h.is in
    let c : IsChosenPut run key request h.put = chosen_of run f.turn key request h.put 0 h.s h.state h.hits in
    let same : c.s ≡ h.s = same_Some c.s h.s (sym c.state ∙ h.state) in
    let hits : hit h.s key request ≡ Some c.alternate = subst (λ (x : State). hit x key request ≡ Some c.alternate) same c.found in
    let tables : table ≡ c.alternate.table = ap (λ (o : Option Stored). unwrap_or (option_map (λ (x : Stored). x.table) o) []) hits in
    record {
      did = did_before l a lines (step.Get key request) said f;
      s = h.s;
      state = h.state;
      piece = b.piece;
      key_is = b.key_is;
      chosen = record { s = c.s; state = c.state; alternate = c.alternate; found = c.found; put_is = c.put_is ∙ sym b.put_is };
      entry = b.entry;
      some = b.some;
      listed = subst (λ (rows : List TableRow). slice_get rows (b.piece.index - 1) ≡ Some b.entry) tables b.listed;
      live = subst (λ put. AreLiveBefore h.s key put b.piece.index) (sym b.put_is) b.live;
      caused = b.caused;
    }
