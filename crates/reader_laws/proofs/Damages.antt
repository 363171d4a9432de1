-- Damage that a line records is of bytes that its device gave: no fragment of a session is unlike the one that is listed.
use Rattle.std.proofs.Common.{◌≡◌, ℕ, ◌+◌, ◌<◌, List, [], ◌∷◌, ◌++◌, refl, sym, subst, inl, inr, ◌⊎◌, true, false}
use Rattle.std.specs.Prelude.{Option, Some, None, map, ◌==◌}
use Rattle.std.specs.List.{AllByRecursion}
use Rattle.device_log.specs.Calls.{Read}
use Rattle.tape_base.specs.declared.digests.Digest.{Digest}
use Rattle.tape_base.specs.declared.geometries.Geometry.{Geometry}
use Rattle.tape_base.specs.declared.keys.Key.{Key}
use Rattle.tape_base.specs.declared.pieces.PieceId.{PieceId}
use Rattle.tape_base.specs.Geometry.{budget_of}
use Rattle.tape_base.specs.Place.{block_of}
use Rattle.fragment_table.specs.Table.{TableRow}
use Rattle.alternate_vector.specs.Field.{Field}
use Rattle.cache_model.specs.declared.answer.NextAnswer.{NextAnswer}
use Rattle.cache_model.specs.declared.answer.NextAnswer.TheVariants as next
use Rattle.cache_model.specs.declared.answer.ReadAnswer.{ReadAnswer}
use Rattle.cache_model.specs.declared.cause.Cause.{Cause}
use Rattle.cache_model.specs.declared.record.Rec.{Rec}
use Rattle.cache_model.specs.declared.record.Rec.TheVariants as rec
use Rattle.cache_model.specs.State.{ReaderRow, Row, State, after_all, live_row_of, reader_of, state_after}
use Rattle.cache_model.specs.Verdict.{next_piece, next_row}
use Rattle.cache_model.specs.Due.{due_pieces}
use Rattle.cache_model.specs.Given
use Rattle.cache_model.specs.Legal
use Rattle.cache_model.specs.Legal.{Advances, Does, MayGrow, nothing, more, answer_record}
use Rattle.cache_model.specs.Outcomes.{AreOutcomes, Copied, Copy, IsOutcome, NoRoom, Outcome, ReadRefused, Spoiled, copies_of, flush_records, front_of, left_behind, moved_record, moved_records, records_of, stopped_front_of, stopped_records_of}
use Rattle.cache_model.specs.Permit.{IsAmong, Permit, Intent, Flush, Sync, SyncBegin, SyncStep, Drain, CleanSync, Write, Fragment, Overflow, Weigh, Finish, Commit, GiveUp, Remove, Look, ReadOn, ReadAll, StopReading, End, Stays, Done, Fails, Work, Reason, is_cleanup, work_after}
use Rattle.cache_model.specs.Room.{MayDisplace, displaced_record}
use Rattle.cache_model.proofs.Steps.{all_append, all_as}
use Rattle.step_laws.specs.StepLaws.{IsOfGiven}
use Rattle.step_laws.proofs.Unsynced.{clean_on, drain_on, never, step_on, sync_on, unmark_on}
use Rattle.script_grammar.specs.declared.step.Step.{Step}
use Rattle.script_grammar.specs.declared.step.Step.TheVariants as step
use Rattle.script_run.specs.Run.{Run, Stream, fresh, held_by, put_written_by, reader_by}
use Rattle.script_run.specs.Turn.{Turn}
use Rattle.script_run.specs.Asked.{asked, asks_if_has}
use Rattle.script_run.specs.Laws.{NoneIsUnlike, ReadsKeep, is_reading}
use Rattle.script_run.specs.Own.{ArePayloadsOwn}
use Rattle.script_run.specs.Takes.{IsRun, SessionTakes, run_after}
use Rattle.script_run.proofs.Carried.{all_filter}
use Rattle.script_run.proofs.Finding.{found_in}
use Rattle.line_laws.specs.Along.{StandsWhere}
use Rattle.line_laws.specs.Laws.{IsOfOtherBytes}
use Rattle.line_laws.proofs.Asking.{close_other, feeding_other, free_other, has_other, put_other}
use Rattle.line_laws.proofs.Beside.{AllOther, AnyNumber, IsOther}
use Rattle.line_laws.proofs.Firsts.{ArePlaced, IsPlaced, lines_place, records_place}
use Rattle.line_laws.proofs.Standing.{Keeps, OfKept, keeps_after}

-- ---- what is asked

-- it reads no fragment
abbrev IsUnread : Intent → Type 0
IsUnread (ReadOn reader) = ⊥
IsUnread (ReadAll reader) = ⊥
IsUnread _ = Unit {0}

abbrev AreUnread : List Intent → Type 0
AreUnread is = AllByRecursion IsUnread is

-- it only reads
abbrev OnlyReads : List Intent → Type 0
OnlyReads is = AllByRecursion (λ i. is_reading i ≡ true) is

module _ (p : Permit) (s : State) where
  -- the record begins no session, and damage is of bytes that the device gave, by the places of s
  abbrev IsTold : Rec → Type 0
  IsTold (rec.Formatted geometry) = ⊥
  IsTold (rec.Opened geometry serial cursor floor next_put clean list) = ⊥
  IsTold (rec.Damaged piece place kept found) = IsOfGiven p s place found × ((kept ≡ found) → ⊥)
  IsTold _ = Unit {0}

  abbrev AllTold : List Rec → Type 0
  AllTold recs = AllByRecursion IsTold recs

  -- places are those of s
  abbrev Same : State → Type 0
  Same t = t.geometry ≡ s.geometry

  one_stays : (t : State) (r : Rec) → IsTold r → Same t → Same (state_after t r)
  one_stays t (rec.Formatted geometry) told same = absurd told
  one_stays t (rec.Opened geometry serial cursor floor next_put clean list) told same = absurd told
  one_stays t _ told same = same

  all_stay : (t : State) (recs : List Rec) → AllTold recs → Same t → Same (after_all t recs)
  all_stay t [] told same = same
  all_stay t (r ∷ recs) told same = all_stay (state_after t r) recs told.1 (one_stays t r told.0 same)

  adds : (added other : List Rec) → added ≡ other → AllTold other → AllTold added
  adds added other is h = subst AllTold (sym is) h

  damage : (t : State) (row : Row) (found : Digest) → Same t → Given.IsDamaged p t row found → IsTold (Given.damage_record row row.digest found)
  damage t row found same d =
      (record { bytes = d.bytes; given = subst (λ (g : Geometry). IsAmong (Read (block_of g row.place) d.bytes) p.events) same d.given.given; digest = d.digest }, d.differ)

  -- ---- a flush

  outcome_told : (t : State) (left : ℕ) (row : Row) (o : Outcome) → Same t → IsOutcome p t left row o → AllTold (records_of row o)
  outcome_told t left row NoRoom same h = (tt, tt)
  outcome_told t left row (Copied bytes) same h = tt
  outcome_told t left row (Spoiled found) same h = (damage t row found same h.1, tt)
  outcome_told t left row (ReadRefused count) same h = (tt, (tt, tt))

  front_told : (t : State) (left : ℕ) (rows : List Row) (outcomes : List Outcome) → Same t → AreOutcomes p t left rows outcomes → AllTold (front_of rows outcomes)
  front_told t left [] outcomes same h = tt
  front_told t left (row ∷ rows) [] same h = tt
  front_told t left (row ∷ rows) (o ∷ outcomes) same h =
      let one : AllTold (records_of row o) = outcome_told t left row o same h.0 in
      all_append IsTold (records_of row o) (front_of rows outcomes) one (front_told (after_all t (records_of row o)) (left_behind left row o) rows outcomes (all_stay t (records_of row o) one same) h.1)

  copies_told : (t : State) (copies : List Copy) → AllTold (moved_records t copies)
  copies_told t [] = tt
  copies_told t (c ∷ copies) = (tt, copies_told (state_after t (moved_record t c)) copies)

  flushed : (t : State) (added : List Rec) → Same t → Legal.MayFlush p t added → AllTold added
  flushed t added same m =
      let rows : List Row = due_pieces t p.now in
      adds added (flush_records t rows m.outcomes) m.is
      (all_append IsTold (front_of rows m.outcomes) _ (front_told t (budget_of t.geometry) rows m.outcomes same m.are) (tt, copies_told _ (copies_of rows m.outcomes)))

  stopped_one : (row : Row) (o : Outcome) → AllTold (records_of row o) → AllTold (stopped_records_of row o)
  stopped_one row NoRoom h = tt
  stopped_one row (Copied bytes) h = tt
  stopped_one row (Spoiled found) h = h
  stopped_one row (ReadRefused count) h = (tt, tt)

  stopped_told : (t : State) (left : ℕ) (rows : List Row) (outcomes : List Outcome) → Same t → AreOutcomes p t left rows outcomes → AllTold (stopped_front_of rows outcomes)
  stopped_told t left [] outcomes same h = tt
  stopped_told t left (row ∷ rows) [] same h = tt
  stopped_told t left (row ∷ rows) (o ∷ outcomes) same h =
      let one : AllTold (records_of row o) = outcome_told t left row o same h.0 in
      all_append IsTold (stopped_records_of row o) (stopped_front_of rows outcomes) (stopped_one row o one)
      (stopped_told (after_all t (records_of row o)) (left_behind left row o) rows outcomes (all_stay t (records_of row o) one same) h.1)

  stopped : (t : State) (count : ℕ) (added : List Rec) → Same t → Legal.MayStop p t count added → AllTold added
  stopped t count added same m =
      let front : List Rec = stopped_front_of (due_pieces t p.now) m.outcomes in
      adds added (front ++ rec.Fault count ∷ []) m.is
      (all_append IsTold front (rec.Fault count ∷ []) (stopped_told t (budget_of t.geometry) (due_pieces t p.now) m.outcomes same m.are) (tt, tt))

  -- ---- what is placed

  displacements : (segment live : ℕ) (rows : List Row) → AllTold (map (displaced_record segment live) rows)
  displacements segment live [] = tt
  displacements segment live (row ∷ rows) = (tt, displacements segment live rows)

  displaced : (t : State) (piece : PieceId) (added : List Rec) → MayDisplace p t piece added → AllTold added
  displaced t piece added m = adds added _ m.is (displacements _ _ m.purged)

  -- ---- readers

  trouble : (t : State) (row : Row) (before : List Rec) (why : Cause) → Same t → Given.Trouble p t row before why → AllTold before
  trouble t row before why same (Given.Trouble.faulted count w m) = (tt, tt)
  trouble t row before why same (Given.Trouble.damaged found d) = (damage t row found same d, tt)

  lookup : (t : State) (key : Key) (request : List Field) (before : List Rec) (answer : ReadAnswer) → Same t → Legal.IsLookup p t key request before answer → AllTold before
  lookup t key request before answer same (Legal.IsLookup.verdict r) = tt
  lookup t key request before answer same (Legal.IsLookup.trouble row b why live x) = trouble t row before why same x

  looked : (t : State) (actor : ℕ) (key : Key) (request : List Field) (added : List Rec) → Same t → Legal.MayLook p t actor key request added → AllTold added
  looked t actor key request added same m = adds added _ m.is (all_append IsTold m.before _ (lookup t key request m.before m.answer same m.right) (tt, tt))

  answer_told : (reader : ℕ) (answer : NextAnswer) → IsTold (answer_record reader answer)
  answer_told reader (next.Gave index length) = tt
  answer_told reader (next.Ended length) = tt
  answer_told reader (next.Waited cut) = tt
  answer_told reader (next.Broke why) = tt

  closed : (t : State) (reader : ℕ) (added : List Rec) (e : End) → Legal.DoesStopReading t reader added e → AllTold added
  closed t reader added e (Legal.DoesStopReading.closes r q l is) = adds added _ is (tt, tt)
  closed t reader added e (Legal.DoesStopReading.closed q l is) = adds added [] is tt

  -- the fragment that a reader takes next, of what is kept
  module _ (unlike : NoneIsUnlike) (streams : ℕ → Stream) where
    read_trouble : (t : State) (reader : ℕ) (r : ReaderRow) (row : Row) (entry : TableRow) (before : List Rec) (why : Cause) → Same t → ArePayloadsOwn t streams → 0 < r.next
        → reader_of t reader ≡ Some r → next_row t r ≡ Some entry → live_row_of t (next_piece r) ≡ Some row → Legal.ReadTrouble p t row entry before why → AllTold before
    read_trouble t reader r row entry before why same kept some is_open next live (Legal.ReadTrouble.troubled b c x) = trouble t row before why same x
    read_trouble t reader r row entry before why same kept some is_open next live (Legal.ReadTrouble.mismatched found read other) =
        absurd (unlike t streams reader r entry row found kept some is_open next live other)

    reading : (t : State) (reader : ℕ) (r : ReaderRow) (before : List Rec) (answer : NextAnswer) → Same t → ArePayloadsOwn t streams → 0 < r.next → reader_of t reader ≡ Some r
        → Legal.IsReading p t r before answer → AllTold before
    reading t reader r before answer same kept some is_open (Legal.IsReading.verdict x listed) = tt
    reading t reader r before answer same kept some is_open (Legal.IsReading.trouble entry row b why next live x) = read_trouble t reader r row entry before why same kept some is_open next live x

    reads : (t : State) (reader : ℕ) (answer : NextAnswer) (added : List Rec) → Same t → ArePayloadsOwn t streams → ArePlaced t → Legal.MayReadOn p t reader answer added → AllTold added
    reads t reader answer added same kept placed m =
        let some : 0 < m.r.next = found_in IsPlaced (λ (r : ReaderRow). r.reader == reader) t.readers m.r placed m.reading in
        adds added _ m.is (all_append IsTold m.before _ (reading t reader m.r m.before answer same kept some m.reading m.right) (answer_told reader answer, tt))

    -- what only reads
    reads_told : (t : State) (i : Intent) (added : List Rec) (e : End) → is_reading i ≡ true → Same t → ArePayloadsOwn t streams → ArePlaced t → Does p t i added e → AllTold added
    reads_told t (Look actor key request) added e only same kept placed (Legal.DoesLook.looks m) = looked t actor key request added same m
    reads_told t (ReadOn reader) added e only same kept placed (Legal.DoesReadOn.reads_on answer m) = reads t reader answer added same kept placed m
    reads_told t (ReadAll reader) added e only same kept placed (Legal.DoesReadAll.reads_on answer x m y) = reads t reader answer added same kept placed m
    reads_told t (ReadAll reader) added e only same kept placed (Legal.DoesReadAll.has_none q x is y) = adds added [] is tt
    reads_told t (StopReading reader) added e only same kept placed d = closed t reader added e d
    reads_told t _ added e only same kept placed d = absurd cc

  -- ---- what reads no fragment, of a stripe that does not sync

  module _ (off : p.syncs ≡ false) where
    room : (t : State) (bytes : ℕ) (added : List Rec) (e : End) → Same t → Legal.MakesRoom p t bytes added e → AllTold added
    room t bytes added e same (Legal.MakesRoom.flushes x m) = flushed t added same m
    room t bytes added e same (Legal.MakesRoom.stops count x m) = stopped t count added same m
    room t bytes added e same (Legal.MakesRoom.exhausted x q is) = adds added [] is tt
    room t bytes added e same (Legal.MakesRoom.syncs end x d is) = never off (sync_on d)

    unread_told : (t : State) (i : Intent) (added : List Rec) (e : End) → IsUnread i → Same t → Does p t i added e → AllTold added
    unread_told t Flush added e un same (Legal.DoesFlush.empty q f is) = adds added [] is tt
    unread_told t Flush added e un same (Legal.DoesFlush.flushes m) = flushed t added same m
    unread_told t Flush added e un same (Legal.DoesFlush.stops count m) = stopped t count added same m
    unread_told t Flush added e un same (Legal.DoesFlush.exhausted q f b is) = adds added [] is tt
    unread_told t Flush added e un same (Legal.DoesFlush.syncs d) = never off (sync_on d)
    unread_told t Sync added e un same d = never off (sync_on d)
    unread_told t SyncBegin added e un same d = never off (sync_on d)
    unread_told t (SyncStep last) added e un same d = never off (step_on d)
    unread_told t Drain added e un same d = never off (drain_on d)
    unread_told t CleanSync added e un same d = never off (clean_on d)
    unread_told t (Write actor key request response pin) added e un same (Legal.DoesWrite.opens m) = adds added _ m.is (tt, tt)
    unread_told t (Write actor key request response pin) added e un same (Legal.DoesWrite.many q m is) = adds added [] is tt
    unread_told t (Write actor key request response pin) added e un same (Legal.DoesWrite.exhausted q m l is) = adds added [] is tt
    unread_told t (Fragment put index payload) added e un same (Legal.DoesFragment.places d m) =
        adds added _ m.is (tt, all_append IsTold m.displaced _ (displaced _ _ m.displaced m.displaces) (tt, tt))
    unread_told t (Fragment put index payload) added e un same (Legal.DoesFragment.unmarks w x q u) = never off (unmark_on u)
    unread_told t (Fragment put index payload) added e un same (Legal.DoesFragment.rooms w x m) = room t _ added e same m
    unread_told t (Fragment put index payload) added e un same (Legal.DoesFragment.exhausted w x y q) = adds added [] q.is tt
    unread_told t (Overflow put) added e un same (Legal.DoesOverflow.aborts w q l is) = adds added _ is (tt, tt)
    unread_told t (Weigh put rest) added e un same (Legal.DoesWeigh.weighs w q r f is) = adds added [] is tt
    unread_told t (Weigh put rest) added e un same (Legal.DoesWeigh.too_large w q r f is) = adds added _ is (tt, tt)
    unread_told t (Weigh put rest) added e un same (Legal.DoesWeigh.damaged w row found q live d is) = adds added _ is (damage t row found same d, tt)
    unread_told t (Weigh put rest) added e un same (Legal.DoesWeigh.faulted w row count q live r m is) = adds added _ is (tt, tt)
    unread_told t (Finish put fragments) added e un same (Legal.DoesFinish.places d m) =
        adds added _ m.is (all_append IsTold m.displaced _ (displaced _ _ m.displaced m.displaces) (tt, tt))
    unread_told t (Finish put fragments) added e un same (Legal.DoesFinish.unmarks w c l q u) = never off (unmark_on u)
    unread_told t (Finish put fragments) added e un same (Legal.DoesFinish.rooms w c m) = room t _ added e same m
    unread_told t (Finish put fragments) added e un same (Legal.DoesFinish.exhausted w x c l q) = adds added [] q.is tt
    unread_told t (Finish put fragments) added e un same (Legal.DoesFinish.loses w index d m is) = adds added _ is (tt, tt)
    unread_told t (Commit put) added e un same (Legal.DoesCommit.commits w f o q is) = adds added _ is (tt, tt)
    unread_told t (GiveUp put) added e un same (Legal.DoesGiveUp.aborts w q is) = adds added _ is (tt, tt)
    unread_told t (GiveUp put) added e un same (Legal.DoesGiveUp.over q o is) = adds added [] is tt
    unread_told t (Remove key) added e un same (Legal.DoesRemove.removes row q l is) = adds added _ is (tt, tt)
    unread_told t (Remove key) added e un same (Legal.DoesRemove.absent q l is) = adds added [] is tt
    unread_told t (Look actor key request) added e un same (Legal.DoesLook.looks m) = looked t actor key request added same m
    unread_told t (StopReading reader) added e un same d = closed t reader added e d
    unread_told t _ added e un same d = absurd un

    -- ---- along a step

    module _ (unlike : NoneIsUnlike) (keep : ReadsKeep) (streams : ℕ → Stream) where
      -- what is asked reads no fragment, or does nothing but read of what is kept
      record IsReadOfKept (t : State) (is : List Intent) : Type 0 where
        kept : ArePayloadsOwn t streams
        placed : ArePlaced t
        only : OnlyReads is

      abbrev IsAsked : State → List Intent → Type 0
      IsAsked t is = AreUnread is ⊎ IsReadOfKept t is

      record Goes (t : State) (added : List Rec) (w : Work) : Type 0 where
        told : AllTold added
        asked_next : IsAsked (after_all t added) w.intents

      left_of : (P : Intent → Type 0) (i : Intent) (is : List Intent) (why : Option Reason) (e : End) → AllByRecursion P (i ∷ is) → AllByRecursion P (work_after i is why e).intents
      left_of P i is why Stays all = all
      left_of P i is why Done all = all.1
      left_of P i is why (Fails reason) all = all_filter P is_cleanup is all.1

      advanced : (t : State) (is : List Intent) (why : Option Reason) (added : List Rec) (between : Work) → Same t → IsAsked t is → Advances p t is why added between → Goes t added between
      advanced t [] why added between same h a = absurd a
      advanced t (i ∷ is) why added between same (inl un) a = record {
        told = unread_told t i added a.0 un.0 same a.1;
        asked_next = inl (subst (λ (w : Work). AreUnread w.intents) (sym a.2) (left_of IsUnread i is why a.0 un));
      }
      advanced t (i ∷ is) why added between same (inr r) a = record {
        told = reads_told unlike streams t i added a.0 r.only.0 same r.kept r.placed a.1;
        asked_next = inr (record {
          kept = keep p t streams i added a.0 r.only.0 r.kept a.1;
          placed = records_place t added r.placed;
          only = subst (λ (w : Work). OnlyReads w.intents) (sym a.2) (left_of (λ i. is_reading i ≡ true) i is why a.0 r.only);
        });
      }

      grown : {t : State} {w after : Work} {recs : List Rec} → Same t → IsAsked t w.intents → MayGrow p t w recs after → AllTold recs
      grown same h nothing = tt
      grown {t} {w} same h (more {rest = tail} added between one others) =
          let on : Goes t added between = advanced t w.intents w.refused added between same h one in
          all_append IsTold added tail on.told (grown (all_stay t added on.told same) on.asked_next others)

-- ---- what lines ask

abbrev NoNumber : ℕ → Type 0
NoNumber n = ⊥

unread_of : (i : Intent) → IsOther NoNumber AnyNumber i → IsUnread i
unread_of (ReadOn reader) h = h
unread_of (ReadAll reader) h = h
unread_of _ h = tt

unread : (is : List Intent) → AllOther NoNumber AnyNumber is → AreUnread is
unread is h = all_as (IsOther NoNumber AnyNumber) IsUnread unread_of is h

only_has : (o : Option ℕ) (i : ℕ → Intent) → ((k : ℕ) → is_reading (i k) ≡ true) → OnlyReads (asks_if_has o (λ k. i k ∷ []))
only_has None i h = tt
only_has (Some k) i h = (h k, tt)

other_asks : (run : Run) (s : State) (st : Step) → AllOther NoNumber AnyNumber (asked run s st) → AreUnread (asked run s st) ⊎ OnlyReads (asked run s st)
other_asks run s st h = inl (unread (asked run s st) h)

asks_of : (run : Run) (s : State) (st : Step) → AreUnread (asked run s st) ⊎ OnlyReads (asked run s st)
asks_of run s (step.Format name segments buckets content agg reach fragment generation alternates) = inl tt
asks_of run s (step.Put key body request response) = other_asks run s (step.Put key body request response) (put_other NoNumber AnyNumber s key body request response tt)
asks_of run s (step.Get key request) = inr (refl, (refl, (refl, tt)))
asks_of run s (step.OpenWrite actor key pin request response) = other_asks run s (step.OpenWrite actor key pin request response) (free_other NoNumber AnyNumber (held_by run actor) (Write _ key request response pin) tt)
asks_of run s (step.Feed actor body) = other_asks run s (step.Feed actor body) (feeding_other NoNumber AnyNumber run s body (put_written_by run actor) (λ put e. tt))
asks_of run s (step.Close actor) = other_asks run s (step.Close actor) (close_other NoNumber AnyNumber run s (put_written_by run actor) (λ put e. tt))
asks_of run s (step.Abort actor) = other_asks run s (step.Abort actor) (has_other NoNumber AnyNumber (put_written_by run actor) (λ put. GiveUp put) (λ k e. tt))
asks_of run s (step.OpenRead actor key request) = other_asks run s (step.OpenRead actor key request) (free_other NoNumber AnyNumber (held_by run actor) (Look _ key request) tt)
asks_of run s (step.Next actor) = inr (only_has (reader_by run actor) (λ reader. ReadOn reader) (λ k. refl))
asks_of run s (step.Done actor) = inr (only_has (reader_by run actor) (λ reader. StopReading reader) (λ k. refl))
asks_of run s (step.Remove key) = inl (tt, tt)
asks_of run s step.Flush = inl (tt, tt)
asks_of run s (step.Now at) = inl tt
asks_of run s (step.Fail nth) = inl tt
asks_of run s (step.StopAfter calls) = inl tt
asks_of run s (step.Flip place byte) = inl tt
asks_of run s (step.Cut choice) = inl tt

-- ---- a line of a legal script

of_other_bytes : (p : Permit) (s : State) (r : Rec) → IsTold p s r → IsOfOtherBytes p s r
of_other_bytes p s (rec.Damaged piece place kept found) h = h
of_other_bytes p s _ h = tt

pub damage_is_given : (laws : OfKept) (unlike : NoneIsUnlike) (keep : ReadsKeep) (lines : List (List ℕ)) (turns : List Turn) (s : State) (turn : Turn) (asks : Step) → IsRun fresh lines turns
    → (run_after fresh lines turns).state ≡ Some s → SessionTakes (run_after fresh lines turns) s turn asks → AllByRecursion (IsOfOtherBytes turn.device s) turn.added
damage_is_given laws unlike keep lines turns s turn asks legal is takes =
    let run : Run = run_after fresh lines turns in
    let keeps : Keeps run s = subst (StandsWhere Keeps run) is (keeps_after laws lines turns fresh legal tt) in
    let placed : ArePlaced s = subst (StandsWhere (λ x t. ArePlaced t) run) is (lines_place lines turns fresh legal tt) in
    let first : IsAsked turn.device s takes.unsynced unlike keep run.streams s (asked run s asks) = elim (asks_of run s asks) [
      | inl un ↦ inl un
      | inr only ↦ inr (record { kept = keeps.kept; placed = placed; only = only })
    ] in
    all_as (IsTold turn.device s) (IsOfOtherBytes turn.device s) (of_other_bytes turn.device s) turn.added
    (grown turn.device s takes.unsynced unlike keep run.streams refl first takes.legal.grows)
