-- A piece that a line records as damaged had been placed there, or copied, with the digest that was kept: what stands has the
-- digest with which a record brought it, and a flush, a lookup, a reader or a writer reads what stands.
use Rattle.std.proofs.Common.{◌≡◌, ℕ, ◌<◌, List, [], ◌∷◌, ◌++◌, refl, sym, ◌∙◌, ap, subst, inl, inr, ◌⊎◌, true, false, append_assoc}
use Rattle.std.specs.Prelude.{Bool, Option, Some, None, cond, map, nat_lt, not, option_to_list, ◌==◌, ◌&&◌}
use Rattle.std.specs.List.{AllByRecursion}
use Rattle.std.proofs.lemmas.Option.{option_and_then_some}
use Rattle.tape_base.specs.declared.digests.Digest.{Digest}
use Rattle.tape_base.specs.declared.keys.Key.{Key}
use Rattle.tape_base.specs.declared.pieces.PieceId.{PieceId}
use Rattle.tape_base.specs.Piece.{same_piece}
use Rattle.fragment_table.specs.Table.{TableRow}
use Rattle.alternate_vector.specs.Field.{Field}
use Rattle.cache_model.specs.declared.answer.NextAnswer.{NextAnswer}
use Rattle.cache_model.specs.declared.answer.NextAnswer.TheVariants as next
use Rattle.cache_model.specs.declared.answer.ReadAnswer.{ReadAnswer}
use Rattle.cache_model.specs.declared.cause.Cause.{Cause}
use Rattle.cache_model.specs.declared.record.Rec.{Rec}
use Rattle.cache_model.specs.declared.record.Rec.TheVariants as rec
use Rattle.cache_model.specs.State.{LastVector, Complete, TakenOut, ReaderRow, Row, State, after_all, floor_next, is_live, last_vector, live_row_of, live_rows, moved_row, placed_row, reader_of, row_of, state_after, vector_piece, without, without_earlier}
use Rattle.cache_model.specs.Verdict.{live_vector_of, next_piece, next_row, vector_of}
use Rattle.cache_model.specs.Due.{due_pieces, is_due}
use Rattle.cache_model.specs.Given
use Rattle.cache_model.specs.Legal
use Rattle.cache_model.specs.Legal.{Advances, Does, MayGrow, nothing, more, answer_record}
use Rattle.cache_model.specs.Outcomes.{Copied, Copy, NoRoom, Outcome, ReadRefused, Spoiled, copies_of, flush_records, front_of, moved_record, moved_records, records_of, stopped_front_of, stopped_records_of}
use Rattle.cache_model.specs.Permit.{IsAmong, Permit, Intent, Flush, Sync, SyncBegin, SyncStep, Drain, CleanSync, Write, Fragment, Overflow, Weigh, Finish, Commit, GiveUp, Remove, Look, ReadOn, ReadAll, StopReading, End, Stays, Done, Fails, Work, Reason, is_cleanup, work_after}
use Rattle.cache_model.specs.Room.{MayDisplace, displaced_record}
use Rattle.cache_model.proofs.Lists.{own_piece}
use Rattle.cache_model.proofs.Steps.{all_append, all_as}
use Rattle.step_laws.proofs.Unsynced.{clean_on, drain_on, never, step_on, sync_on, unmark_on}
use Rattle.script_grammar.specs.declared.step.Step.{Step}
use Rattle.script_grammar.specs.declared.step.Step.TheVariants as step
use Rattle.script_run.specs.Run.{Run, Stream, fresh, held_by, put_written_by, reader_by}
use Rattle.script_run.specs.Turn.{Turn}
use Rattle.script_run.specs.Asked.{asked, asks_if_has}
use Rattle.script_run.specs.Laws.{NoneIsUnlike, ReadsKeep, is_reading}
use Rattle.script_run.specs.Own.{ArePayloadsOwn}
use Rattle.script_run.specs.Takes.{IsRun, SessionTakes, run_after}
use Rattle.script_run.proofs.Carried.{all_filter}
use Rattle.script_run.proofs.Finding.{found_in}
use Rattle.script_run.proofs.Listed.{is_among}
use Rattle.script_run.proofs.Reading.{live_row}
use Rattle.script_laws.proofs.Among.{among_left, among_right}
use Rattle.script_laws.proofs.Groups.{IsKept}
use Rattle.line_laws.specs.Along.{StandsKept, StandsWhere}
use Rattle.line_laws.specs.Laws.{LegalIsKept}
use Rattle.line_laws.proofs.Asking.{close_other, feeding_other, free_other, has_other, put_other}
use Rattle.line_laws.proofs.Beside.{AllOther, AnyNumber, IsOther}
use Rattle.line_laws.proofs.Firsts.{ArePlaced, IsPlaced, lines_place, records_place}
use Rattle.headline.specs.Causes.{BringsAs, SomeAmong, WasKept}
use Rattle.headline.specs.Standing.{HasRecorded}
use Rattle.account_laws.proofs.Last.{told_last}

-- ---- lists

all_of : {X : Type 0} (P : X → Type 0) (xs : List X) → ((x : X) → IsAmong x xs → P x) → AllByRecursion P xs
all_of P [] each = tt
all_of P (x ∷ xs) each = (each x (inl refl), all_of P xs (λ y among. each y (inr among)))

-- what is among two lists is among one of them
parted : {X : Type 0} (x : X) (xs ys : List X) → IsAmong x (xs ++ ys) → IsAmong x xs ⊎ IsAmong x ys
parted x [] ys h = inr h
parted x (y ∷ xs) ys (inl same) = inl (inl same)
parted x (y ∷ xs) ys (inr later) = elim (parted x xs ys later) [ inl first ↦ inl (inr first) | inr second ↦ inr second ]

-- what is among records stands behind some of them, and before others
record Stands (x : Rec) (recs : List Rec) : Type 0 where
  front : List Rec
  back : List Rec
  are : recs ≡ front ++ x ∷ back

stands : (x : Rec) (recs : List Rec) → IsAmong x recs → Stands x recs
stands x [] h = absurd h
stands x (r ∷ recs) (inl same) = record { front = []; back = recs; are = ap (λ (y : Rec). y ∷ recs) (sym same) }
stands x (r ∷ recs) (inr later) =
    let s = stands x recs later in record { front = r ∷ s.front; back = s.back; are = ap (λ (rs : List Rec). r ∷ rs) s.are }

-- ---- what is asked

-- it reads no fragment
abbrev IsUnread : Intent → Type 0
IsUnread (ReadOn reader) = ⊥
IsUnread (ReadAll reader) = ⊥
IsUnread _ = Unit {0}

abbrev AreUnread : List Intent → Type 0
AreUnread is = AllByRecursion IsUnread is

-- it only reads
abbrev OnlyReads : List Intent → Type 0
OnlyReads is = AllByRecursion (λ i. is_reading i ≡ true) is

-- ---- what is said of pieces, their places and their digests

-- the record begins no session
abbrev GoesOn : Rec → Type 0
GoesOn (rec.Formatted geometry) = ⊥
GoesOn (rec.Opened geometry serial cursor floor next_put clean list) = ⊥
GoesOn _ = Unit {0}

kept_on : (p : Permit) (r : Rec) → IsKept p r → GoesOn r
kept_on p (rec.Formatted geometry) h = h
kept_on p (rec.Opened geometry serial cursor floor next_put clean list) h = h
kept_on p _ h = tt

module _ (Says : PieceId → ℕ → Digest → Type 0) where
  abbrev HasRow : Row → Type 0
  HasRow row = Says row.id row.place row.digest

  -- so it is of all that stands
  abbrev Known : State → Type 0
  Known s = AllByRecursion HasRow s.rows

  -- the record begins no session, and what it tells as damaged is such
  abbrev IsTold : Rec → Type 0
  IsTold (rec.Formatted geometry) = ⊥
  IsTold (rec.Opened geometry serial cursor floor next_put clean list) = ⊥
  IsTold (rec.Damaged piece place kept found) = Says piece place kept
  IsTold _ = Unit {0}

  abbrev AllTold : List Rec → Type 0
  AllTold recs = AllByRecursion IsTold recs

  told_on : (r : Rec) → IsTold r → GoesOn r
  told_on (rec.Formatted geometry) h = h
  told_on (rec.Opened geometry serial cursor floor next_put clean list) h = h
  told_on _ h = tt

  -- what the record brings is such
  abbrev IsBrought : Rec → Type 0
  IsBrought r = (id : PieceId) (there : ℕ) (kept : Digest) → BringsAs id there kept r → Says id there kept

  -- ---- what stands behind a record

  rows_without : (id : PieceId) (rows : List Row) → AllByRecursion HasRow rows → AllByRecursion HasRow (without id rows)
  rows_without id rows h = all_filter HasRow (λ row. not (same_piece row.id id)) rows h

  earlier_known : (key : Key) (put old : ℕ) (rows : List Row) (b : Bool) → AllByRecursion HasRow rows
      → AllByRecursion HasRow (cond b rows (without (vector_piece key old) rows))
  earlier_known key put old rows true h = h
  earlier_known key put old rows false h = rows_without (vector_piece key old) rows h

  rows_earlier : (key : Key) (put : ℕ) (last : Option LastVector) (rows : List Row) → AllByRecursion HasRow rows
      → AllByRecursion HasRow (without_earlier key put last rows)
  rows_earlier key put (Some (Complete old)) rows h = earlier_known key put old rows (old == put) h
  rows_earlier key put (Some (TakenOut old)) rows h = h
  rows_earlier key put None rows h = h

  copied : (s : State) (piece : PieceId) (place : ℕ) (digest : Digest) (o : Option Row) → row_of s piece ≡ o → Says piece place digest
      → AllByRecursion HasRow (map (moved_row place digest) (option_to_list o))
  copied s piece place digest None e h = tt
  copied s piece place digest (Some row) e h = (subst (λ (id : PieceId). Says id place digest) (sym (own_piece piece s.rows row e)) h, tt)

  known_behind : (s : State) (r : Rec) → GoesOn r → IsBrought r → Known s → Known (state_after s r)
  known_behind s (rec.Formatted geometry) on brought h = absurd on
  known_behind s (rec.Opened geometry serial cursor floor next_put clean list) on brought h = absurd on
  known_behind s (rec.Placed piece place blocks digest pin) on brought h =
      all_append HasRow (without piece s.rows) (placed_row s piece place blocks digest pin ∷ []) (rows_without piece s.rows h)
      (brought piece place digest (refl, refl, refl), tt)
  known_behind s (rec.Moved piece from place digest) on brought h =
      all_append HasRow (without piece s.rows) (map (moved_row place digest) (option_to_list (row_of s piece)))
      (rows_without piece s.rows h)
      (copied s piece place digest (row_of s piece) refl (brought piece place digest (refl, refl, refl)))
  known_behind s (rec.Displaced piece segment live) on brought h = rows_without piece s.rows h
  known_behind s (rec.Damaged piece place kept found) on brought h = rows_without piece s.rows h
  known_behind s (rec.Committed put key bytes alternates) on brought h = rows_earlier key put (last_vector s key) s.rows h
  known_behind s (rec.Removed put key) on brought h = rows_without (vector_piece key put) s.rows h
  known_behind s _ on brought h = h

  known_after : (s : State) (recs : List Rec) → AllTold recs → ((r : Rec) → IsAmong r recs → IsBrought r) → Known s
      → Known (after_all s recs)
  known_after s [] told brought h = h
  known_after s (r ∷ recs) told brought h =
      known_after (state_after s r) recs told.1 (λ x among. brought x (inr among))
      (known_behind s r (told_on r told.0) (brought r (inl refl)) h)

  adds : (added other : List Rec) → added ≡ other → AllTold other → AllTold added
  adds added other is h = subst AllTold (sym is) h

  live_known : (s : State) (id : PieceId) (row : Row) → Known s → live_row_of s id ≡ Some row → HasRow row
  live_known s id row h live = (live_row HasRow s id row h live).own

  vector_known : (s : State) (key : Key) (row : Row) → Known s → live_vector_of s key ≡ Some row → HasRow row
  vector_known s key row h live = option_and_then_some (live_row_of s) (vector_of s key) row live (λ id e is. live_known s id row h is)

  module _ (p : Permit) where
    -- ---- a flush

    outcome_told : (row : Row) (o : Outcome) → HasRow row → AllTold (records_of row o)
    outcome_told row NoRoom h = (tt, tt)
    outcome_told row (Copied bytes) h = tt
    outcome_told row (Spoiled found) h = (h, tt)
    outcome_told row (ReadRefused count) h = (tt, (tt, tt))

    front_told : (rows : List Row) (outcomes : List Outcome) → AllByRecursion HasRow rows → AllTold (front_of rows outcomes)
    front_told [] outcomes h = tt
    front_told (row ∷ rows) [] h = tt
    front_told (row ∷ rows) (o ∷ outcomes) h =
        all_append IsTold (records_of row o) (front_of rows outcomes) (outcome_told row o h.0) (front_told rows outcomes h.1)

    copies_told : (t : State) (copies : List Copy) → AllTold (moved_records t copies)
    copies_told t [] = tt
    copies_told t (c ∷ copies) = (tt, copies_told (state_after t (moved_record t c)) copies)

    -- what is due stands
    due_known : (t : State) (now : ℕ) → Known t → AllByRecursion HasRow (due_pieces t now)
    due_known t now h =
        all_filter HasRow (λ row. nat_lt row.place (floor_next t) && is_due t now row) (live_rows t)
        (all_filter HasRow (is_live t) t.rows h)

    flushed : (t : State) (added : List Rec) → Known t → Legal.MayFlush p t added → AllTold added
    flushed t added h m =
        let rows : List Row = due_pieces t p.now in
        adds added (flush_records t rows m.outcomes) m.is
        (all_append IsTold (front_of rows m.outcomes) _ (front_told rows m.outcomes (due_known t p.now h))
        (tt, copies_told _ (copies_of rows m.outcomes)))

    stopped_one : (row : Row) (o : Outcome) → HasRow row → AllTold (stopped_records_of row o)
    stopped_one row NoRoom h = tt
    stopped_one row (Copied bytes) h = tt
    stopped_one row (Spoiled found) h = (h, tt)
    stopped_one row (ReadRefused count) h = (tt, tt)

    stopped_told : (rows : List Row) (outcomes : List Outcome) → AllByRecursion HasRow rows → AllTold (stopped_front_of rows outcomes)
    stopped_told [] outcomes h = tt
    stopped_told (row ∷ rows) [] h = tt
    stopped_told (row ∷ rows) (o ∷ outcomes) h =
        all_append IsTold (stopped_records_of row o) (stopped_front_of rows outcomes) (stopped_one row o h.0)
        (stopped_told rows outcomes h.1)

    stopped : (t : State) (count : ℕ) (added : List Rec) → Known t → Legal.MayStop p t count added → AllTold added
    stopped t count added h m =
        let front : List Rec = stopped_front_of (due_pieces t p.now) m.outcomes in
        adds added (front ++ rec.Fault count ∷ []) m.is
        (all_append IsTold front (rec.Fault count ∷ []) (stopped_told (due_pieces t p.now) m.outcomes (due_known t p.now h)) (tt, tt))

    -- ---- what is placed

    displacements : (segment live : ℕ) (rows : List Row) → AllTold (map (displaced_record segment live) rows)
    displacements segment live [] = tt
    displacements segment live (row ∷ rows) = (tt, displacements segment live rows)

    displaced : (t : State) (piece : PieceId) (added : List Rec) → MayDisplace p t piece added → AllTold added
    displaced t piece added m = adds added _ m.is (displacements _ _ m.purged)

    -- ---- readers

    trouble : (t : State) (row : Row) (before : List Rec) (why : Cause) → HasRow row → Given.Trouble p t row before why → AllTold before
    trouble t row before why h (Given.Trouble.faulted count w m) = (tt, tt)
    trouble t row before why h (Given.Trouble.damaged found d) = (h, tt)

    lookup : (t : State) (key : Key) (request : List Field) (before : List Rec) (answer : ReadAnswer) → Known t
        → Legal.IsLookup p t key request before answer → AllTold before
    lookup t key request before answer h (Legal.IsLookup.verdict r) = tt
    lookup t key request before answer h (Legal.IsLookup.trouble row b why live x) =
        trouble t row before why (vector_known t key row h live) x

    looked : (t : State) (actor : ℕ) (key : Key) (request : List Field) (added : List Rec) → Known t
        → Legal.MayLook p t actor key request added → AllTold added
    looked t actor key request added h m =
        adds added _ m.is (all_append IsTold m.before _ (lookup t key request m.before m.answer h m.right) (tt, tt))

    answer_told : (reader : ℕ) (answer : NextAnswer) → IsTold (answer_record reader answer)
    answer_told reader (next.Gave index length) = tt
    answer_told reader (next.Ended length) = tt
    answer_told reader (next.Waited cut) = tt
    answer_told reader (next.Broke why) = tt

    closed : (t : State) (reader : ℕ) (added : List Rec) (e : End) → Legal.DoesStopReading t reader added e → AllTold added
    closed t reader added e (Legal.DoesStopReading.closes r q l is) = adds added _ is (tt, tt)
    closed t reader added e (Legal.DoesStopReading.closed q l is) = adds added [] is tt

    -- the fragment that a reader takes next, of what is kept
    module _ (unlike : NoneIsUnlike) (streams : ℕ → Stream) where
      read_trouble : (t : State) (reader : ℕ) (r : ReaderRow) (row : Row) (entry : TableRow) (before : List Rec) (why : Cause) → Known t
          → ArePayloadsOwn t streams → 0 < r.next
          → reader_of t reader ≡ Some r → next_row t r ≡ Some entry → live_row_of t (next_piece r) ≡ Some row
          → Legal.ReadTrouble p t row entry before why → AllTold before
      read_trouble t reader r row entry before why h kept some is_open next live (Legal.ReadTrouble.troubled b c x) =
          trouble t row before why (live_known t (next_piece r) row h live) x
      read_trouble t reader r row entry before why h kept some is_open next live (Legal.ReadTrouble.mismatched found read other) =
          absurd (unlike t streams reader r entry row found kept some is_open next live other)

      reading : (t : State) (reader : ℕ) (r : ReaderRow) (before : List Rec) (answer : NextAnswer) → Known t → ArePayloadsOwn t streams
          → 0 < r.next → reader_of t reader ≡ Some r → Legal.IsReading p t r before answer → AllTold before
      reading t reader r before answer h kept some is_open (Legal.IsReading.verdict x listed) = tt
      reading t reader r before answer h kept some is_open (Legal.IsReading.trouble entry row b why next live x) =
          read_trouble t reader r row entry before why h kept some is_open next live x

      reads : (t : State) (reader : ℕ) (answer : NextAnswer) (added : List Rec) → Known t → ArePayloadsOwn t streams → ArePlaced t
          → Legal.MayReadOn p t reader answer added → AllTold added
      reads t reader answer added h kept placed m =
          let some : 0 < m.r.next = found_in IsPlaced (λ (r : ReaderRow). r.reader == reader) t.readers m.r placed m.reading in
          adds added _ m.is
          (all_append IsTold m.before _ (reading t reader m.r m.before answer h kept some m.reading m.right)
          (answer_told reader answer, tt))

      -- what only reads
      reads_told : (t : State) (i : Intent) (added : List Rec) (e : End) → is_reading i ≡ true → Known t → ArePayloadsOwn t streams
          → ArePlaced t → Does p t i added e → AllTold added
      reads_told t (Look actor key request) added e only h kept placed (Legal.DoesLook.looks m) = looked t actor key request added h m
      reads_told t (ReadOn reader) added e only h kept placed (Legal.DoesReadOn.reads_on answer m) =
          reads t reader answer added h kept placed m
      reads_told t (ReadAll reader) added e only h kept placed (Legal.DoesReadAll.reads_on answer x m y) =
          reads t reader answer added h kept placed m
      reads_told t (ReadAll reader) added e only h kept placed (Legal.DoesReadAll.has_none q x is y) = adds added [] is tt
      reads_told t (StopReading reader) added e only h kept placed d = closed t reader added e d
      reads_told t _ added e only h kept placed d = absurd cc

    -- what reads no fragment, of a stripe that does not sync
    module _ (off : p.syncs ≡ false) where
      room : (t : State) (bytes : ℕ) (added : List Rec) (e : End) → Known t → Legal.MakesRoom p t bytes added e → AllTold added
      room t bytes added e h (Legal.MakesRoom.flushes x m) = flushed t added h m
      room t bytes added e h (Legal.MakesRoom.stops count x m) = stopped t count added h m
      room t bytes added e h (Legal.MakesRoom.exhausted x q is) = adds added [] is tt
      room t bytes added e h (Legal.MakesRoom.syncs end x d is) = never off (sync_on d)

      unread_told : (t : State) (i : Intent) (added : List Rec) (e : End) → IsUnread i → Known t → Does p t i added e → AllTold added
      unread_told t Flush added e un h (Legal.DoesFlush.empty q f is) = adds added [] is tt
      unread_told t Flush added e un h (Legal.DoesFlush.flushes m) = flushed t added h m
      unread_told t Flush added e un h (Legal.DoesFlush.stops count m) = stopped t count added h m
      unread_told t Flush added e un h (Legal.DoesFlush.exhausted q f b is) = adds added [] is tt
      unread_told t Flush added e un h (Legal.DoesFlush.syncs d) = never off (sync_on d)
      unread_told t Sync added e un h d = never off (sync_on d)
      unread_told t SyncBegin added e un h d = never off (sync_on d)
      unread_told t (SyncStep last) added e un h d = never off (step_on d)
      unread_told t Drain added e un h d = never off (drain_on d)
      unread_told t CleanSync added e un h d = never off (clean_on d)
      unread_told t (Write actor key request response pin) added e un h (Legal.DoesWrite.opens m) = adds added _ m.is (tt, tt)
      unread_told t (Write actor key request response pin) added e un h (Legal.DoesWrite.many q m is) = adds added [] is tt
      unread_told t (Write actor key request response pin) added e un h (Legal.DoesWrite.exhausted q m l is) = adds added [] is tt
      unread_told t (Fragment put index payload) added e un h (Legal.DoesFragment.places d m) =
          adds added _ m.is (tt, all_append IsTold m.displaced _ (displaced _ _ m.displaced m.displaces) (tt, tt))
      unread_told t (Fragment put index payload) added e un h (Legal.DoesFragment.unmarks w x q u) = never off (unmark_on u)
      unread_told t (Fragment put index payload) added e un h (Legal.DoesFragment.rooms w x m) = room t _ added e h m
      unread_told t (Fragment put index payload) added e un h (Legal.DoesFragment.exhausted w x y q) = adds added [] q.is tt
      unread_told t (Overflow put) added e un h (Legal.DoesOverflow.aborts w q l is) = adds added _ is (tt, tt)
      unread_told t (Weigh put rest) added e un h (Legal.DoesWeigh.weighs w q r f is) = adds added [] is tt
      unread_told t (Weigh put rest) added e un h (Legal.DoesWeigh.too_large w q r f is) = adds added _ is (tt, tt)
      unread_told t (Weigh put rest) added e un h (Legal.DoesWeigh.damaged w row found q live d is) =
          adds added _ is (vector_known t w.key row h live, tt)
      unread_told t (Weigh put rest) added e un h (Legal.DoesWeigh.faulted w row count q live r m is) = adds added _ is (tt, tt)
      unread_told t (Finish put fragments) added e un h (Legal.DoesFinish.places d m) =
          adds added _ m.is (all_append IsTold m.displaced _ (displaced _ _ m.displaced m.displaces) (tt, tt))
      unread_told t (Finish put fragments) added e un h (Legal.DoesFinish.unmarks w c l q u) = never off (unmark_on u)
      unread_told t (Finish put fragments) added e un h (Legal.DoesFinish.rooms w c m) = room t _ added e h m
      unread_told t (Finish put fragments) added e un h (Legal.DoesFinish.exhausted w x c l q) = adds added [] q.is tt
      unread_told t (Finish put fragments) added e un h (Legal.DoesFinish.loses w index d m is) = adds added _ is (tt, tt)
      unread_told t (Commit put) added e un h (Legal.DoesCommit.commits w f o q is) = adds added _ is (tt, tt)
      unread_told t (GiveUp put) added e un h (Legal.DoesGiveUp.aborts w q is) = adds added _ is (tt, tt)
      unread_told t (GiveUp put) added e un h (Legal.DoesGiveUp.over q o is) = adds added [] is tt
      unread_told t (Remove key) added e un h (Legal.DoesRemove.removes row q l is) = adds added _ is (tt, tt)
      unread_told t (Remove key) added e un h (Legal.DoesRemove.absent q l is) = adds added [] is tt
      unread_told t (Look actor key request) added e un h (Legal.DoesLook.looks m) = looked t actor key request added h m
      unread_told t (StopReading reader) added e un h d = closed t reader added e d
      unread_told t _ added e un h d = absurd un

-- ---- along a step

-- it was brought by an earlier record than these, or by one of these
abbrev BroughtBy : (PieceId → ℕ → Digest → Type 0) → List Rec → PieceId → ℕ → Digest → Type 0
BroughtBy Base front id there kept = Base id there kept ⊎ SomeAmong (BringsAs id there kept) front

module _ (Base : PieceId → ℕ → Digest → Type 0) where
  more_brought : (front recs : List Rec) (id : PieceId) (there : ℕ) (kept : Digest) → BroughtBy Base front id there kept
      → BroughtBy Base (front ++ recs) id there kept
  more_brought front recs id there kept (inl old) = inl old
  more_brought front recs id there kept (inr told) = inr (told.0, among_left told.0 front recs told.1, told.2)

  told_more : (front recs : List Rec) (r : Rec) → IsTold (BroughtBy Base front) r → IsTold (BroughtBy Base (front ++ recs)) r
  told_more front recs (rec.Formatted geometry) h = h
  told_more front recs (rec.Opened geometry serial cursor floor next_put clean list) h = h
  told_more front recs (rec.Damaged piece place kept found) h = more_brought front recs piece place kept h
  told_more front recs _ h = tt

  -- among the records is one that tells the damage; before it, or before them all, one brought the piece there
  record IsBacked (before recs : List Rec) (piece : PieceId) (place : ℕ) (kept found : Digest) : Type 0 where
    front : List Rec
    back : List Rec
    are : recs ≡ front ++ rec.Damaged piece place kept found ∷ back
    brought : BroughtBy Base (before ++ front) piece place kept

  module _ (p : Permit) (off : p.syncs ≡ false) (unlike : NoneIsUnlike) (keep : ReadsKeep) (streams : ℕ → Stream) where
    -- what is asked reads no fragment, or does nothing but read of what is kept
    record IsReadOfKept (t : State) (is : List Intent) : Type 0 where
      kept : ArePayloadsOwn t streams
      placed : ArePlaced t
      only : OnlyReads is

    abbrev IsAsked : State → List Intent → Type 0
    IsAsked t is = AreUnread is ⊎ IsReadOfKept t is

    record Goes (before : List Rec) (t : State) (added : List Rec) (w : Work) : Type 0 where
      told : AllTold (BroughtBy Base before) added
      asked_next : IsAsked (after_all t added) w.intents

    left_of : (P : Intent → Type 0) (i : Intent) (is : List Intent) (why : Option Reason) (e : End) → AllByRecursion P (i ∷ is)
        → AllByRecursion P (work_after i is why e).intents
    left_of P i is why Stays all = all
    left_of P i is why Done all = all.1
    left_of P i is why (Fails reason) all = all_filter P is_cleanup is all.1

    advanced : (before : List Rec) (t : State) (is : List Intent) (why : Option Reason) (added : List Rec) (between : Work)
        → Known (BroughtBy Base before) t → IsAsked t is
        → Advances p t is why added between → Goes before t added between
    advanced before t [] why added between h asks a = absurd a
    advanced before t (i ∷ is) why added between h (inl un) a = record {
      told = unread_told (BroughtBy Base before) p off t i added a.0 un.0 h a.1;
      asked_next = inl (subst (λ (w : Work). AreUnread w.intents) (sym a.2) (left_of IsUnread i is why a.0 un));
    }
    advanced before t (i ∷ is) why added between h (inr r) a = record {
      told = reads_told (BroughtBy Base before) p unlike streams t i added a.0 r.only.0 h r.kept r.placed a.1;
      asked_next = inr (record {
        kept = keep p t streams i added a.0 r.only.0 r.kept a.1;
        placed = records_place t added r.placed;
        only = subst (λ (w : Work). OnlyReads w.intents) (sym a.2) (left_of (λ i. is_reading i ≡ true) i is why a.0 r.only);
      });
    }

    -- what stands behind a group
    known_next : (before : List Rec) (t : State) (added : List Rec) → AllTold (BroughtBy Base before) added
        → Known (BroughtBy Base before) t
        → Known (BroughtBy Base (before ++ added)) (after_all t added)
    known_next before t added told h =
        known_after (BroughtBy Base (before ++ added)) t added
        (all_as (IsTold (BroughtBy Base before)) (IsTold (BroughtBy Base (before ++ added))) (told_more before added) added told)
        (λ r among id there kept brings. inr (r, among_right r before added among, brings))
        (all_as (HasRow (BroughtBy Base before)) (HasRow (BroughtBy Base (before ++ added)))
        (λ (row : Row) old. more_brought before added row.id row.place row.digest old) t.rows h)

    by_group : (before added tail : List Rec) (piece : PieceId) (place : ℕ) (kept found : Digest) → AllTold (BroughtBy Base before) added
        → IsAmong (rec.Damaged piece place kept found) added → IsBacked before (added ++ tail) piece place kept found
    by_group before added tail piece place kept found told among =
        let d : Rec = rec.Damaged piece place kept found in
        let s = stands d added among in
        record {
          front = s.front;
          back = s.back ++ tail;
          are = ap (λ (rs : List Rec). rs ++ tail) s.are ∙ append_assoc s.front (d ∷ s.back) tail;
          brought = more_brought before s.front piece place kept (is_among (IsTold (BroughtBy Base before)) d added told among);
        }

    by_later : (before added tail : List Rec) (piece : PieceId) (place : ℕ) (kept found : Digest)
        → IsBacked (before ++ added) tail piece place kept found
        → IsBacked before (added ++ tail) piece place kept found
    by_later before added tail piece place kept found b = record {
      front = added ++ b.front;
      back = b.back;
      are = ap (λ (rs : List Rec). added ++ rs) b.are ∙ sym (append_assoc added b.front (rec.Damaged piece place kept found ∷ b.back));
      brought = subst (λ (rs : List Rec). BroughtBy Base rs piece place kept) (append_assoc before added b.front) b.brought;
    }

    grown : (before : List Rec) {t : State} {w after : Work} {recs : List Rec} (piece : PieceId) (place : ℕ) (kept found : Digest)
        → Known (BroughtBy Base before) t → IsAsked t w.intents
        → MayGrow p t w recs after → IsAmong (rec.Damaged piece place kept found) recs → IsBacked before recs piece place kept found
    grown before piece place kept found h asks nothing among = absurd among
    grown before {t} {w} piece place kept found h asks (more {rest = tail} added between one others) among =
        let on : Goes before t added between = advanced before t w.intents w.refused added between h asks one in
        elim (parted (rec.Damaged piece place kept found) added tail among) [
          | inl here ↦ by_group before added tail piece place kept found on.told here
          | inr later ↦ by_later before added tail piece place kept found
              (grown (before ++ added) piece place kept found (known_next before t added on.told h) on.asked_next others later)
        ]

-- ---- what lines ask

abbrev NoNumber : ℕ → Type 0
NoNumber n = ⊥

unread_of : (i : Intent) → IsOther NoNumber AnyNumber i → IsUnread i
unread_of (ReadOn reader) h = h
unread_of (ReadAll reader) h = h
unread_of _ h = tt

only_has : (o : Option ℕ) (i : ℕ → Intent) → ((k : ℕ) → is_reading (i k) ≡ true) → OnlyReads (asks_if_has o (λ k. i k ∷ []))
only_has None i h = tt
only_has (Some k) i h = (h k, tt)

other_asks : (run : Run) (s : State) (st : Step) → AllOther NoNumber AnyNumber (asked run s st)
    → AreUnread (asked run s st) ⊎ OnlyReads (asked run s st)
other_asks run s st h = inl (all_as (IsOther NoNumber AnyNumber) IsUnread unread_of (asked run s st) h)

asks_of : (run : Run) (s : State) (st : Step) → AreUnread (asked run s st) ⊎ OnlyReads (asked run s st)
asks_of run s (step.Format name segments buckets content agg reach fragment generation alternates) = inl tt
asks_of run s (step.Put key body request response) =
    other_asks run s (step.Put key body request response) (put_other NoNumber AnyNumber s key body request response tt)
asks_of run s (step.Get key request) = inr (refl, (refl, (refl, tt)))
asks_of run s (step.OpenWrite actor key pin request response) =
    other_asks run s (step.OpenWrite actor key pin request response)
    (free_other NoNumber AnyNumber (held_by run actor) (Write _ key request response pin) tt)
asks_of run s (step.Feed actor body) =
    other_asks run s (step.Feed actor body) (feeding_other NoNumber AnyNumber run s body (put_written_by run actor) (λ put e. tt))
asks_of run s (step.Close actor) =
    other_asks run s (step.Close actor) (close_other NoNumber AnyNumber run s (put_written_by run actor) (λ put e. tt))
asks_of run s (step.Abort actor) =
    other_asks run s (step.Abort actor) (has_other NoNumber AnyNumber (put_written_by run actor) (λ put. GiveUp put) (λ k e. tt))
asks_of run s (step.OpenRead actor key request) =
    other_asks run s (step.OpenRead actor key request) (free_other NoNumber AnyNumber (held_by run actor) (Look _ key request) tt)
asks_of run s (step.Next actor) = inr (only_has (reader_by run actor) (λ reader. ReadOn reader) (λ k. refl))
asks_of run s (step.Done actor) = inr (only_has (reader_by run actor) (λ reader. StopReading reader) (λ k. refl))
asks_of run s (step.Remove key) = inl (tt, tt)
asks_of run s step.Flush = inl (tt, tt)
asks_of run s (step.Now at) = inl tt
asks_of run s (step.Fail nth) = inl tt
asks_of run s (step.StopAfter calls) = inl tt
asks_of run s (step.Flip place byte) = inl tt
asks_of run s (step.Cut choice) = inl tt

-- ---- what stands behind lines

module _ (id : PieceId) (there : ℕ) (kept : Digest) where
  -- the piece stands there with this digest
  abbrev StandsAs : State → Type 0
  StandsAs s = (row : Row) × IsAmong row s.rows × (row.id ≡ id) × (row.place ≡ there) × (row.digest ≡ kept)

  abbrev StoodSo : State → Rec → PieceId → ℕ → Digest → Type 0
  StoodSo s r i at digest = (i ≡ id) → (at ≡ there) → (digest ≡ kept) → StandsAs s ⊎ BringsAs id there kept r

  same_brings : (s : State) (r : Rec) (i : PieceId) (at : ℕ) (digest : Digest) → BringsAs i at digest r → StoodSo s r i at digest
  same_brings s r i at digest brings piece place own =
      inr (subst (λ (d : Digest). BringsAs id there d r) own
      (subst (λ (n : ℕ). BringsAs id n digest r) place (subst (λ (x : PieceId). BringsAs x at digest r) piece brings)))

  stands_as_by : (p : Permit) (s : State) (r : Rec) → IsKept p r → StandsAs (state_after s r)
      → (StandsAs s × (⊥ → ⊥)) ⊎ BringsAs id there kept r
  stands_as_by p s r on now =
      let before : Known (StoodSo s r) s = all_of (HasRow (StoodSo s r)) s.rows
      (λ row among piece place own. inl (row, among, piece, place, own)) in
      let behind : Known (StoodSo s r) (state_after s r) = known_behind (StoodSo s r) s r (kept_on p r on) (same_brings s r) before in
      elim (is_among (HasRow (StoodSo s r)) now.0 (state_after s r).rows behind now.1 now.2 now.3 now.4) [
        | inl old ↦ inl (old, λ none. none)
        | inr here ↦ inr here
      ]

module _ (lines : List (List ℕ)) (turns : List Turn) (s : State) (legal : IsRun fresh lines turns)
    (state : (run_after fresh lines turns).state ≡ Some s) where
  -- an earlier line of the session brought the piece there, with this digest
  abbrev Earlier : PieceId → ℕ → Digest → Type 0
  Earlier id there kept = HasRecorded (BringsAs id there kept) lines turns

  brought_earlier : (row : Row) → IsAmong row s.rows → Earlier row.id row.place row.digest
  brought_earlier row among =
      (told_last (StandsAs row.id row.place row.digest) (BringsAs row.id row.place row.digest) (λ told. ⊥) (λ g h. h.1)
      (stands_as_by row.id row.place row.digest)
      lines turns s legal state (row, among, refl, refl, refl)).is

  -- ---- a line of a legal script

  pub kept_before : (kept : LegalIsKept) (unlike : NoneIsUnlike) (keep : ReadsKeep) (turn : Turn) (asks : Step)
      → SessionTakes (run_after fresh lines turns) s turn asks
      → (piece : PieceId) (place : ℕ) (digest found : Digest) → IsAmong (rec.Damaged piece place digest found) turn.added
      → WasKept lines turns turn place digest found
  kept_before kept unlike keep turn asks takes piece place digest found among =
      let run : Run = run_after fresh lines turns in
      let own : StandsKept run s = subst (StandsWhere StandsKept run) state (kept lines [] turns [] legal tt tt).0 in
      let placed : ArePlaced s = subst (StandsWhere (λ x t. ArePlaced t) run) state (lines_place lines turns fresh legal tt) in
      let first : IsAsked Earlier turn.device takes.unsynced unlike keep run.streams s (asked run s asks) = elim (asks_of run s asks) [
        | inl un ↦ inl un
        | inr only ↦ inr (record { kept = own.kept; placed = placed; only = only })
      ] in
      let known : Known (BroughtBy Earlier []) s = all_of (HasRow (BroughtBy Earlier [])) s.rows
      (λ row there. inl (brought_earlier row there)) in
      let b = grown Earlier turn.device takes.unsynced unlike keep run.streams [] piece place digest found known first
      takes.legal.grows among in
      record {
        piece = piece;
        front = b.front;
        back = b.back;
        added_are = b.are;
        brought = elim b.brought [ inl old ↦ inr old | inr told ↦ inl told ];
      }
