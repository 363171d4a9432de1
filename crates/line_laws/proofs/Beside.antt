-- Records that leave a reader, or a put, as it is.
use Rattle.std.proofs.Common.{◌≡◌, ℕ, List, [], ◌∷◌, sym, subst, inl, inr, ◌⊎◌}
use Rattle.std.specs.Prelude.{Option, Some, map}
use Rattle.std.specs.List.{AllByRecursion}
use Rattle.tape_base.specs.declared.keys.Key.{Key}
use Rattle.tape_base.specs.declared.pieces.PieceId.{PieceId}
use Rattle.fragment_table.specs.Table.{TableRow}
use Rattle.alternate_vector.specs.Field.{Field}
use Rattle.cache_model.specs.declared.answer.NextAnswer.{NextAnswer}
use Rattle.cache_model.specs.declared.answer.NextAnswer.TheVariants as next
use Rattle.cache_model.specs.declared.answer.ReadAnswer.{ReadAnswer}
use Rattle.cache_model.specs.declared.cause.Cause.{Cause}
use Rattle.cache_model.specs.declared.record.Rec.{Rec}
use Rattle.cache_model.specs.declared.record.Rec.TheVariants as rec
use Rattle.cache_model.specs.State.{PutRow, put_of, State, Row, ReaderRow, state_after}
use Rattle.cache_model.specs.Permit.{Permit, Intent, Flush, Sync, SyncBegin, SyncStep, Drain, CleanSync, Write, Fragment, Overflow, Weigh, Finish, Commit, GiveUp, Remove, Look, ReadOn, ReadAll, StopReading, End, Stays, Done, Fails, Work, Reason, is_cleanup, work_after}
use Rattle.cache_model.specs.Room.{MayDisplace, displaced_record}
use Rattle.cache_model.specs.Due.{due_pieces}
use Rattle.cache_model.specs.Outcomes.{Copied, Copy, NoRoom, Outcome, ReadRefused, Spoiled, copies_of, flush_records, front_of, moved_record, moved_records, records_of, stopped_front_of, stopped_records, stopped_records_of}
use Rattle.cache_model.specs.Syncing.{AtOnce, InParts, MaySyncBehind, Syncing, WhereDue, at_first, behind_records, first_records}
use Rattle.cache_model.specs.Given
use Rattle.cache_model.specs.Legal
use Rattle.cache_model.specs.Legal.{Advances, Does, MayGrow, nothing, more, aborted_record, answer_record}
use Rattle.cache_model.proofs.Found.{number_of}
use Rattle.cache_model.proofs.Steps.{all_append, all_as}
use Rattle.cache_model.proofs.Syncing.{AreOfSyncs, IsOfSync, behind_of, first_of}
use Rattle.script_run.proofs.Carried.{all_filter}
use Rattle.script_run.proofs.Synced.{AllSyncing, IsSyncing, clean_syncing, drain_parts, step_syncing, sync_parts, unmark_syncing}

-- another number than this one, and any number
abbrev pub OtherThan : ℕ → ℕ → Type 0
OtherThan n k = k ≡ n → ⊥

abbrev pub AnyNumber : ℕ → Type 0
AnyNumber k = Unit {0}

-- the record begins no session, gives to these readers alone and closes these alone, and ends these puts
-- alone
abbrev pub IsBeside : (ℕ → Type 0) → (ℕ → Type 0) → Rec → Type 0
IsBeside R P (rec.Formatted geometry) = ⊥
IsBeside R P (rec.Opened geometry serial cursor floor next_put clean list) = ⊥
IsBeside R P (rec.Gave reader index length) = R reader
IsBeside R P (rec.ReadClosed reader) = R reader
IsBeside R P (rec.Committed put key length listed) = P put
IsBeside R P (rec.Aborted put key) = P put
IsBeside R P _ = Unit {0}

abbrev pub AllBeside : (ℕ → Type 0) → (ℕ → Type 0) → List Rec → Type 0
AllBeside R P recs = AllByRecursion (IsBeside R P) recs

-- what is asked is asked of these readers and of these puts alone
abbrev pub IsOther : (ℕ → Type 0) → (ℕ → Type 0) → Intent → Type 0
IsOther R P (Overflow put) = P put
IsOther R P (Weigh put rest) = P put
IsOther R P (Finish put fragments) = P put
IsOther R P (Commit put) = P put
IsOther R P (GiveUp put) = P put
IsOther R P (ReadOn reader) = R reader
IsOther R P (ReadAll reader) = R reader
IsOther R P (StopReading reader) = R reader
IsOther R P _ = Unit {0}

abbrev pub AllOther : (ℕ → Type 0) → (ℕ → Type 0) → List Intent → Type 0
AllOther R P is = AllByRecursion (IsOther R P) is

module _ (R P : ℕ → Type 0) where
  adds : (added other : List Rec) → added ≡ other → AllBeside R P other → AllBeside R P added
  adds added other is h = subst (AllBeside R P) (sym is) h

  -- ---- groups

  trouble_beside : (p : Permit) (s : State) (row : Row) (before : List Rec) (why : Cause) → Given.Trouble p s row before why → AllBeside R P before
  trouble_beside p s row before why (Given.Trouble.faulted count w m) = (tt, tt)
  trouble_beside p s row before why (Given.Trouble.damaged found d) = (tt, tt)

  lookup_beside : (p : Permit) (s : State) (key : Key) (request : List Field) (before : List Rec) (answer : ReadAnswer) → Legal.IsLookup p s key request before answer → AllBeside R P before
  lookup_beside p s key request before answer (Legal.IsLookup.verdict r) = tt
  lookup_beside p s key request before answer (Legal.IsLookup.trouble row b why live t) = trouble_beside p s row before why t

  fragment_beside : (p : Permit) (s : State) (row : Row) (entry : TableRow) (before : List Rec) (why : Cause) → Legal.ReadTrouble p s row entry before why → AllBeside R P before
  fragment_beside p s row entry before why (Legal.ReadTrouble.troubled b c t) = trouble_beside p s row before why t
  fragment_beside p s row entry before why (Legal.ReadTrouble.mismatched found read unlike) = (tt, tt)

  pub reading_beside : (p : Permit) (s : State) (r : ReaderRow) (before : List Rec) (answer : NextAnswer) → Legal.IsReading p s r before answer → AllBeside R P before
  reading_beside p s r before answer (Legal.IsReading.verdict x listed) = tt
  reading_beside p s r before answer (Legal.IsReading.trouble entry row b why m live t) = fragment_beside p s row entry before why t

  answer_beside : (reader : ℕ) (answer : NextAnswer) → R reader → IsBeside R P (answer_record reader answer)
  answer_beside reader (next.Gave index length) other = other
  answer_beside reader (next.Ended length) other = tt
  answer_beside reader (next.Waited cut) other = tt
  answer_beside reader (next.Broke why) other = tt

  reads : (p : Permit) (s : State) (reader : ℕ) (answer : NextAnswer) (added : List Rec) → R reader → Legal.MayReadOn p s reader answer added → AllBeside R P added
  reads p s reader answer added other m =
      adds added _ m.is (all_append (IsBeside R P) m.before _ (reading_beside p s m.r m.before answer m.right) (answer_beside reader answer other, tt))

  displacements_beside : (segment live : ℕ) (rows : List Row) → AllBeside R P (map (displaced_record segment live) rows)
  displacements_beside segment live [] = tt
  displacements_beside segment live (row ∷ rows) = (tt, displacements_beside segment live rows)

  displaced_beside : (p : Permit) (s : State) (piece : PieceId) (added : List Rec) → MayDisplace p s piece added → AllBeside R P added
  displaced_beside p s piece added m = adds added _ m.is (displacements_beside _ _ m.purged)

  -- ---- a flush

  outcome_beside : (row : Row) (o : Outcome) → AllBeside R P (records_of row o)
  outcome_beside row NoRoom = (tt, tt)
  outcome_beside row (Copied bytes) = tt
  outcome_beside row (Spoiled found) = (tt, tt)
  outcome_beside row (ReadRefused count) = (tt, (tt, tt))

  front_beside : (rows : List Row) (outcomes : List Outcome) → AllBeside R P (front_of rows outcomes)
  front_beside [] outcomes = tt
  front_beside (row ∷ rows) [] = tt
  front_beside (row ∷ rows) (o ∷ outcomes) = all_append (IsBeside R P) (records_of row o) (front_of rows outcomes) (outcome_beside row o) (front_beside rows outcomes)

  copies_beside : (s : State) (copies : List Copy) → AllBeside R P (moved_records s copies)
  copies_beside s [] = tt
  copies_beside s (c ∷ copies) = (tt, copies_beside (state_after s (moved_record s c)) copies)

  flushed : (p : Permit) (s : State) (added : List Rec) → Legal.MayFlush p s added → AllBeside R P added
  flushed p s added m =
      let rows : List Row = due_pieces s p.now in
      adds added (flush_records s rows m.outcomes) m.is (all_append (IsBeside R P) (front_of rows m.outcomes) _ (front_beside rows m.outcomes) (tt, copies_beside _ (copies_of rows m.outcomes)))

  stopped_outcome_beside : (row : Row) (o : Outcome) → AllBeside R P (stopped_records_of row o)
  stopped_outcome_beside row NoRoom = tt
  stopped_outcome_beside row (Copied bytes) = tt
  stopped_outcome_beside row (Spoiled found) = (tt, tt)
  stopped_outcome_beside row (ReadRefused count) = (tt, tt)

  stopped_front_beside : (rows : List Row) (outcomes : List Outcome) → AllBeside R P (stopped_front_of rows outcomes)
  stopped_front_beside [] outcomes = tt
  stopped_front_beside (row ∷ rows) [] = tt
  stopped_front_beside (row ∷ rows) (o ∷ outcomes) =
      all_append (IsBeside R P) (stopped_records_of row o) (stopped_front_of rows outcomes) (stopped_outcome_beside row o) (stopped_front_beside rows outcomes)

  stopped : (p : Permit) (s : State) (count : ℕ) (added : List Rec) → Legal.MayStop p s count added → AllBeside R P added
  stopped p s count added m =
      let rows : List Row = due_pieces s p.now in
      adds added (stopped_records rows m.outcomes count) m.is (all_append (IsBeside R P) (stopped_front_of rows m.outcomes) _ (stopped_front_beside rows m.outcomes) (tt, tt))

  -- ---- syncs

  sync_beside : (r : Rec) → IsOfSync r → IsBeside R P r
  sync_beside (rec.SyncBegun serial cursor clean in_parts) h = tt
  sync_beside (rec.SyncDone serial) h = tt
  sync_beside _ h = absurd h

  syncs_beside : (recs : List Rec) → AreOfSyncs recs → AllBeside R P recs
  syncs_beside recs h = all_as IsOfSync (IsBeside R P) sync_beside recs h

  syncing_beside : (r : Rec) → IsSyncing r → IsBeside R P r
  syncing_beside (rec.SyncBegun serial cursor clean in_parts) h = tt
  syncing_beside (rec.SyncDone serial) h = tt
  syncing_beside (rec.Damaged piece place kept found) h = tt
  syncing_beside (rec.Fault count) h = tt
  syncing_beside _ h = absurd h

  stops_beside : (added : List Rec) → AllSyncing added → AllBeside R P added
  stops_beside added h = all_as IsSyncing (IsBeside R P) syncing_beside added h

  -- a flush among syncs
  synced : (p : Permit) (k : Syncing) (s : State) (added : List Rec) → MaySyncBehind p k s added → AllBeside R P added
  synced p k s added m =
      let rows : List Row = due_pieces s p.now in
      adds added _ m.is
      (all_append (IsBeside R P) (first_records k s) _ (syncs_beside (first_records k s) (first_of k s))
      (all_append (IsBeside R P) (front_of rows m.outcomes) _ (front_beside rows m.outcomes)
      (all_append (IsBeside R P) (behind_records k (at_first k s)) _ (syncs_beside (behind_records k (at_first k s)) (behind_of k (at_first k s)))
      (tt, copies_beside _ (copies_of rows m.outcomes)))))

  parts : (p : Permit) (k : Syncing) (s : State) (added : List Rec) → MaySyncBehind p k s added ⊎ AllSyncing added → AllBeside R P added
  parts p k s added (inl m) = synced p k s added m
  parts p k s added (inr stops) = stops_beside added stops

  -- ---- room

  roomed : (p : Permit) (s : State) (bytes : ℕ) (added : List Rec) (e : End) → Legal.MakesRoom p s bytes added e → AllBeside R P added
  roomed p s bytes added e (Legal.MakesRoom.flushes x m) = flushed p s added m
  roomed p s bytes added e (Legal.MakesRoom.stops count x m) = stopped p s count added m
  roomed p s bytes added e (Legal.MakesRoom.exhausted x q is) = adds added [] is tt
  roomed p s bytes added e (Legal.MakesRoom.syncs end x d is) = parts p WhereDue s added (sync_parts p WhereDue s added end d)

  aborts : (s : State) (put : ℕ) (w : PutRow) (added : List Rec) → P put → added ≡ aborted_record w ∷ [] → put_of s put ≡ Some w → AllBeside R P added
  aborts s put w added other is found = adds added _ is (subst P (sym (number_of s put w found)) other, tt)

  pub group_beside : (p : Permit) (s : State) (i : Intent) (added : List Rec) (e : End) → IsOther R P i → Does p s i added e → AllBeside R P added
  group_beside p s Flush added e other (Legal.DoesFlush.empty q f is) = adds added [] is tt
  group_beside p s Flush added e other (Legal.DoesFlush.flushes m) = flushed p s added m
  group_beside p s Flush added e other (Legal.DoesFlush.stops count m) = stopped p s count added m
  group_beside p s Flush added e other (Legal.DoesFlush.exhausted q f b is) = adds added [] is tt
  group_beside p s Flush added e other (Legal.DoesFlush.syncs d) = parts p WhereDue s added (sync_parts p WhereDue s added e d)
  group_beside p s Sync added e other d = parts p AtOnce s added (sync_parts p AtOnce s added e d)
  group_beside p s SyncBegin added e other d = parts p InParts s added (sync_parts p InParts s added e d)
  group_beside p s (SyncStep last) added e other d = stops_beside added (step_syncing p s last added e d)
  group_beside p s Drain added e other d = parts p AtOnce s added (drain_parts p s added e d)
  group_beside p s CleanSync added e other d = stops_beside added (clean_syncing p s added e d)
  group_beside p s (Write actor key request response pin) added e other (Legal.DoesWrite.opens m) = adds added _ m.is (tt, tt)
  group_beside p s (Write actor key request response pin) added e other (Legal.DoesWrite.many q m is) = adds added [] is tt
  group_beside p s (Write actor key request response pin) added e other (Legal.DoesWrite.exhausted q m l is) = adds added [] is tt
  group_beside p s (Fragment put index payload) added e other (Legal.DoesFragment.places d m) =
      adds added _ m.is (tt, all_append (IsBeside R P) m.displaced _ (displaced_beside p s _ m.displaced m.displaces) (tt, tt))
  group_beside p s (Fragment put index payload) added e other (Legal.DoesFragment.unmarks w x q u) = stops_beside added (unmark_syncing p s added e u)
  group_beside p s (Fragment put index payload) added e other (Legal.DoesFragment.rooms w x m) = roomed p s _ added e m
  group_beside p s (Fragment put index payload) added e other (Legal.DoesFragment.exhausted w x y q) = adds added [] q.is tt
  group_beside p s (Overflow put) added e other (Legal.DoesOverflow.aborts w q l is) = aborts s put w added other is q.found
  group_beside p s (Weigh put rest) added e other (Legal.DoesWeigh.weighs w q r f is) = adds added [] is tt
  group_beside p s (Weigh put rest) added e other (Legal.DoesWeigh.too_large w q r f is) = aborts s put w added other is q.found
  group_beside p s (Weigh put rest) added e other (Legal.DoesWeigh.damaged w row found q live d is) = adds added _ is (tt, tt)
  group_beside p s (Weigh put rest) added e other (Legal.DoesWeigh.faulted w row count q live r m is) = adds added _ is (tt, tt)
  group_beside p s (Finish put fragments) added e other (Legal.DoesFinish.places d m) =
      adds added _ m.is (all_append (IsBeside R P) m.displaced _ (displaced_beside p s _ m.displaced m.displaces) (tt, tt))
  group_beside p s (Finish put fragments) added e other (Legal.DoesFinish.unmarks w c l q u) = stops_beside added (unmark_syncing p s added e u)
  group_beside p s (Finish put fragments) added e other (Legal.DoesFinish.rooms w c m) = roomed p s _ added e m
  group_beside p s (Finish put fragments) added e other (Legal.DoesFinish.exhausted w x c l q) = adds added [] q.is tt
  group_beside p s (Finish put fragments) added e other (Legal.DoesFinish.loses w index d m is) = aborts s put w added other is m.cut.writing.found
  group_beside p s (Commit put) added e other (Legal.DoesCommit.commits w f o q is) = adds added _ is (other, tt)
  group_beside p s (GiveUp put) added e other (Legal.DoesGiveUp.aborts w q is) = aborts s put w added other is q.found
  group_beside p s (GiveUp put) added e other (Legal.DoesGiveUp.over q o is) = adds added [] is tt
  group_beside p s (Remove key) added e other (Legal.DoesRemove.removes row q l is) = adds added _ is (tt, tt)
  group_beside p s (Remove key) added e other (Legal.DoesRemove.absent q l is) = adds added [] is tt
  group_beside p s (Look actor key request) added e other (Legal.DoesLook.looks m) =
      adds added _ m.is (all_append (IsBeside R P) m.before _ (lookup_beside p s key request m.before m.answer m.right) (tt, tt))
  group_beside p s (ReadOn reader) added e other (Legal.DoesReadOn.reads_on answer m) = reads p s reader answer added other m
  group_beside p s (ReadAll reader) added e other (Legal.DoesReadAll.reads_on answer x m y) = reads p s reader answer added other m
  group_beside p s (ReadAll reader) added e other (Legal.DoesReadAll.has_none q x is y) = adds added [] is tt
  group_beside p s (StopReading reader) added e other (Legal.DoesStopReading.closes r q l is) = adds added _ is (other, tt)
  group_beside p s (StopReading reader) added e other (Legal.DoesStopReading.closed q l is) = adds added [] is tt

  -- ---- along a step

  left_other : (i : Intent) (is : List Intent) (why : Option Reason) (e : End) → AllOther R P (i ∷ is) → AllOther R P (work_after i is why e).intents
  left_other i is why Stays all = all
  left_other i is why Done all = all.1
  left_other i is why (Fails reason) all = all_filter (IsOther R P) is_cleanup is all.1

  record GoesBeside (added : List Rec) (w : Work) : Type 0 where
    now : AllBeside R P added
    left : AllOther R P w.intents

  advanced : (p : Permit) (s : State) (is : List Intent) (why : Option Reason) (added : List Rec) (between : Work) → AllOther R P is → Advances p s is why added between → GoesBeside added between
  advanced p s [] why added between other a = absurd a
  advanced p s (i ∷ is) why added between other a = record {
    now = group_beside p s i added a.0 other.0 a.1;
    left = subst (λ (w : Work). AllOther R P w.intents) (sym a.2) (left_other i is why a.0 other);
  }

  pub grown_beside : {p : Permit} {s : State} {w after : Work} {recs : List Rec} → AllOther R P w.intents → MayGrow p s w recs after → AllBeside R P recs
  grown_beside other nothing = tt
  grown_beside {p} {s} {w} other (more {rest = tail} added between one others) =
      let on : GoesBeside added between = advanced p s w.intents w.refused added between other one in
      all_append (IsBeside R P) added tail on.now (grown_beside on.left others)
