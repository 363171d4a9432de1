-- Which group of records opens a put, completes it, gives it up, or removes it.
use Rattle.std.proofs.Common.{◌≡◌, ℕ, List, [], ◌∷◌, refl, sym, subst, inl, inr, ◌⊎◌}
use Rattle.std.specs.Prelude.{Option, Some, map}
use Rattle.std.specs.List.{AllByRecursion}
use Rattle.tape_base.specs.declared.keys.Key.{Key}
use Rattle.tape_base.specs.declared.pieces.PieceId.{PieceId}
use Rattle.fragment_table.specs.Table.{TableRow}
use Rattle.alternate_vector.specs.Field.{Field}
use Rattle.cache_model.specs.declared.answer.NextAnswer.{NextAnswer}
use Rattle.cache_model.specs.declared.answer.NextAnswer.TheVariants as next
use Rattle.cache_model.specs.declared.answer.ReadAnswer.{ReadAnswer}
use Rattle.cache_model.specs.declared.cause.Cause.{Cause}
use Rattle.cache_model.specs.declared.record.Rec.{Rec}
use Rattle.cache_model.specs.declared.record.Rec.TheVariants as rec
use Rattle.cache_model.specs.State.{PutRow, put_of, State, Row, ReaderRow, state_after}
use Rattle.cache_model.specs.Permit.{Permit, Intent, Flush, Sync, SyncBegin, SyncStep, Drain, CleanSync, Write, Fragment, Overflow, Weigh, Finish, Commit, GiveUp, Remove, Look, ReadOn, ReadAll, StopReading, End, Stays, Done, Fails, Work, Reason, Lost, ManyFragments, TooLarge, is_cleanup, work_after}
use Rattle.cache_model.specs.Room.{MayDisplace, displaced_record}
use Rattle.cache_model.specs.Due.{due_pieces}
use Rattle.cache_model.specs.Outcomes.{Copied, Copy, NoRoom, Outcome, ReadRefused, Spoiled, copies_of, flush_records, front_of, moved_record, moved_records, records_of, stopped_front_of, stopped_records, stopped_records_of}
use Rattle.cache_model.specs.Syncing.{AtOnce, InParts, MaySyncBehind, Syncing, WhereDue, at_first, behind_records, first_records}
use Rattle.cache_model.specs.Given
use Rattle.cache_model.specs.Legal
use Rattle.cache_model.specs.Legal.{Advances, Does, MayGrow, nothing, more, aborted_record, answer_record}
use Rattle.cache_model.proofs.Found.{number_of}
use Rattle.cache_model.proofs.Steps.{all_append, all_as}
use Rattle.cache_model.proofs.Syncing.{AreOfSyncs, IsOfSync, behind_of, first_of}
use Rattle.script_run.proofs.Carried.{all_filter}
use Rattle.script_run.proofs.Synced.{AllSyncing, IsSyncing, clean_syncing, drain_parts, step_syncing, sync_parts, unmark_syncing}

-- the record opens no put, ends none, and removes none
abbrev Leaves : Rec → Type 0
Leaves (rec.WriteOpened who put key request response pin) = ⊥
Leaves (rec.Committed put key bytes list) = ⊥
Leaves (rec.Aborted put key) = ⊥
Leaves (rec.Removed put key) = ⊥
Leaves _ = Unit {0}

abbrev AllLeave : List Rec → Type 0
AllLeave recs = AllByRecursion Leaves recs

adds : (added other : List Rec) → added ≡ other → AllLeave other → AllLeave added
adds added other is h = subst AllLeave (sym is) h

-- ---- groups

trouble_left : (p : Permit) (s : State) (row : Row) (before : List Rec) (why : Cause) → Given.Trouble p s row before why → AllLeave before
trouble_left p s row before why (Given.Trouble.faulted count w m) = (tt, tt)
trouble_left p s row before why (Given.Trouble.damaged found d) = (tt, tt)

lookup_left : (p : Permit) (s : State) (key : Key) (request : List Field) (before : List Rec) (answer : ReadAnswer) → Legal.IsLookup p s key request before answer → AllLeave before
lookup_left p s key request before answer (Legal.IsLookup.verdict r) = tt
lookup_left p s key request before answer (Legal.IsLookup.trouble row b why live t) = trouble_left p s row before why t

fragment_left : (p : Permit) (s : State) (row : Row) (entry : TableRow) (before : List Rec) (why : Cause) → Legal.ReadTrouble p s row entry before why → AllLeave before
fragment_left p s row entry before why (Legal.ReadTrouble.troubled b c t) = trouble_left p s row before why t
fragment_left p s row entry before why (Legal.ReadTrouble.mismatched found read unlike) = (tt, tt)

reading_left : (p : Permit) (s : State) (r : ReaderRow) (before : List Rec) (answer : NextAnswer) → Legal.IsReading p s r before answer → AllLeave before
reading_left p s r before answer (Legal.IsReading.verdict x listed) = tt
reading_left p s r before answer (Legal.IsReading.trouble entry row b why m live t) = fragment_left p s row entry before why t

answer_left : (reader : ℕ) (answer : NextAnswer) → Leaves (answer_record reader answer)
answer_left reader (next.Gave index length) = tt
answer_left reader (next.Ended length) = tt
answer_left reader (next.Waited cut) = tt
answer_left reader (next.Broke why) = tt

reads : (p : Permit) (s : State) (reader : ℕ) (answer : NextAnswer) (added : List Rec) → Legal.MayReadOn p s reader answer added → AllLeave added
reads p s reader answer added m =
    adds added _ m.is (all_append Leaves m.before _ (reading_left p s m.r m.before answer m.right) (answer_left reader answer, tt))

displacements_left : (segment live : ℕ) (rows : List Row) → AllLeave (map (displaced_record segment live) rows)
displacements_left segment live [] = tt
displacements_left segment live (row ∷ rows) = (tt, displacements_left segment live rows)

displaced_left : (p : Permit) (s : State) (piece : PieceId) (added : List Rec) → MayDisplace p s piece added → AllLeave added
displaced_left p s piece added m = adds added _ m.is (displacements_left _ _ m.purged)

-- ---- a flush

outcome_left : (row : Row) (o : Outcome) → AllLeave (records_of row o)
outcome_left row NoRoom = (tt, tt)
outcome_left row (Copied bytes) = tt
outcome_left row (Spoiled found) = (tt, tt)
outcome_left row (ReadRefused count) = (tt, (tt, tt))

front_left : (rows : List Row) (outcomes : List Outcome) → AllLeave (front_of rows outcomes)
front_left [] outcomes = tt
front_left (row ∷ rows) [] = tt
front_left (row ∷ rows) (o ∷ outcomes) = all_append Leaves (records_of row o) (front_of rows outcomes) (outcome_left row o) (front_left rows outcomes)

copies_left : (s : State) (copies : List Copy) → AllLeave (moved_records s copies)
copies_left s [] = tt
copies_left s (c ∷ copies) = (tt, copies_left (state_after s (moved_record s c)) copies)

flushed : (p : Permit) (s : State) (added : List Rec) → Legal.MayFlush p s added → AllLeave added
flushed p s added m =
    let rows : List Row = due_pieces s p.now in
    adds added (flush_records s rows m.outcomes) m.is (all_append Leaves (front_of rows m.outcomes) _ (front_left rows m.outcomes) (tt, copies_left _ (copies_of rows m.outcomes)))

stopped_outcome_left : (row : Row) (o : Outcome) → AllLeave (stopped_records_of row o)
stopped_outcome_left row NoRoom = tt
stopped_outcome_left row (Copied bytes) = tt
stopped_outcome_left row (Spoiled found) = (tt, tt)
stopped_outcome_left row (ReadRefused count) = (tt, tt)

stopped_front_left : (rows : List Row) (outcomes : List Outcome) → AllLeave (stopped_front_of rows outcomes)
stopped_front_left [] outcomes = tt
stopped_front_left (row ∷ rows) [] = tt
stopped_front_left (row ∷ rows) (o ∷ outcomes) =
    all_append Leaves (stopped_records_of row o) (stopped_front_of rows outcomes) (stopped_outcome_left row o) (stopped_front_left rows outcomes)

stopped : (p : Permit) (s : State) (count : ℕ) (added : List Rec) → Legal.MayStop p s count added → AllLeave added
stopped p s count added m =
    let rows : List Row = due_pieces s p.now in
    adds added (stopped_records rows m.outcomes count) m.is (all_append Leaves (stopped_front_of rows m.outcomes) _ (stopped_front_left rows m.outcomes) (tt, tt))

-- ---- syncs

sync_left : (r : Rec) → IsOfSync r → Leaves r
sync_left (rec.SyncBegun serial cursor clean in_parts) h = tt
sync_left (rec.SyncDone serial) h = tt
sync_left _ h = absurd h

syncs_left : (recs : List Rec) → AreOfSyncs recs → AllLeave recs
syncs_left recs h = all_as IsOfSync Leaves sync_left recs h

syncing_left : (r : Rec) → IsSyncing r → Leaves r
syncing_left (rec.SyncBegun serial cursor clean in_parts) h = tt
syncing_left (rec.SyncDone serial) h = tt
syncing_left (rec.Damaged piece place kept found) h = tt
syncing_left (rec.Fault count) h = tt
syncing_left _ h = absurd h

stops_left : (added : List Rec) → AllSyncing added → AllLeave added
stops_left added h = all_as IsSyncing Leaves syncing_left added h

-- a flush among syncs
synced : (p : Permit) (k : Syncing) (s : State) (added : List Rec) → MaySyncBehind p k s added → AllLeave added
synced p k s added m =
    let rows : List Row = due_pieces s p.now in
    adds added _ m.is
    (all_append Leaves (first_records k s) _ (syncs_left (first_records k s) (first_of k s))
    (all_append Leaves (front_of rows m.outcomes) _ (front_left rows m.outcomes)
    (all_append Leaves (behind_records k (at_first k s)) _ (syncs_left (behind_records k (at_first k s)) (behind_of k (at_first k s)))
    (tt, copies_left _ (copies_of rows m.outcomes)))))

parts : (p : Permit) (k : Syncing) (s : State) (added : List Rec) → MaySyncBehind p k s added ⊎ AllSyncing added → AllLeave added
parts p k s added (inl m) = synced p k s added m
parts p k s added (inr stops) = stops_left added stops

-- ---- room

roomed : (p : Permit) (s : State) (bytes : ℕ) (added : List Rec) (e : End) → Legal.MakesRoom p s bytes added e → AllLeave added
roomed p s bytes added e (Legal.MakesRoom.flushes x m) = flushed p s added m
roomed p s bytes added e (Legal.MakesRoom.stops count x m) = stopped p s count added m
roomed p s bytes added e (Legal.MakesRoom.exhausted x q is) = adds added [] is tt
roomed p s bytes added e (Legal.MakesRoom.syncs end x d is) = parts p WhereDue s added (sync_parts p WhereDue s added end d)

-- ---- which group it is

-- a writer of the key opens
abbrev pub OpensBy : Key → Intent → Type 0
OpensBy key (Write actor k request response pin) = k ≡ key
OpensBy key _ = ⊥

abbrev pub CommitsBy : ℕ → Intent → Type 0
CommitsBy put (Commit n) = n ≡ put
CommitsBy put _ = ⊥

-- what gives the put up, for this reason where it is no wish
abbrev pub AbortsBy : ℕ → Intent → End → Type 0
AbortsBy put (Overflow n) e = (n ≡ put) × (e ≡ Fails (ManyFragments n))
AbortsBy put (Weigh n rest) e = (n ≡ put) × ((bytes : ℕ) × (e ≡ Fails (TooLarge n bytes)))
AbortsBy put (Finish n fragments) e = (n ≡ put) × ((index : ℕ) × (e ≡ Fails (Lost n index)))
AbortsBy put (GiveUp n) e = n ≡ put
AbortsBy put _ e = ⊥

abbrev pub RemovesBy : Key → Intent → Type 0
RemovesBy key (Remove k) = k ≡ key
RemovesBy key _ = ⊥

-- the put's row has this key
abbrev pub IsOfKey : State → ℕ → Key → Type 0
IsOfKey s put key = (w : PutRow) × (put_of s put ≡ Some w) × (w.key ≡ key)

-- a record that opens, ends or removes a put is one of such a group
abbrev pub EndsBy : State → Intent → End → Rec → Type 0
EndsBy s i e (rec.WriteOpened who put key request response pin) = OpensBy key i
EndsBy s i e (rec.Committed put key bytes list) = CommitsBy put i × IsOfKey s put key
EndsBy s i e (rec.Aborted put key) = AbortsBy put i e × IsOfKey s put key
EndsBy s i e (rec.Removed put key) = RemovesBy key i
EndsBy s i e _ = Unit {0}

module _ (s : State) (i : Intent) (e : End) where
  left_ends : (r : Rec) → Leaves r → EndsBy s i e r
  left_ends (rec.WriteOpened who put key request response pin) h = absurd h
  left_ends (rec.Committed put key bytes list) h = absurd h
  left_ends (rec.Aborted put key) h = absurd h
  left_ends (rec.Removed put key) h = absurd h
  left_ends _ h = tt

  plain : (added : List Rec) → AllLeave added → AllByRecursion (EndsBy s i e) added
  plain added h = all_as Leaves (EndsBy s i e) left_ends added h

  one : (added : List Rec) (r : Rec) → added ≡ r ∷ [] → EndsBy s i e r → AllByRecursion (EndsBy s i e) added
  one added r is h = subst (AllByRecursion (EndsBy s i e)) (sym is) (h, tt)

  aborts : (added : List Rec) (put : ℕ) (w : PutRow) → added ≡ aborted_record w ∷ [] → put_of s put ≡ Some w → AbortsBy put i e → AllByRecursion (EndsBy s i e) added
  aborts added put w is found by =
      let same : w.put ≡ put = number_of s put w found in
      one added (aborted_record w) is (subst (λ n. AbortsBy n i e) (sym same) by, (w, subst (λ n. put_of s n ≡ Some w) (sym same) found, refl))

pub group_ends : (p : Permit) (s : State) (i : Intent) (added : List Rec) (e : End) → Does p s i added e → AllByRecursion (EndsBy s i e) added
group_ends p s Flush added e (Legal.DoesFlush.empty q f is) = plain s Flush e added (adds added [] is tt)
group_ends p s Flush added e (Legal.DoesFlush.flushes m) = plain s Flush e added (flushed p s added m)
group_ends p s Flush added e (Legal.DoesFlush.stops count m) = plain s Flush e added (stopped p s count added m)
group_ends p s Flush added e (Legal.DoesFlush.exhausted q f b is) = plain s Flush e added (adds added [] is tt)
group_ends p s Flush added e (Legal.DoesFlush.syncs d) = plain s Flush e added (parts p WhereDue s added (sync_parts p WhereDue s added e d))
group_ends p s Sync added e d = plain s Sync e added (parts p AtOnce s added (sync_parts p AtOnce s added e d))
group_ends p s SyncBegin added e d = plain s SyncBegin e added (parts p InParts s added (sync_parts p InParts s added e d))
group_ends p s (SyncStep last) added e d = plain s (SyncStep last) e added (stops_left added (step_syncing p s last added e d))
group_ends p s Drain added e d = plain s Drain e added (parts p AtOnce s added (drain_parts p s added e d))
group_ends p s CleanSync added e d = plain s CleanSync e added (stops_left added (clean_syncing p s added e d))
group_ends p s (Write actor key request response pin) added e (Legal.DoesWrite.opens m) = one s (Write actor key request response pin) e added _ m.is refl
group_ends p s (Write actor key request response pin) added e (Legal.DoesWrite.many q m is) = plain s (Write actor key request response pin) e added (adds added [] is tt)
group_ends p s (Write actor key request response pin) added e (Legal.DoesWrite.exhausted q m l is) = plain s (Write actor key request response pin) e added (adds added [] is tt)
group_ends p s (Fragment put index payload) added e (Legal.DoesFragment.places d m) =
    plain s (Fragment put index payload) e added (adds added _ m.is (tt, all_append Leaves m.displaced _ (displaced_left p s _ m.displaced m.displaces) (tt, tt)))
group_ends p s (Fragment put index payload) added e (Legal.DoesFragment.unmarks w x q u) = plain s (Fragment put index payload) e added (stops_left added (unmark_syncing p s added e u))
group_ends p s (Fragment put index payload) added e (Legal.DoesFragment.rooms w x m) = plain s (Fragment put index payload) e added (roomed p s _ added e m)
group_ends p s (Fragment put index payload) added e (Legal.DoesFragment.exhausted w x y q) = plain s (Fragment put index payload) e added (adds added [] q.is tt)
group_ends p s (Overflow put) added e (Legal.DoesOverflow.aborts w q l is) = aborts s (Overflow put) e added put w is q.found (refl, refl)
group_ends p s (Weigh put rest) added e (Legal.DoesWeigh.weighs w q r f is) = plain s (Weigh put rest) e added (adds added [] is tt)
group_ends p s (Weigh put rest) added e (Legal.DoesWeigh.too_large w q r f is) = aborts s (Weigh put rest) e added put w is q.found (refl, (_, refl))
group_ends p s (Weigh put rest) added e (Legal.DoesWeigh.damaged w row found q live d is) = plain s (Weigh put rest) e added (adds added _ is (tt, tt))
group_ends p s (Weigh put rest) added e (Legal.DoesWeigh.faulted w row count q live r m is) = plain s (Weigh put rest) e added (adds added _ is (tt, tt))
group_ends p s (Finish put fragments) added e (Legal.DoesFinish.places d m) =
    plain s (Finish put fragments) e added (adds added _ m.is (all_append Leaves m.displaced _ (displaced_left p s _ m.displaced m.displaces) (tt, tt)))
group_ends p s (Finish put fragments) added e (Legal.DoesFinish.unmarks w c l q u) = plain s (Finish put fragments) e added (stops_left added (unmark_syncing p s added e u))
group_ends p s (Finish put fragments) added e (Legal.DoesFinish.rooms w c m) = plain s (Finish put fragments) e added (roomed p s _ added e m)
group_ends p s (Finish put fragments) added e (Legal.DoesFinish.exhausted w x c l q) = plain s (Finish put fragments) e added (adds added [] q.is tt)
group_ends p s (Finish put fragments) added e (Legal.DoesFinish.loses w index d m is) = aborts s (Finish put fragments) e added put w is m.cut.writing.found (refl, (index, d))
group_ends p s (Commit put) added e (Legal.DoesCommit.commits w f o q is) = one s (Commit put) e added _ is (refl, (w, f, refl))
group_ends p s (GiveUp put) added e (Legal.DoesGiveUp.aborts w q is) = aborts s (GiveUp put) e added put w is q.found refl
group_ends p s (GiveUp put) added e (Legal.DoesGiveUp.over q o is) = plain s (GiveUp put) e added (adds added [] is tt)
group_ends p s (Remove key) added e (Legal.DoesRemove.removes row q l is) = one s (Remove key) e added _ is refl
group_ends p s (Remove key) added e (Legal.DoesRemove.absent q l is) = plain s (Remove key) e added (adds added [] is tt)
group_ends p s (Look actor key request) added e (Legal.DoesLook.looks m) =
    plain s (Look actor key request) e added (adds added _ m.is (all_append Leaves m.before _ (lookup_left p s key request m.before m.answer m.right) (tt, tt)))
group_ends p s (ReadOn reader) added e (Legal.DoesReadOn.reads_on answer m) = plain s (ReadOn reader) e added (reads p s reader answer added m)
group_ends p s (ReadAll reader) added e (Legal.DoesReadAll.reads_on answer x m y) = plain s (ReadAll reader) e added (reads p s reader answer added m)
group_ends p s (ReadAll reader) added e (Legal.DoesReadAll.has_none q x is y) = plain s (ReadAll reader) e added (adds added [] is tt)
group_ends p s (StopReading reader) added e (Legal.DoesStopReading.closes r q l is) = plain s (StopReading reader) e added (adds added _ is (tt, tt))
group_ends p s (StopReading reader) added e (Legal.DoesStopReading.closed q l is) = plain s (StopReading reader) e added (adds added [] is tt)

-- ---- along a step

-- what is asked, and what holds of each record that it may add
module _ (A : Intent → Type 0) (B : Rec → Type 0) (by : (s : State) (i : Intent) (e : End) (r : Rec) → A i → EndsBy s i e r → B r) where
  left_asked : (i : Intent) (is : List Intent) (why : Option Reason) (e : End) → AllByRecursion A (i ∷ is) → AllByRecursion A (work_after i is why e).intents
  left_asked i is why Stays all = all
  left_asked i is why Done all = all.1
  left_asked i is why (Fails reason) all = all_filter A is_cleanup is all.1

  advanced : (p : Permit) (s : State) (is : List Intent) (why : Option Reason) (added : List Rec) (between : Work) → AllByRecursion A is → Advances p s is why added between
      → AllByRecursion B added × AllByRecursion A between.intents
  advanced p s [] why added between all a = absurd a
  advanced p s (i ∷ is) why added between all a = (
    all_as (EndsBy s i a.0) B (λ r h. by s i a.0 r all.0 h) added (group_ends p s i added a.0 a.1),
    subst (λ (w : Work). AllByRecursion A w.intents) (sym a.2) (left_asked i is why a.0 all),
  )

  pub all_told : {p : Permit} {s : State} {w after : Work} {recs : List Rec} → AllByRecursion A w.intents → MayGrow p s w recs after → AllByRecursion B recs
  all_told all nothing = tt
  all_told {p} {s} {w} all (more {rest = tail} added between one others) =
      let first = advanced p s w.intents w.refused added between all one in
      all_append B added tail first.0 (all_told first.1 others)
