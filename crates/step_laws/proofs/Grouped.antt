-- What a group of records does of syncs, by what is asked: nothing, or one of the ways in which a stripe syncs.
use Rattle.std.proofs.Common.{◌≡◌, ◌<◌, ◌⊎◌, List, [], ◌∷◌, refl, sym, ap, subst, inl, inr, true, false, Bool}
use Rattle.std.specs.Prelude.{ℕ, Option, Some, None, map, not, length, option_map, option_to_list}
use Rattle.std.specs.List.{AllByRecursion}
use Rattle.tape_base.specs.declared.keys.Key.{Key}
use Rattle.tape_base.specs.declared.pieces.PieceId.{PieceId}
use Rattle.alternate_vector.specs.Field.{Field}
use Rattle.fragment_table.specs.Table.{TableRow}
use Rattle.cache_model.specs.declared.cause.Cause.{Cause}
use Rattle.cache_model.specs.declared.answer.NextAnswer.{NextAnswer}
use Rattle.cache_model.specs.declared.answer.NextAnswer.TheVariants as next
use Rattle.cache_model.specs.declared.answer.ReadAnswer.{ReadAnswer}
use Rattle.cache_model.specs.declared.record.Rec.{Rec}
use Rattle.cache_model.specs.declared.record.Rec.TheVariants as rec
use Rattle.cache_model.specs.State.{State, Row, ReaderRow}
use Rattle.cache_model.specs.Permit.{Permit, Intent, Flush, Sync, SyncBegin, SyncStep, Drain, CleanSync, Write, Fragment, Overflow, Weigh, Finish, Commit, GiveUp, Remove, Look, ReadOn, ReadAll, StopReading, End}
use Rattle.cache_model.specs.Room.{MayDisplace, displaced_record, has_room}
use Rattle.cache_model.specs.Due.{due_pieces}
use Rattle.cache_model.specs.Outcomes.{Copied, NoRoom, Outcome, ReadRefused, Spoiled, front_of, flush_tail, stopped_front_of, stopped_records_of}
use Rattle.cache_model.specs.Given
use Rattle.cache_model.specs.Syncing
use Rattle.cache_model.specs.Syncing.{CannotEnd, DoesCleanSync, DoesSync, DoesSyncStep, Unmarks, ended_records, must_unmark}
use Rattle.cache_model.specs.Legal
use Rattle.cache_model.specs.Legal.{Does, answer_record}
use Rattle.cache_model.proofs.Sound.{LeavesTape}
use Rattle.cache_model.proofs.Steps.{all_append}
use Rattle.cache_model.proofs.Syncing.{AllLeaveSyncs, LeavesSyncs, front_leaves_syncs, tail_leaves_syncs}
use Rattle.cache_model.specs.ToRead.{flushes_first}
use Rattle.step_laws.specs.AskLaws.{places, way_of}

-- ---- records

-- the record tells of no sync, places nothing and begins no buffer
abbrev pub IsPlain : Rec → Type 0
IsPlain r = LeavesTape r × LeavesSyncs r

abbrev pub ArePlain : List Rec → Type 0
ArePlain recs = AllByRecursion IsPlain recs

-- it is of an insert: it tells of no sync, and begins no buffer
abbrev pub IsOfInsert : Rec → Type 0
IsOfInsert (rec.Formatted geometry) = ⊥
IsOfInsert (rec.Opened geometry serial cursor floor next_put clean list) = ⊥
IsOfInsert (rec.Began cursor floor) = ⊥
IsOfInsert (rec.SyncBegun serial cursor clean in_parts) = ⊥
IsOfInsert (rec.SyncDone serial) = ⊥
IsOfInsert _ = Unit {0}

abbrev pub AreOfInsert : List Rec → Type 0
AreOfInsert recs = AllByRecursion IsOfInsert recs

-- it tells that a sync is ended, or that it cannot be
abbrev pub IsEnding : Rec → Type 0
IsEnding (rec.SyncDone serial) = Unit {0}
IsEnding (rec.Fault count) = Unit {0}
IsEnding _ = ⊥

abbrev pub AreEnding : List Rec → Type 0
AreEnding recs = AllByRecursion IsEnding recs

-- what is asked ends a sync in parts: it drains, or writes the last part
abbrev pub EndsParts : Intent → Type 0
EndsParts i = (i ≡ Drain) ⊎ (i ≡ SyncStep true)

-- what a group does of syncs
pub data Grouped (p : Permit) (s : State) (i : Intent) (added : List Rec) (e : End) : Type 0 where
  plain : ArePlain added → Grouped p s i added e
  inserts : must_unmark p s ≡ false → AreOfInsert added → Grouped p s i added e
  flushes : p.syncs ≡ false → AllLeaveSyncs added → Grouped p s i added e
  syncs : (f : End) → flushes_first s i ≡ true → (i ≡ Drain → 0 < s.filled) → DoesSync p (way_of i) s added f → Grouped p s i added e
  ends : p.syncs ≡ true → AreEnding added → AllLeaveSyncs added ⊎ EndsParts i → Grouped p s i added e
  cleans : i ≡ CleanSync → DoesCleanSync p s added e → Grouped p s i added e
  unmarks : places i ≡ true → Unmarks p s added e → Grouped p s i added e

-- ---- plain groups

-- no record, or one
abbrev OnePlain : Type 0
OnePlain = (Unit {0} × Unit {0}) × Unit {0}

one_plain : OnePlain
one_plain = ((tt, tt), tt)

as_plain : {p : Permit} {s : State} {i : Intent} {e : End} (added other : List Rec) → added ≡ other → ArePlain other → Grouped p s i added e
as_plain added other is h = plain (subst ArePlain (sym is) h)

trouble_plain : (p : Permit) (s : State) (row : Row) (before : List Rec) (why : Cause) → Given.Trouble p s row before why → ArePlain before
trouble_plain p s row before why (Given.Trouble.faulted count w m) = one_plain
trouble_plain p s row before why (Given.Trouble.damaged found d) = one_plain

lookup_plain : (p : Permit) (s : State) (key : Key) (request : List Field) (before : List Rec) (answer : ReadAnswer) → Legal.IsLookup p s key request before answer → ArePlain before
lookup_plain p s key request before answer (Legal.IsLookup.verdict r) = tt
lookup_plain p s key request before answer (Legal.IsLookup.trouble row b why live t) = trouble_plain p s row before why t

fragment_plain : (p : Permit) (s : State) (row : Row) (entry : TableRow) (before : List Rec) (why : Cause) → Legal.ReadTrouble p s row entry before why → ArePlain before
fragment_plain p s row entry before why (Legal.ReadTrouble.troubled b c t) = trouble_plain p s row before why t
fragment_plain p s row entry before why (Legal.ReadTrouble.mismatched found read unlike) = one_plain

reading_plain : (p : Permit) (s : State) (r : ReaderRow) (before : List Rec) (answer : NextAnswer) → Legal.IsReading p s r before answer → ArePlain before
reading_plain p s r before answer (Legal.IsReading.verdict x listed) = tt
reading_plain p s r before answer (Legal.IsReading.trouble entry row b why n live t) = fragment_plain p s row entry before why t

answer_plain : (reader : ℕ) (answer : NextAnswer) → IsPlain (answer_record reader answer)
answer_plain reader (next.Gave index length) = (tt, tt)
answer_plain reader (next.Ended length) = (tt, tt)
answer_plain reader (next.Waited cut) = (tt, tt)
answer_plain reader (next.Broke why) = (tt, tt)

read_on : {p : Permit} {s : State} {i : Intent} {e : End} (reader : ℕ) (answer : NextAnswer) (added : List Rec) → Legal.MayReadOn p s reader answer added → Grouped p s i added e
read_on {p} {s} reader answer added m =
    as_plain added _ m.is (all_append IsPlain m.before _ (reading_plain p s m.r m.before answer m.right) (answer_plain reader answer, tt))

-- ---- inserts

displacements : (segment live : ℕ) (rows : List Row) → AreOfInsert (map (displaced_record segment live) rows)
displacements segment live [] = tt
displacements segment live (row ∷ rows) = (tt, displacements segment live rows)

displaced : {p : Permit} {s : State} {piece : PieceId} (added : List Rec) → MayDisplace p s piece added → AreOfInsert added
displaced added m = subst AreOfInsert (sym m.is) (displacements _ _ m.purged)

-- ---- flushes without a sync

stopped_one : (row : Row) (o : Outcome) → AllLeaveSyncs (stopped_records_of row o)
stopped_one row NoRoom = tt
stopped_one row (Copied bytes) = tt
stopped_one row (Spoiled found) = (tt, tt)
stopped_one row (ReadRefused count) = (tt, tt)

pub stopped_leaves_syncs : (rows : List Row) (outcomes : List Outcome) → AllLeaveSyncs (stopped_front_of rows outcomes)
stopped_leaves_syncs [] outcomes = tt
stopped_leaves_syncs (row ∷ rows) [] = tt
stopped_leaves_syncs (row ∷ rows) (o ∷ outcomes) =
    all_append LeavesSyncs (stopped_records_of row o) (stopped_front_of rows outcomes) (stopped_one row o) (stopped_leaves_syncs rows outcomes)

flushed : {p : Permit} {s : State} {i : Intent} {e : End} (added : List Rec) → Legal.MayFlush p s added → Grouped p s i added e
flushed {p} {s} added m =
    let rows : List Row = due_pieces s p.now in
    flushes m.unsynced (subst AllLeaveSyncs (sym m.is)
    (all_append LeavesSyncs (front_of rows m.outcomes) (flush_tail s rows m.outcomes) (front_leaves_syncs rows m.outcomes) (tail_leaves_syncs s rows m.outcomes)))

stopped : {p : Permit} {s : State} {i : Intent} {e : End} (count : ℕ) (added : List Rec) → Legal.MayStop p s count added → Grouped p s i added e
stopped {p} {s} count added m =
    let rows : List Row = due_pieces s p.now in
    flushes m.unsynced (subst AllLeaveSyncs (sym m.is)
    (all_append LeavesSyncs (stopped_front_of rows m.outcomes) (rec.Fault count ∷ []) (stopped_leaves_syncs rows m.outcomes) (tt, tt)))

roomed : {p : Permit} {s : State} {i : Intent} (bytes : ℕ) (added : List Rec) (e : End) → way_of i ≡ Syncing.WhereDue → (i ≡ Drain → 0 < s.filled)
    → (has_room s bytes ≡ false → flushes_first s i ≡ true) → Legal.MakesRoom p s bytes added e → Grouped p s i added e
roomed bytes added e way some first (Legal.MakesRoom.flushes x m) = flushed added m
roomed bytes added e way some first (Legal.MakesRoom.stops count x m) = stopped count added m
roomed bytes added e way some first (Legal.MakesRoom.exhausted x q is) = as_plain added [] is tt
roomed {p} {s} bytes added e way some first (Legal.MakesRoom.syncs f x d is) = syncs f (first x) some (subst (λ k. DoesSync p k s added f) (sym way) d)

-- ---- the end of a sync in parts

done_ends : (r : Option ℕ) → AreEnding (option_to_list (option_map rec.SyncDone r))
done_ends None = tt
done_ends (Some serial) = (tt, tt)

pub ended_ends : (s : State) → AreEnding (ended_records s)
ended_ends s = done_ends s.running

as_ending : {p : Permit} {s : State} {i : Intent} {e : End} (added other : List Rec) → p.syncs ≡ true → added ≡ other → AreEnding other → AllLeaveSyncs other ⊎ EndsParts i
    → Grouped p s i added e
as_ending {i = i} added other on is h why = ends on (subst AreEnding (sym is) h) (subst (λ recs. AllLeaveSyncs recs ⊎ EndsParts i) (sym is) why)

step : {p : Permit} {s : State} {last : Bool} {e : End} (added : List Rec) → DoesSyncStep p s last added e → Grouped p s (SyncStep last) added e
step added (Syncing.DoesSyncStep.none on quiet none is) = as_ending added [] on is tt (inl tt)
step added (Syncing.DoesSyncStep.part on quiet runs front is) = as_ending added [] on is tt (inl tt)
step {s = s} added (Syncing.DoesSyncStep.ends on quiet runs end is) = as_ending added (ended_records s) on is (ended_ends s) (inr (inr (ap (λ b. SyncStep b) end)))
step added (Syncing.DoesSyncStep.stays count on quiet c) = as_ending added _ on c.is (tt, tt) (inl (tt, tt))

drain : {p : Permit} {s : State} {e : End} (added : List Rec) → Legal.DoesDrain p s added e → Grouped p s Drain added e
drain added (Legal.DoesDrain.still_open on quiet some is) = as_ending added [] on is tt (inl tt)
drain {s = s} added (Legal.DoesDrain.empty on quiet none filled is) = as_ending added (ended_records s) on is (ended_ends s) (inr (inl refl))
drain added (Legal.DoesDrain.stays count on quiet none filled c) = as_ending added _ on c.is (tt, tt) (inl (tt, tt))
drain {e = e} added (Legal.DoesDrain.syncs none some d) = syncs e refl (λ h. some) d

-- ---- each group

pub grouped : (p : Permit) (s : State) (i : Intent) (added : List Rec) (e : End) → Does p s i added e → Grouped p s i added e
grouped p s Flush added e (Legal.DoesFlush.empty q f is) = as_plain added [] is tt
grouped p s Flush added e (Legal.DoesFlush.flushes m) = flushed added m
grouped p s Flush added e (Legal.DoesFlush.stops count m) = stopped count added m
grouped p s Flush added e (Legal.DoesFlush.exhausted q f b is) = as_plain added [] is tt
grouped p s Flush added e (Legal.DoesFlush.syncs d) = syncs e refl (λ h. cc) d
grouped p s Sync added e d = syncs e refl (λ h. cc) d
grouped p s SyncBegin added e d = syncs e refl (λ h. cc) d
grouped p s (SyncStep last) added e d = step added d
grouped p s Drain added e d = drain added d
grouped p s CleanSync added e d = cleans refl d
grouped p s (Write actor key request response pin) added e (Legal.DoesWrite.opens m) = as_plain added _ m.is one_plain
grouped p s (Write actor key request response pin) added e (Legal.DoesWrite.many q m is) = as_plain added [] is tt
grouped p s (Write actor key request response pin) added e (Legal.DoesWrite.exhausted q m l is) = as_plain added [] is tt
grouped p s (Fragment put index payload) added e (Legal.DoesFragment.places d m) =
    inserts m.unmarked (subst AreOfInsert (sym m.is) (tt, all_append IsOfInsert m.displaced _ (displaced m.displaced m.displaces) (tt, tt)))
grouped p s (Fragment put index payload) added e (Legal.DoesFragment.unmarks w n q u) = unmarks refl u
grouped p s (Fragment put index payload) added e (Legal.DoesFragment.rooms w n m) = roomed (length payload) added e refl (λ h. cc) (ap not) m
grouped p s (Fragment put index payload) added e (Legal.DoesFragment.exhausted w x n q) = as_plain added [] q.is tt
grouped p s (Overflow put) added e (Legal.DoesOverflow.aborts w q l is) = as_plain added _ is one_plain
grouped p s (Weigh put rest) added e (Legal.DoesWeigh.weighs w q r f is) = as_plain added [] is tt
grouped p s (Weigh put rest) added e (Legal.DoesWeigh.too_large w q r f is) = as_plain added _ is one_plain
grouped p s (Weigh put rest) added e (Legal.DoesWeigh.damaged w row found q live d is) = as_plain added _ is one_plain
grouped p s (Weigh put rest) added e (Legal.DoesWeigh.faulted w row count q live r m is) = as_plain added _ is one_plain
grouped p s (Finish put fragments) added e (Legal.DoesFinish.places d m) =
    inserts m.unmarked (subst AreOfInsert (sym m.is) (all_append IsOfInsert m.displaced _ (displaced m.displaced m.displaces) (tt, tt)))
grouped p s (Finish put fragments) added e (Legal.DoesFinish.unmarks w c l q u) = unmarks refl u
grouped p s (Finish put fragments) added e (Legal.DoesFinish.rooms w c m) = roomed (Legal.vector_length s put) added e refl (λ h. cc) (ap not) m
grouped p s (Finish put fragments) added e (Legal.DoesFinish.exhausted w x c l q) = as_plain added [] q.is tt
grouped p s (Finish put fragments) added e (Legal.DoesFinish.loses w index d m is) = as_plain added _ is one_plain
grouped p s (Commit put) added e (Legal.DoesCommit.commits w f o q is) = as_plain added _ is one_plain
grouped p s (GiveUp put) added e (Legal.DoesGiveUp.aborts w q is) = as_plain added _ is one_plain
grouped p s (GiveUp put) added e (Legal.DoesGiveUp.over q o is) = as_plain added [] is tt
grouped p s (Remove key) added e (Legal.DoesRemove.removes row q l is) = as_plain added _ is one_plain
grouped p s (Remove key) added e (Legal.DoesRemove.absent q l is) = as_plain added [] is tt
grouped p s (Look actor key request) added e (Legal.DoesLook.looks m) =
    as_plain added _ m.is (all_append IsPlain m.before _ (lookup_plain p s key request m.before m.answer m.right) one_plain)
grouped p s (ReadOn reader) added e (Legal.DoesReadOn.reads_on answer m) = read_on reader answer added m
grouped p s (ReadAll reader) added e (Legal.DoesReadAll.reads_on answer x m y) = read_on reader answer added m
grouped p s (ReadAll reader) added e (Legal.DoesReadAll.has_none q x is y) = as_plain added [] is tt
grouped p s (StopReading reader) added e (Legal.DoesStopReading.closes r q l is) = as_plain added _ is one_plain
grouped p s (StopReading reader) added e (Legal.DoesStopReading.closed q l is) = as_plain added [] is tt
