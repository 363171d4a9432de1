-- Each record of a step at the state before it: the device did what damage and faults say, faults are new,
-- and numbers follow.
use Rattle.std.proofs.Common.{◌≡◌, ℕ, List, [], ◌∷◌, ◌++◌, refl, sym, subst, true, false, inl, inr, Bool}
use Rattle.std.specs.Prelude.{Option, Some, map, length}
use Rattle.device_log.specs.Calls.{Asked}
use Rattle.tape_base.specs.Digest.{digest_of}
use Rattle.tape_base.specs.Geometry.{budget_of}
use Rattle.tape_base.specs.declared.digests.Digest.{Digest}
use Rattle.tape_base.specs.declared.pieces.PieceId.{PieceId}
use Rattle.fragment_table.specs.Table.{TableRow}
use Rattle.cache_model.specs.declared.cause.Cause.{Cause}
use Rattle.cache_model.specs.declared.answer.NextAnswer.{NextAnswer}
use Rattle.cache_model.specs.declared.answer.NextAnswer.TheVariants as next
use Rattle.cache_model.specs.declared.answer.ReadAnswer.{ReadAnswer}
use Rattle.cache_model.specs.declared.record.Rec.{Rec}
use Rattle.alternate_vector.specs.Field.{Field}
use Rattle.tape_base.specs.declared.keys.Key.{Key}
use Rattle.cache_model.specs.declared.record.Rec.TheVariants as rec
use Rattle.cache_model.specs.State.{State, Row, ReaderRow, state_after, after_all, cursor_next, live_row_of, AllAlong}
use Rattle.cache_model.specs.Verdict.{next_piece}
use Rattle.cache_model.specs.Permit.{Permit, Intent, Flush, Sync, SyncBegin, SyncStep, Drain, CleanSync, Write, Fragment, Overflow, Weigh, Finish, Commit, GiveUp, Remove, Look, ReadOn, ReadAll, StopReading, End, Work, Reason}
use Rattle.cache_model.specs.Room.{MayDisplace, displaced_record}
use Rattle.cache_model.specs.Given
use Rattle.cache_model.specs.Legal
use Rattle.cache_model.specs.Legal.{Does, Advances, MayGrow, nothing, more, IsStep, answer_record}
use Rattle.model_laws.specs.FlushLaws.{IsOfDevice}
use Rattle.step_laws.specs.StepLaws.{IsBacked, IsNumbered, IsRisen}
use Rattle.cache_model.specs.Due.{due_pieces}
use Rattle.cache_model.specs.Outcomes.{Copied, Copy, NoRoom, Outcome, ReadRefused, Spoiled, copies_of, flush_tail, front_of, moved_record, moved_records, records_of, stopped_front_of, stopped_records_of}
use Rattle.cache_model.specs.Syncing
use Rattle.cache_model.specs.Syncing.{CannotEnd, DoesCleanSync, DoesSync, DoesSyncStep, MayStopSync, MaySyncBehind, StopsBehind, Syncing, Unmarks, at_first, begun_record, behind_records, ended_records, first_records, sync_records}
use Rattle.cache_model.proofs.Steps.{all_append, along_append}
use Rattle.cache_model.proofs.Syncing.{AreOfSyncs, IsOfSync, after_syncs, behind_of, ended_of, first_of, sync_of, unmark_of}
use Rattle.step_laws.proofs.Alike.{IsAlike, counts_alike, outcomes_alike}
use Rattle.model_laws.proofs.Among.{call_made}
use Rattle.model_laws.proofs.Listed.{live_by_row, payload_told}
use Rattle.model_laws.proofs.BackedFlush.{front_is_backed, risen, stopped_front, stopped_is_backed}

-- what is said of a record, all together
abbrev IsRight : Permit → State → Rec → Type 0
IsRight p s r = IsBacked p s r × IsNumbered s r × IsRisen p s r

abbrev AllRight : Permit → State → List Rec → Type 0
AllRight p s recs = AllAlong (IsRight p) s recs

as_given : (p : Permit) (s : State) (added other : List Rec) → added ≡ other → AllRight p s other → AllRight p s added
as_given p s added other is h = subst (AllRight p s) (sym is) h

-- one record of which nothing is said
abbrev Silent : Type 0
Silent = (Unit {0} × Unit {0} × Unit {0}) × Unit {0}

silent : Silent
silent = ((tt, tt, tt), tt)

displacements : (p : Permit) (t : State) (segment live : ℕ) (rows : List Row) → AllRight p t (map (displaced_record segment live) rows)
displacements p t segment live [] = tt
displacements p t segment live (row ∷ rows) = ((tt, tt, tt), displacements p (state_after t (displaced_record segment live row)) segment live rows)

displaced : (p : Permit) (s t : State) (piece : PieceId) (added : List Rec) → MayDisplace p s piece added → AllRight p t added
displaced p s t piece added m = as_given p t added _ m.is (displacements p t _ _ m.purged)

damage : (p : Permit) (s : State) (row : Row) (found : Digest) → Given.IsDamaged p s row found → IsRight p s (Given.damage_record row row.digest found)
damage p s row found d = ((inl (record { bytes = d.bytes; given = d.given.given; digest = d.digest }), d.differ), tt, tt)

fault : (p : Permit) (s : State) (asked : Asked) (count : ℕ) → Given.MayCount p s asked count → IsRight p s (rec.Fault count)
fault p s asked count m = ((asked, m.refused), tt, risen p s asked count m)

trouble : (p : Permit) (s : State) (row : Row) (before : List Rec) (why : Cause) → Given.Trouble p s row before why
    → AllRight p s before × ((after_all s before).next_reader ≡ s.next_reader)
trouble p s row before why (Given.Trouble.faulted count w m) = ((fault p s _ count m, tt), refl)
trouble p s row before why (Given.Trouble.damaged found d) = ((damage p s row found d, tt), refl)

-- ---- a flush

backed : (p : Permit) (s : State) (r : Rec) → IsOfDevice p s r → IsBacked p s r
backed p s (rec.Damaged piece place kept found) h = (inl h.0, h.1)
backed p s (rec.Fault count) h = h
backed p s _ h = tt

all_right : (p : Permit) (s : State) (recs : List Rec) → AllAlong (IsRisen p) s recs × AllAlong (IsOfDevice p) s recs → AllAlong IsNumbered s recs → AllRight p s recs
all_right p s [] h numbered = tt
all_right p s (r ∷ recs) h numbered = ((backed p s r h.1.0, numbered.0, h.0.0), all_right p (state_after s r) recs (h.0.1, h.1.1) numbered.1)

-- it numbers nothing
one_numbered : (s : State) (row : Row) (o : Outcome) → AllAlong IsNumbered s (records_of row o)
one_numbered s row NoRoom = (tt, tt)
one_numbered s row (Copied bytes) = tt
one_numbered s row (Spoiled found) = (tt, tt)
one_numbered s row (ReadRefused count) = (tt, (tt, tt))

front_numbered : (s : State) (rows : List Row) (outcomes : List Outcome) → AllAlong IsNumbered s (front_of rows outcomes)
front_numbered s [] outcomes = tt
front_numbered s (row ∷ rows) [] = tt
front_numbered s (row ∷ rows) (o ∷ outcomes) =
    along_append IsNumbered s (records_of row o) (front_of rows outcomes) (one_numbered s row o) (front_numbered (after_all s (records_of row o)) rows outcomes)

one_stopped_numbered : (s : State) (row : Row) (o : Outcome) → AllAlong IsNumbered s (stopped_records_of row o)
one_stopped_numbered s row NoRoom = tt
one_stopped_numbered s row (Copied bytes) = tt
one_stopped_numbered s row (Spoiled found) = (tt, tt)
one_stopped_numbered s row (ReadRefused count) = (tt, tt)

stopped_numbered : (s : State) (rows : List Row) (outcomes : List Outcome) → AllAlong IsNumbered s (stopped_front_of rows outcomes)
stopped_numbered s [] outcomes = tt
stopped_numbered s (row ∷ rows) [] = tt
stopped_numbered s (row ∷ rows) (o ∷ outcomes) =
    along_append IsNumbered s (stopped_records_of row o) (stopped_front_of rows outcomes) (one_stopped_numbered s row o)
    (stopped_numbered (after_all s (stopped_records_of row o)) rows outcomes)

copies_right : (p : Permit) (s t : State) (copies : List Copy) → AllRight p s (moved_records t copies)
copies_right p s t [] = tt
copies_right p s t (c ∷ copies) = ((tt, tt, tt), copies_right p (state_after s (moved_record t c)) (state_after t (moved_record t c)) copies)

tail_right : (p : Permit) (s t : State) (rows : List Row) (outcomes : List Outcome) → AllRight p s (flush_tail t rows outcomes)
tail_right p s t rows outcomes = ((tt, tt, tt), copies_right p _ _ (copies_of rows outcomes))

flush : (p : Permit) (s : State) (added : List Rec) → Legal.MayFlush p s added → AllRight p s added
flush p s added m =
    let rows : List Row = due_pieces s p.now in
    let front : List Rec = front_of rows m.outcomes in
    let right : AllRight p s front = all_right p s front (front_is_backed p s (budget_of s.geometry) rows m.outcomes m.are) (front_numbered s rows m.outcomes) in
    as_given p s added _ m.is (along_append (IsRight p) s front _ right (tail_right p (after_all s front) s rows m.outcomes))

stop : (p : Permit) (s : State) (count : ℕ) (added : List Rec) → Legal.MayStop p s count added → AllRight p s added
stop p s count added m =
    let rows : List Row = due_pieces s p.now in
    let front : List Rec = stopped_front_of rows m.outcomes in
    let numbered : AllAlong IsNumbered s (front ++ rec.Fault count ∷ []) = along_append IsNumbered s front _ (stopped_numbered s rows m.outcomes) (tt, tt) in
    as_given p s added _ m.is (all_right p s _ (stopped_is_backed p s (budget_of s.geometry) rows m.outcomes _ count m.are m.counts.counts) numbered)

-- ---- syncs

-- their records tell no trouble, and number nothing
sync_right : (p : Permit) (s : State) (r : Rec) → IsOfSync r → IsRight p s r
sync_right p s (rec.SyncBegun serial cursor clean in_parts) h = (tt, tt, tt)
sync_right p s (rec.SyncDone serial) h = (tt, tt, tt)
sync_right p s _ h = absurd h

syncs_right : (p : Permit) (s : State) (recs : List Rec) → AreOfSyncs recs → AllRight p s recs
syncs_right p s [] h = tt
syncs_right p s (r ∷ recs) h = (sync_right p s r h.0, syncs_right p (state_after s r) recs h.1)

-- and leave a state that tells as much of pieces
syncs_alike : (s : State) (recs : List Rec) → AreOfSyncs recs → IsAlike s (after_all s recs)
syncs_alike s recs h = subst (IsAlike s) (sym (after_syncs s recs h)) ((refl, refl), refl, refl)

-- a fault that was counted before them may stand behind them
fault_behind : (p : Permit) (s : State) (recs : List Rec) (asked : Asked) (count : ℕ) → AreOfSyncs recs → Given.MayCount p s asked count → AllRight p s (recs ++ rec.Fault count ∷ [])
fault_behind p s recs asked count h m =
    let t : State = after_all s recs in
    along_append (IsRight p) s recs _ (syncs_right p s recs h) (fault p t asked count (counts_alike p s t asked count (syncs_alike s recs h).2 m), tt)

-- behind the end of a sync in parts too
ended_fault : (p : Permit) (s : State) (r : Rec) (count : ℕ) → IsOfSync r → Given.CountsStop p s count → AllRight p s (ended_records s ++ r ∷ rec.Fault count ∷ [])
ended_fault p s r count h c =
    let ended : List Rec = ended_records s in
    let t : State = after_all s ended in
    let of_ended : AreOfSyncs ended = ended_of s in
    along_append (IsRight p) s ended _ (syncs_right p s ended of_ended)
    (fault_behind p t (r ∷ []) c.asked count (h, tt) (counts_alike p s t c.asked count (syncs_alike s ended of_ended).2 c.counts))

goes : (p : Permit) (k : Syncing) (s : State) (added : List Rec) → MaySyncBehind p k s added → AllRight p s added
goes p k s added m =
    let rows : List Row = due_pieces s p.now in
    let first : List Rec = first_records k s in
    let f : State = at_first k s in
    let front : List Rec = front_of rows m.outcomes in
    let behind : List Rec = behind_records k f in
    let t : State = after_all f front in
    let are = outcomes_alike p s f (budget_of s.geometry) rows m.outcomes (syncs_alike s first (first_of k s)) m.are in
    let right : AllRight p f front = all_right p f front (front_is_backed p f (budget_of s.geometry) rows m.outcomes are) (front_numbered f rows m.outcomes) in
    as_given p s added _ m.is (along_append (IsRight p) s first _ (syncs_right p s first (first_of k s))
    (along_append (IsRight p) f front _ right
    (along_append (IsRight p) t behind _ (syncs_right p t behind (behind_of k f)) (tail_right p (after_all t behind) s rows m.outcomes))))

-- what was begun before the device stopped the flush, and the call for which it did
begun_of : (p : Permit) (k : Syncing) (s : State) (front : List Rec) (count : ℕ) (begun : List Rec) → StopsBehind p k s front count begun
    → AreOfSyncs begun × ((asked : Asked) × Given.MayCount p (after_all s front) asked count)
begun_of p k s front count begun (Syncing.StopsBehind.buffer c) = (tt, (c.asked, c.counts))
begun_of p k s front count begun (Syncing.StopsBehind.ended t n r c) = (tt, (c.asked, c.counts))
begun_of p k s front count begun (Syncing.StopsBehind.whole t n c) =
    (all_append IsOfSync (ended_records s) (begun_record s (cursor_next s) false false ∷ []) (ended_of s) (tt, tt), (c.asked, c.counts))

stops : (p : Permit) (k : Syncing) (s : State) (count : ℕ) (added : List Rec) → MayStopSync p k s count added → AllRight p s added
stops p k s count added m =
    let rows : List Row = due_pieces s p.now in
    let first : List Rec = first_records k s in
    let f : State = at_first k s in
    let front : List Rec = stopped_front_of rows m.outcomes in
    let begun = begun_of p k f front count m.begun m.stops in
    let backed = stopped_front p s f (budget_of s.geometry) rows m.outcomes (syncs_alike s first (first_of k s)) m.are in
    let right : AllRight p f front = all_right p f front backed (stopped_numbered f rows m.outcomes) in
    as_given p s added _ m.is (along_append (IsRight p) s first _ (syncs_right p s first (first_of k s))
    (along_append (IsRight p) f front _ right (fault_behind p (after_all f front) m.begun begun.1.0 count begun.0 begun.1.1)))

cannot_end : (p : Permit) (s : State) (count : ℕ) (added : List Rec) → CannotEnd p s count added → AllRight p s added
cannot_end p s count added c = as_given p s added _ c.is (fault p s c.counts.asked count c.counts.counts, tt)

sync : (p : Permit) (k : Syncing) (s : State) (added : List Rec) (e : End) → DoesSync p k s added e → AllRight p s added
sync p k s added e (Syncing.DoesSync.goes m) = goes p k s added m
sync p k s added e (Syncing.DoesSync.stops count m) = stops p k s count added m
sync p k s added e (Syncing.DoesSync.empty m) =
    as_given p s added _ m.is (syncs_right p s _ (all_append IsOfSync (ended_records s) (sync_records k s s.cursor) (ended_of s) (sync_of k s s.cursor)))
sync p k s added e (Syncing.DoesSync.empty_stops count m) = as_given p s added _ m.is (ended_fault p s _ count tt m.counts)
sync p k s added e (Syncing.DoesSync.stays count can first c) = cannot_end p s count added c
sync p k s added e (Syncing.DoesSync.exhausted may high is) = as_given p s added [] is tt
sync p k s added e (Syncing.DoesSync.runs serial on quiet parts runs is) = as_given p s added [] is tt

sync_step : (p : Permit) (s : State) (last : Bool) (added : List Rec) (e : End) → DoesSyncStep p s last added e → AllRight p s added
sync_step p s last added e (Syncing.DoesSyncStep.none on quiet none is) = as_given p s added [] is tt
sync_step p s last added e (Syncing.DoesSyncStep.part on quiet runs front is) = as_given p s added [] is tt
sync_step p s last added e (Syncing.DoesSyncStep.ends on quiet runs end is) = as_given p s added _ is (syncs_right p s _ (ended_of s))
sync_step p s last added e (Syncing.DoesSyncStep.stays count on quiet c) = cannot_end p s count added c

clean_sync : (p : Permit) (s : State) (added : List Rec) (e : End) → DoesCleanSync p s added e → AllRight p s added
clean_sync p s added e (Syncing.DoesCleanSync.moving on quiet some is) = as_given p s added [] is tt
clean_sync p s added e (Syncing.DoesCleanSync.runs serial on quiet none running is) = as_given p s added [] is tt
clean_sync p s added e (Syncing.DoesCleanSync.syncs on quiet none rests below is) = as_given p s added _ is ((tt, tt, tt), silent)
clean_sync p s added e (Syncing.DoesCleanSync.stops count on quiet none rests below c is) =
    as_given p s added _ is (fault_behind p s (begun_record s s.cursor true false ∷ []) c.asked count (tt, tt) c.counts)
clean_sync p s added e (Syncing.DoesCleanSync.exhausted on quiet none rests high is) = as_given p s added [] is tt

drain : (p : Permit) (s : State) (added : List Rec) (e : End) → Legal.DoesDrain p s added e → AllRight p s added
drain p s added e (Legal.DoesDrain.still_open on quiet some is) = as_given p s added [] is tt
drain p s added e (Legal.DoesDrain.empty on quiet none filled is) = as_given p s added _ is (syncs_right p s _ (ended_of s))
drain p s added e (Legal.DoesDrain.stays count on quiet none filled c) = cannot_end p s count added c
drain p s added e (Legal.DoesDrain.syncs none some d) = sync p Syncing.AtOnce s added e d

unmark : (p : Permit) (s : State) (added : List Rec) (e : End) → Unmarks p s added e → AllRight p s added
unmark p s added e (Syncing.Unmarks.unmarks must below is) = as_given p s added _ is (syncs_right p s _ (unmark_of s))
unmark p s added e (Syncing.Unmarks.stays count must below c) = cannot_end p s count added c
unmark p s added e (Syncing.Unmarks.stops count must below marked c is) = as_given p s added _ is (ended_fault p s _ count tt c)
unmark p s added e (Syncing.Unmarks.exhausted must high is) = as_given p s added [] is tt

-- ---- room

room : (p : Permit) (s : State) (bytes : ℕ) (added : List Rec) (e : End) → Legal.MakesRoom p s bytes added e → AllRight p s added
room p s bytes added e (Legal.MakesRoom.flushes h m) = flush p s added m
room p s bytes added e (Legal.MakesRoom.stops count h m) = stop p s count added m
room p s bytes added e (Legal.MakesRoom.exhausted h q is) = as_given p s added [] is tt
room p s bytes added e (Legal.MakesRoom.syncs end h d is) = sync p Syncing.WhereDue s added end d

-- ---- lookups and readers

lookup : (p : Permit) (s : State) (key : Key) (request : List Field) (before : List Rec) (answer : ReadAnswer) → Legal.IsLookup p s key request before answer
    → AllRight p s before × ((after_all s before).next_reader ≡ s.next_reader)
lookup p s key request before answer (Legal.IsLookup.verdict r) = (tt, refl)
lookup p s key request before answer (Legal.IsLookup.trouble row b why live t) = trouble p s row before why t

fragment_trouble : (p : Permit) (s : State) (id : PieceId) (row : Row) (entry : TableRow) (before : List Rec) (why : Cause) → live_row_of s id ≡ Some row
    → Legal.ReadTrouble p s row entry before why → AllRight p s before
fragment_trouble p s id row entry before why live (Legal.ReadTrouble.troubled b c t) = (trouble p s row before why t).0
fragment_trouble p s id row entry before why live (Legal.ReadTrouble.mismatched found read unlike) =
    let own : live_row_of s row.id ≡ Some row = live_by_row s id row live in
    (((inr (record { row = row; live = own; there = refl; read = read; payload = payload_told s row.id row entry found own unlike }), unlike.differ), tt, tt), tt)

reading : (p : Permit) (s : State) (r : ReaderRow) (before : List Rec) (answer : NextAnswer) → Legal.IsReading p s r before answer → AllRight p s before
reading p s r before answer (Legal.IsReading.verdict x listed) = tt
reading p s r before answer (Legal.IsReading.trouble entry row b why n live t) = fragment_trouble p s (next_piece r) row entry before why live t

answered : (p : Permit) (s : State) (reader : ℕ) (answer : NextAnswer) → IsRight p s (answer_record reader answer)
answered p s reader (next.Gave index length) = (tt, tt, tt)
answered p s reader (next.Ended length) = (tt, tt, tt)
answered p s reader (next.Waited cut) = (tt, tt, tt)
answered p s reader (next.Broke why) = (tt, tt, tt)

read_on : (p : Permit) (s : State) (reader : ℕ) (answer : NextAnswer) (added : List Rec) → Legal.MayReadOn p s reader answer added → AllRight p s added
read_on p s reader answer added m = as_given p s added _ m.is (along_append (IsRight p) s m.before _ (reading p s m.r m.before answer m.right) (answered p (after_all s m.before) reader answer, tt))

-- ---- groups and steps

group : (p : Permit) (s : State) (i : Intent) (added : List Rec) (e : End) → Does p s i added e → AllRight p s added
group p s Flush added e (Legal.DoesFlush.empty q f is) = as_given p s added [] is tt
group p s Flush added e (Legal.DoesFlush.flushes m) = flush p s added m
group p s Flush added e (Legal.DoesFlush.stops count m) = stop p s count added m
group p s Flush added e (Legal.DoesFlush.exhausted q f b is) = as_given p s added [] is tt
group p s Flush added e (Legal.DoesFlush.syncs d) = sync p Syncing.WhereDue s added e d
group p s Sync added e d = sync p Syncing.AtOnce s added e d
group p s SyncBegin added e d = sync p Syncing.InParts s added e d
group p s (SyncStep last) added e d = sync_step p s last added e d
group p s Drain added e d = drain p s added e d
group p s CleanSync added e d = clean_sync p s added e d
group p s (Write actor key request response pin) added e (Legal.DoesWrite.opens m) = as_given p s added _ m.is ((tt, (refl, m.below), tt), tt)
group p s (Write actor key request response pin) added e (Legal.DoesWrite.many q m is) = as_given p s added [] is tt
group p s (Write actor key request response pin) added e (Legal.DoesWrite.exhausted q m l is) = as_given p s added [] is tt
group p s (Fragment put index payload) added e (Legal.DoesFragment.places d m) =
    as_given p s added _ m.is ((tt, tt, tt), along_append (IsRight p) (state_after s (rec.Cut put index (length payload) (digest_of payload))) m.displaced _ (displaced p s _ _ m.displaced m.displaces) silent)
group p s (Fragment put index payload) added e (Legal.DoesFragment.unmarks w n q u) = unmark p s added e u
group p s (Fragment put index payload) added e (Legal.DoesFragment.rooms w n m) = room p s _ added e m
group p s (Fragment put index payload) added e (Legal.DoesFragment.exhausted w x n q) = as_given p s added [] q.is tt
group p s (Overflow put) added e (Legal.DoesOverflow.aborts w q l is) = as_given p s added _ is silent
group p s (Weigh put rest) added e (Legal.DoesWeigh.weighs w q r f is) = as_given p s added [] is tt
group p s (Weigh put rest) added e (Legal.DoesWeigh.too_large w q r f is) = as_given p s added _ is silent
group p s (Weigh put rest) added e (Legal.DoesWeigh.damaged w row found q live d is) = as_given p s added _ is (damage p s row found d, tt)
group p s (Weigh put rest) added e (Legal.DoesWeigh.faulted w row count q live r m is) = as_given p s added _ is (fault p s _ count m, tt)
group p s (Finish put fragments) added e (Legal.DoesFinish.places d m) = as_given p s added _ m.is (along_append (IsRight p) s m.displaced _ (displaced p s s _ m.displaced m.displaces) silent)
group p s (Finish put fragments) added e (Legal.DoesFinish.unmarks w c l q u) = unmark p s added e u
group p s (Finish put fragments) added e (Legal.DoesFinish.rooms w c m) = room p s _ added e m
group p s (Finish put fragments) added e (Legal.DoesFinish.exhausted w x c l q) = as_given p s added [] q.is tt
group p s (Finish put fragments) added e (Legal.DoesFinish.loses w index d m is) = as_given p s added _ is silent
group p s (Commit put) added e (Legal.DoesCommit.commits w f o q is) = as_given p s added _ is silent
group p s (GiveUp put) added e (Legal.DoesGiveUp.aborts w q is) = as_given p s added _ is silent
group p s (GiveUp put) added e (Legal.DoesGiveUp.over q o is) = as_given p s added [] is tt
group p s (Remove key) added e (Legal.DoesRemove.removes row q l is) = as_given p s added _ is silent
group p s (Remove key) added e (Legal.DoesRemove.absent q l is) = as_given p s added [] is tt
group p s (Look actor key request) added e (Legal.DoesLook.looks m) =
    let before = lookup p s key request m.before m.answer m.right in
    as_given p s added _ m.is (along_append (IsRight p) s m.before _ before.0 ((tt, sym before.1, tt), tt))
group p s (ReadOn reader) added e (Legal.DoesReadOn.reads_on answer m) = read_on p s reader answer added m
group p s (ReadAll reader) added e (Legal.DoesReadAll.reads_on answer h m x) = read_on p s reader answer added m
group p s (ReadAll reader) added e (Legal.DoesReadAll.has_none q h is x) = as_given p s added [] is tt
group p s (StopReading reader) added e (Legal.DoesStopReading.closes r q l is) = as_given p s added _ is silent
group p s (StopReading reader) added e (Legal.DoesStopReading.closed q l is) = as_given p s added [] is tt

advance : (p : Permit) (s : State) (is : List Intent) (why : Option Reason) (added : List Rec) (after : Work) → Advances p s is why added after → AllRight p s added
advance p s [] why added after h = absurd h
advance p s (i ∷ is) why added after h = group p s i added h.0 h.1

grown : {p : Permit} {s : State} {w after : Work} {recs : List Rec} → MayGrow p s w recs after → AllRight p s recs
grown nothing = tt
grown {p} {s} {w} (more {rest = tail} added between one others) = along_append (IsRight p) s added tail (advance p s w.intents w.refused added between one) (grown others)

along : (P Q : State → Rec → Type 0) → ((s : State) (r : Rec) → P s r → Q s r) → (s : State) (recs : List Rec) → AllAlong P s recs → AllAlong Q s recs
along P Q f s [] h = tt
along P Q f s (r ∷ recs) h = (f s r h.0, along P Q f (state_after s r) recs h.1)

pub trouble_is_backed : (p : Permit) (s : State) (intents : List Intent) (added : List Rec) (why : Option Reason)
    → IsStep p s intents added why → AllAlong (IsBacked p) s added
trouble_is_backed p s intents added why h = along (IsRight p) (IsBacked p) (λ t r x. x.0) s added (grown h.grows)

pub numbers_follow : (p : Permit) (s : State) (intents : List Intent) (added : List Rec) (why : Option Reason)
    → IsStep p s intents added why → AllAlong IsNumbered s added
numbers_follow p s intents added why h = along (IsRight p) IsNumbered (λ t r x. x.1) s added (grown h.grows)

pub faults_rise : (p : Permit) (s : State) (intents : List Intent) (added : List Rec) (why : Option Reason)
    → IsStep p s intents added why → AllAlong (IsRisen p) s added
faults_rise p s intents added why h = along (IsRight p) (IsRisen p) (λ t r x. x.2) s added (grown h.grows)
