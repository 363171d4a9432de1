-- Each group of records, each step and each legal chronicle tells of the last vector of a key how many alternates it lists.
use Rattle.std.proofs.Common.{◌≡◌, ℕ, ◌+◌, ◌<◌, List, [], ◌∷◌, ◌++◌, length, refl, sym, ◌∙◌, ap, subst, arith, Bool, true, false}
use Rattle.std.specs.Prelude.{Option, Some, None, if◌then◌else◌, map, option_map, option_and_then, option_to_list, unwrap_or}
use Rattle.std.specs.List.{AllByRecursion, flat_map}
use Rattle.std.specs.Map.{lookup}
use Rattle.std.proofs.lemmas.Bool.{eqb-true}
use Rattle.device_log.specs.Calls.{Call}
use Rattle.tape_base.specs.declared.digests.Digest.{Digest}
use Rattle.tape_base.specs.declared.geometries.Geometry.{Geometry}
use Rattle.tape_base.specs.declared.keys.Key.{Key}
use Rattle.tape_base.specs.declared.pieces.PieceId.{PieceId}
use Rattle.tape_base.specs.Digest.{digest_of}
use Rattle.tape_base.specs.Key.{same_key}
use Rattle.tape_base.specs.Piece.{is_vector, same_piece}
use Rattle.tape_base.proofs.NameLaws.{same_piece-true}
use Rattle.fragment_table.specs.Table.{TableRow, total_length}
use Rattle.alternate_vector.specs.Field.{Field}
use Rattle.cache_model.specs.declared.answer.NextAnswer.{NextAnswer}
use Rattle.cache_model.specs.declared.answer.NextAnswer.TheVariants as next
use Rattle.cache_model.specs.declared.answer.ReadAnswer.{ReadAnswer}
use Rattle.cache_model.specs.declared.answer.ReadAnswer.TheVariants as read
use Rattle.cache_model.specs.declared.cause.Cause.{Cause}
use Rattle.cache_model.specs.declared.cause.Cause.TheVariants as cause
use Rattle.cache_model.specs.declared.findings.FoundRow.{FoundRow}
use Rattle.cache_model.specs.declared.record.Rec.{Rec}
use Rattle.cache_model.specs.declared.record.Rec.TheVariants as rec
use Rattle.cache_model.specs.State.{State, Row, PutRow, ReaderRow, LastVector, Complete, Open, after_all, alternates_of, count_of_found, count_of_vector, cursor_next, is_live, last_vector, nothing_yet, only_live, put_of, row_in, row_of, row_of_found, state_after, vector_of_found, vector_piece}
use Rattle.cache_model.specs.Opening.{Opening}
use Rattle.cache_model.specs.Openings.{IsFoundPiece, IsOpening, opened_records}
use Rattle.cache_model.specs.Verdict.{lookup_verdict}
use Rattle.cache_model.specs.Permit.{Permit, Setting, Intent, Flush, Sync, SyncBegin, SyncStep, Drain, CleanSync, Write, Fragment, Overflow, Weigh, Finish, Commit, GiveUp, Remove, Look, ReadOn, ReadAll, StopReading, Reason, End, Work}
use Rattle.cache_model.specs.Room.{MayDisplace, displaced_record}
use Rattle.cache_model.specs.Due.{due_pieces}
use Rattle.cache_model.specs.Outcomes.{Copied, Copy, NoRoom, Outcome, ReadRefused, Spoiled, began_record, copies_of, flush_tail, front_of, moved_record, moved_records, records_of, stopped_front_of, stopped_records_of}
use Rattle.cache_model.specs.Given
use Rattle.cache_model.specs.Syncing
use Rattle.cache_model.specs.Syncing.{AtOnce, DoesCleanSync, DoesSync, DoesSyncStep, MayStopSync, MaySyncBehind, StopsBehind, Syncing, Unmarks, at_first, behind_records, begun_record, ended_records, ends_first, first_records, is_in_parts, needs_sync, needs_whole, next_serial, once_ended, sync_records}
use Rattle.cache_model.specs.Legal
use Rattle.cache_model.specs.Legal.{Advances, Course, Does, IsLegal, IsStep, MayGrow, answer_record, format_records, is_writing, more, next_fragment_of, nothing}
use Rattle.cache_model.proofs.Found.{no_truth, none_is}
use Rattle.cache_model.proofs.Steps.{after_all-append, all_append}
use Rattle.step_laws.specs.VectorLaws.{IsOver, IsUnanswered, VectorIsCounted, VectorsAreCounted}
use Rattle.model_laws.proofs.CountedRecords.{AllLeaveCounts, AllLeaveVectors, KeepsCounts, LeavesVectors, leave_counts, counted_committed, counted_kept, counted_opened, keeps_all, keeps_placed, keeps_trans}

-- ---- records that leave last vectors

where_leave : (b : Bool) (recs : List Rec) → AllLeaveVectors recs → AllLeaveVectors (if b then recs else [])
where_leave true recs h = h
where_leave false recs h = tt

front_one : (row : Row) (o : Outcome) → AllLeaveVectors (records_of row o)
front_one row NoRoom = (tt, tt)
front_one row (Copied bytes) = tt
front_one row (Spoiled found) = (tt, tt)
front_one row (ReadRefused count) = (tt, (tt, tt))

front_leaves : (rows : List Row) (outcomes : List Outcome) → AllLeaveVectors (front_of rows outcomes)
front_leaves [] outcomes = tt
front_leaves (row ∷ rows) [] = tt
front_leaves (row ∷ rows) (o ∷ outcomes) = all_append LeavesVectors (records_of row o) (front_of rows outcomes) (front_one row o) (front_leaves rows outcomes)

stopped_one : (row : Row) (o : Outcome) → AllLeaveVectors (stopped_records_of row o)
stopped_one row NoRoom = tt
stopped_one row (Copied bytes) = tt
stopped_one row (Spoiled found) = (tt, tt)
stopped_one row (ReadRefused count) = (tt, tt)

stopped_leaves : (rows : List Row) (outcomes : List Outcome) → AllLeaveVectors (stopped_front_of rows outcomes)
stopped_leaves [] outcomes = tt
stopped_leaves (row ∷ rows) [] = tt
stopped_leaves (row ∷ rows) (o ∷ outcomes) =
    all_append LeavesVectors (stopped_records_of row o) (stopped_front_of rows outcomes) (stopped_one row o) (stopped_leaves rows outcomes)

moved_leave : (s : State) (copies : List Copy) → AllLeaveVectors (moved_records s copies)
moved_leave s [] = tt
moved_leave s (c ∷ copies) = (tt, moved_leave (state_after s (moved_record s c)) copies)

tail_leaves : (s : State) (rows : List Row) (outcomes : List Outcome) → AllLeaveVectors (flush_tail s rows outcomes)
tail_leaves s rows outcomes = (tt, moved_leave (state_after (after_all s (front_of rows outcomes)) (began_record s)) (copies_of rows outcomes))

done_leaves : (r : Option ℕ) → AllLeaveVectors (option_to_list (option_map rec.SyncDone r))
done_leaves None = tt
done_leaves (Some serial) = (tt, tt)

ended_leaves : (s : State) → AllLeaveVectors (ended_records s)
ended_leaves s = done_leaves s.running

-- behind the end of the sync in parts
ended_then : (s : State) (recs : List Rec) → AllLeaveVectors recs → AllLeaveVectors (ended_records s ++ recs)
ended_then s recs h = all_append LeavesVectors (ended_records s) recs (ended_leaves s) h

begins_leaves : (b : Bool) (serial : ℕ) → AllLeaveVectors (if b then [] else rec.SyncDone serial ∷ [])
begins_leaves true serial = tt
begins_leaves false serial = (tt, tt)

sync_leaves : (k : Syncing) (s : State) (cursor : ℕ) → AllLeaveVectors (sync_records k s cursor)
sync_leaves k s cursor = (tt, begins_leaves (is_in_parts k) (next_serial s))

behind_leaves : (k : Syncing) (s : State) → AllLeaveVectors (behind_records k s)
behind_leaves k s =
    all_append LeavesVectors (if needs_sync k s then ended_records s else []) _ (where_leave (needs_sync k s) (ended_records s) (ended_leaves s))
    (where_leave (needs_whole k s) (sync_records k s (cursor_next s)) (sync_leaves k s (cursor_next s)))

first_leaves : (k : Syncing) (s : State) → AllLeaveVectors (first_records k s)
first_leaves k s = where_leave (ends_first k s) (ended_records s) (ended_leaves s)

leave_as : (added other : List Rec) → added ≡ other → AllLeaveVectors other → AllLeaveVectors added
leave_as added other is h = subst AllLeaveVectors (sym is) h

goes_leave : (p : Permit) (k : Syncing) (s : State) (added : List Rec) → MaySyncBehind p k s added → AllLeaveVectors added
goes_leave p k s added m =
    let rows : List Row = due_pieces s p.now in
    leave_as added _ m.is
    (all_append LeavesVectors (first_records k s) _ (first_leaves k s)
    (all_append LeavesVectors (front_of rows m.outcomes) _ (front_leaves rows m.outcomes)
    (all_append LeavesVectors (behind_records k (at_first k s)) _ (behind_leaves k (at_first k s)) (tail_leaves s rows m.outcomes))))

begun_leave : (p : Permit) (k : Syncing) (s : State) (front : List Rec) (count : ℕ) (begun : List Rec) → StopsBehind p k s front count begun → AllLeaveVectors begun
begun_leave p k s front count begun (Syncing.StopsBehind.buffer c) = tt
begun_leave p k s front count begun (Syncing.StopsBehind.ended t n r c) = tt
begun_leave p k s front count begun (Syncing.StopsBehind.whole t n c) = ended_then s _ (tt, tt)

stops_leave : (p : Permit) (k : Syncing) (s : State) (count : ℕ) (added : List Rec) → MayStopSync p k s count added → AllLeaveVectors added
stops_leave p k s count added m =
    let rows : List Row = due_pieces s p.now in
    leave_as added _ m.is
    (all_append LeavesVectors (first_records k s) _ (first_leaves k s)
    (all_append LeavesVectors (stopped_front_of rows m.outcomes) _ (stopped_leaves rows m.outcomes)
    (all_append LeavesVectors m.begun _ (begun_leave p k (at_first k s) _ count m.begun m.stops) (tt, tt))))

syncs_leave : (p : Permit) (k : Syncing) (s : State) (added : List Rec) (f : End) → DoesSync p k s added f → AllLeaveVectors added
syncs_leave p k s added f (Syncing.DoesSync.goes m) = goes_leave p k s added m
syncs_leave p k s added f (Syncing.DoesSync.stops count m) = stops_leave p k s count added m
syncs_leave p k s added f (Syncing.DoesSync.empty m) = leave_as added _ m.is (ended_then s _ (sync_leaves k s s.cursor))
syncs_leave p k s added f (Syncing.DoesSync.empty_stops count m) = leave_as added _ m.is (ended_then s _ (tt, (tt, tt)))
syncs_leave p k s added f (Syncing.DoesSync.stays count can first c) = leave_as added _ c.is (tt, tt)
syncs_leave p k s added f (Syncing.DoesSync.exhausted may high is) = leave_as added [] is tt
syncs_leave p k s added f (Syncing.DoesSync.runs serial on quiet parts runs is) = leave_as added [] is tt

step_leaves : (p : Permit) (s : State) (last : Bool) (added : List Rec) (e : End) → DoesSyncStep p s last added e → AllLeaveVectors added
step_leaves p s last added e (Syncing.DoesSyncStep.none on quiet none is) = leave_as added [] is tt
step_leaves p s last added e (Syncing.DoesSyncStep.part on quiet runs front is) = leave_as added [] is tt
step_leaves p s last added e (Syncing.DoesSyncStep.ends on quiet runs end is) = leave_as added _ is (ended_leaves s)
step_leaves p s last added e (Syncing.DoesSyncStep.stays count on quiet c) = leave_as added _ c.is (tt, tt)

drain_leaves : (p : Permit) (s : State) (added : List Rec) (e : End) → Legal.DoesDrain p s added e → AllLeaveVectors added
drain_leaves p s added e (Legal.DoesDrain.still_open on quiet some is) = leave_as added [] is tt
drain_leaves p s added e (Legal.DoesDrain.empty on quiet none filled is) = leave_as added _ is (ended_leaves s)
drain_leaves p s added e (Legal.DoesDrain.stays count on quiet none filled c) = leave_as added _ c.is (tt, tt)
drain_leaves p s added e (Legal.DoesDrain.syncs none some d) = syncs_leave p AtOnce s added e d

clean_leaves : (p : Permit) (s : State) (added : List Rec) (e : End) → DoesCleanSync p s added e → AllLeaveVectors added
clean_leaves p s added e (Syncing.DoesCleanSync.moving on quiet some is) = leave_as added [] is tt
clean_leaves p s added e (Syncing.DoesCleanSync.runs serial on quiet none running is) = leave_as added [] is tt
clean_leaves p s added e (Syncing.DoesCleanSync.syncs on quiet empty rests below is) = leave_as added _ is (tt, (tt, tt))
clean_leaves p s added e (Syncing.DoesCleanSync.stops count on quiet empty rests below c is) = leave_as added _ is (tt, (tt, tt))
clean_leaves p s added e (Syncing.DoesCleanSync.exhausted on quiet empty rests high is) = leave_as added [] is tt

unmark_leaves : (p : Permit) (s : State) (added : List Rec) (e : End) → Unmarks p s added e → AllLeaveVectors added
unmark_leaves p s added e (Syncing.Unmarks.unmarks must below is) =
    leave_as added _ is (ended_then s _ (where_leave (once_ended s).marked (sync_records AtOnce s s.cursor) (sync_leaves AtOnce s s.cursor)))
unmark_leaves p s added e (Syncing.Unmarks.stays count must below c) = leave_as added _ c.is (tt, tt)
unmark_leaves p s added e (Syncing.Unmarks.stops count must below marked c is) = leave_as added _ is (ended_then s _ (tt, (tt, tt)))
unmark_leaves p s added e (Syncing.Unmarks.exhausted must high is) = leave_as added [] is tt

flush_leaves : (p : Permit) (s : State) (added : List Rec) → Legal.MayFlush p s added → AllLeaveVectors added
flush_leaves p s added m =
    let rows : List Row = due_pieces s p.now in
    leave_as added _ m.is (all_append LeavesVectors (front_of rows m.outcomes) (flush_tail s rows m.outcomes) (front_leaves rows m.outcomes) (tail_leaves s rows m.outcomes))

stop_leaves : (p : Permit) (s : State) (count : ℕ) (added : List Rec) → Legal.MayStop p s count added → AllLeaveVectors added
stop_leaves p s count added m =
    let rows : List Row = due_pieces s p.now in
    leave_as added _ m.is (all_append LeavesVectors (stopped_front_of rows m.outcomes) (rec.Fault count ∷ []) (stopped_leaves rows m.outcomes) (tt, tt))

room_leaves : (p : Permit) (s : State) (bytes : ℕ) (added : List Rec) (e : End) → Legal.MakesRoom p s bytes added e → AllLeaveVectors added
room_leaves p s bytes added e (Legal.MakesRoom.flushes x m) = flush_leaves p s added m
room_leaves p s bytes added e (Legal.MakesRoom.stops count x m) = stop_leaves p s count added m
room_leaves p s bytes added e (Legal.MakesRoom.exhausted x q is) = leave_as added [] is tt
room_leaves p s bytes added e (Legal.MakesRoom.syncs f x d is) = syncs_leave p Syncing.WhereDue s added f d

trouble_leaves : (p : Permit) (s : State) (row : Row) (before : List Rec) (why : Cause) → Given.Trouble p s row before why → AllLeaveVectors before
trouble_leaves p s row before why (Given.Trouble.faulted count w m) = (tt, tt)
trouble_leaves p s row before why (Given.Trouble.damaged found d) = (tt, tt)

lookup_leaves : (p : Permit) (s : State) (key : Key) (request : List Field) (before : List Rec) (answer : ReadAnswer) → Legal.IsLookup p s key request before answer → AllLeaveVectors before
lookup_leaves p s key request before answer (Legal.IsLookup.verdict r) = tt
lookup_leaves p s key request before answer (Legal.IsLookup.trouble row b why live t) = trouble_leaves p s row before why t

fragment_leaves : (p : Permit) (s : State) (row : Row) (entry : TableRow) (before : List Rec) (why : Cause) → Legal.ReadTrouble p s row entry before why → AllLeaveVectors before
fragment_leaves p s row entry before why (Legal.ReadTrouble.troubled b c t) = trouble_leaves p s row before why t
fragment_leaves p s row entry before why (Legal.ReadTrouble.mismatched found read unlike) = (tt, tt)

reading_leaves : (p : Permit) (s : State) (r : ReaderRow) (before : List Rec) (answer : NextAnswer) → Legal.IsReading p s r before answer → AllLeaveVectors before
reading_leaves p s r before answer (Legal.IsReading.verdict x listed) = tt
reading_leaves p s r before answer (Legal.IsReading.trouble entry row b why n live t) = fragment_leaves p s row entry before why t

answer_leaves : (reader : ℕ) (answer : NextAnswer) → LeavesVectors (answer_record reader answer)
answer_leaves reader (next.Gave index length) = tt
answer_leaves reader (next.Ended length) = tt
answer_leaves reader (next.Waited cut) = tt
answer_leaves reader (next.Broke why) = tt

read_leaves : (p : Permit) (s : State) (reader : ℕ) (answer : NextAnswer) (added : List Rec) → Legal.MayReadOn p s reader answer added → AllLeaveVectors added
read_leaves p s reader answer added m =
    leave_as added _ m.is (all_append LeavesVectors m.before _ (reading_leaves p s m.r m.before answer m.right) (answer_leaves reader answer, tt))

displacements : (segment live : ℕ) (rows : List Row) → AllLeaveVectors (map (displaced_record segment live) rows)
displacements segment live [] = tt
displacements segment live (row ∷ rows) = (tt, displacements segment live rows)

pub displaced_leave_vectors : (p : Permit) (s : State) (piece : PieceId) (added : List Rec) → MayDisplace p s piece added → AllLeaveVectors added
displaced_leave_vectors p s piece added m = leave_as added _ m.is (displacements _ _ m.purged)

pub displaced_leaves : (p : Permit) (s : State) (piece : PieceId) (added : List Rec) → MayDisplace p s piece added → AllLeaveCounts added
displaced_leaves p s piece added m = leave_counts added (displaced_leave_vectors p s piece added m)

-- ---- each group

leaves : (s : State) (added : List Rec) → AllLeaveCounts added → VectorsAreCounted s → VectorsAreCounted (after_all s added)
leaves s added all h = counted_kept (keeps_all s added all) h

-- a piece is placed behind other records, and is the last vector of no key
placed : (s : State) (before : List Rec) (piece : PieceId) (place blocks : ℕ) (digest : Digest) (pin : ℕ) → AllLeaveCounts before
    → ((key : Key) (put : ℕ) → last_vector s key ≡ Some (Complete put) → same_piece piece (vector_piece key put) ≡ false)
    → VectorsAreCounted s → VectorsAreCounted (after_all s (before ++ rec.Placed piece place blocks digest pin ∷ []))
placed s before piece place blocks digest pin all other h =
    let front : KeepsCounts s (after_all s before) = keeps_all s before all in
    subst VectorsAreCounted (sym (after_all-append s before (rec.Placed piece place blocks digest pin ∷ [])))
    (counted_kept (keeps_trans front (keeps_placed (after_all s before) piece place blocks digest pin (λ key put last. other key put (front.vectors key put last)))) h)

is_other : (piece id : PieceId) (b : Bool) → same_piece piece id ≡ b → (piece ≡ id → ⊥) → b ≡ false
is_other piece id true e h = absurd (h (same_piece-true piece id e))
is_other piece id false e h = refl

-- a fragment is no vector
fragment_other : (w : PutRow) (key : Key) (put : ℕ) → next_fragment_of w ≡ vector_piece key put → ⊥
fragment_other w key put same = let index : length w.cuts + 1 ≡ 0 = ap (λ (i : PieceId). i.index) same in omega (arith, index)

writes : (s : State) (put : ℕ) (w : PutRow) → put_of s put ≡ Some w → w.writing ≡ Open → is_writing s put ≡ true
writes s put w found still = rw (found, still) refl

-- nor is the vector of a put that is written the last one of a key
vector_other : (s : State) (put : ℕ) (w : PutRow) (key : Key) (n : ℕ) → Legal.IsWriting s put w → VectorsAreCounted s → last_vector s key ≡ Some (Complete n)
    → vector_piece w.key put ≡ vector_piece key n → ⊥
vector_other s put w key n writing h last same =
    let number : put ≡ n = ap (λ (i : PieceId). i.put) same in
    let over : IsOver s n = h.over key n last in
    no_truth (sym (writes s put w writing.found writing.is_open) ∙ (ap (is_writing s) number ∙ over.1))

fragment_placed : (p : Permit) (s : State) (put index : ℕ) (payload : List ℕ) (added : List Rec) → Legal.MayPlaceFragment p s put index payload added → VectorsAreCounted s → VectorsAreCounted (after_all s added)
fragment_placed p s put index payload added m h =
    subst (λ xs. VectorsAreCounted (after_all s xs)) (sym m.is)
    (placed s (rec.Cut put index (length payload) (digest_of payload) ∷ m.displaced) (next_fragment_of m.w) _ _ _ _ (tt, displaced_leaves p s _ m.displaced m.displaces)
    (λ key n last. is_other (next_fragment_of m.w) (vector_piece key n) _ refl (fragment_other m.w key n)) h)

vector_placed : (p : Permit) (s : State) (put fragments : ℕ) (added : List Rec) → Legal.MayPlaceVector p s put fragments added → VectorsAreCounted s → VectorsAreCounted (after_all s added)
vector_placed p s put fragments added m h =
    subst (λ xs. VectorsAreCounted (after_all s xs)) (sym m.is)
    (placed s m.displaced (vector_piece m.w.key put) _ _ _ _ (displaced_leaves p s _ m.displaced m.displaces)
    (λ key n last. is_other (vector_piece m.w.key put) (vector_piece key n) _ refl (vector_other s put m.w key n m.cut.writing h last)) h)

committed : (s : State) (put : ℕ) (added : List Rec) (e : End) → Legal.DoesCommit s put added e → VectorsAreCounted s → VectorsAreCounted (after_all s added)
committed s put added e (Legal.DoesCommit.commits w found still pending is) h =
    subst (λ xs. VectorsAreCounted (after_all s xs)) (sym is) (counted_committed s w put (total_length w.cuts) found h)

opened : (s : State) (actor : ℕ) (key : Key) (request response : List Field) (pin : ℕ) (added : List Rec) → Legal.MayOpenWrite s actor key request response pin added → VectorsAreCounted s → VectorsAreCounted (after_all s added)
opened s actor key request response pin added m h = subst (λ xs. VectorsAreCounted (after_all s xs)) (sym m.is) (counted_opened s m.who.0 key request response pin _ refl h)

-- what a group is: it leaves last vectors, or it takes one out, begins a put, places a piece or commits
pub data Groups (p : Permit) (s : State) (added : List Rec) (e : End) : Type 0 where
  beside : AllLeaveVectors added → Groups p s added e
  removes : (key : Key) → Legal.DoesRemove s key added e → Groups p s added e
  begins : {actor : ℕ} {key : Key} {request response : List Field} {pin : ℕ} → Legal.MayOpenWrite s actor key request response pin added → Groups p s added e
  places_fragment : (put index : ℕ) (payload : List ℕ) → Legal.MayPlaceFragment p s put index payload added → Groups p s added e
  places_vector : (put fragments : ℕ) → Legal.MayPlaceVector p s put fragments added → Groups p s added e
  commits_vector : (put : ℕ) → Legal.DoesCommit s put added e → Groups p s added e

no_record : {p : Permit} {s : State} {added : List Rec} {e : End} → added ≡ [] → Groups p s added e
no_record {added = added} is = beside (leave_as added [] is tt)

one_record : {p : Permit} {s : State} {added : List Rec} {e : End} (r : Rec) → added ≡ r ∷ [] → LeavesVectors r → Groups p s added e
one_record {added = added} r is one = beside (leave_as added (r ∷ []) is (one, tt))

pub groups : (p : Permit) (s : State) (i : Intent) (added : List Rec) (e : End) → Does p s i added e → Groups p s added e
groups p s Flush added e (Legal.DoesFlush.empty q f is) = no_record is
groups p s Flush added e (Legal.DoesFlush.flushes m) = beside (flush_leaves p s added m)
groups p s Flush added e (Legal.DoesFlush.stops count m) = beside (stop_leaves p s count added m)
groups p s Flush added e (Legal.DoesFlush.exhausted q f b is) = no_record is
groups p s Flush added e (Legal.DoesFlush.syncs d) = beside (syncs_leave p _ s added e d)
groups p s Sync added e d = beside (syncs_leave p _ s added e d)
groups p s SyncBegin added e d = beside (syncs_leave p _ s added e d)
groups p s (SyncStep last) added e d = beside (step_leaves p s last added e d)
groups p s Drain added e d = beside (drain_leaves p s added e d)
groups p s CleanSync added e d = beside (clean_leaves p s added e d)
groups p s (Write actor key request response pin) added e (Legal.DoesWrite.opens m) = begins m
groups p s (Write actor key request response pin) added e (Legal.DoesWrite.many q m is) = no_record is
groups p s (Write actor key request response pin) added e (Legal.DoesWrite.exhausted q m l is) = no_record is
groups p s (Fragment put index payload) added e (Legal.DoesFragment.places d m) = places_fragment put index payload m
groups p s (Fragment put index payload) added e (Legal.DoesFragment.unmarks w n q u) = beside (unmark_leaves p s added e u)
groups p s (Fragment put index payload) added e (Legal.DoesFragment.rooms w n m) = beside (room_leaves p s _ added e m)
groups p s (Fragment put index payload) added e (Legal.DoesFragment.exhausted w x n q) = no_record q.is
groups p s (Overflow put) added e (Legal.DoesOverflow.aborts w q l is) = one_record _ is tt
groups p s (Weigh put rest) added e (Legal.DoesWeigh.weighs w q r f is) = no_record is
groups p s (Weigh put rest) added e (Legal.DoesWeigh.too_large w q r f is) = one_record _ is tt
groups p s (Weigh put rest) added e (Legal.DoesWeigh.damaged w row found q live d is) = one_record _ is tt
groups p s (Weigh put rest) added e (Legal.DoesWeigh.faulted w row count q live r m is) = one_record _ is tt
groups p s (Finish put fragments) added e (Legal.DoesFinish.places d m) = places_vector put fragments m
groups p s (Finish put fragments) added e (Legal.DoesFinish.unmarks w c l q u) = beside (unmark_leaves p s added e u)
groups p s (Finish put fragments) added e (Legal.DoesFinish.rooms w c m) = beside (room_leaves p s _ added e m)
groups p s (Finish put fragments) added e (Legal.DoesFinish.exhausted w x c l q) = no_record q.is
groups p s (Finish put fragments) added e (Legal.DoesFinish.loses w index d m is) = one_record _ is tt
groups p s (Commit put) added e d = commits_vector put d
groups p s (GiveUp put) added e (Legal.DoesGiveUp.aborts w q is) = one_record _ is tt
groups p s (GiveUp put) added e (Legal.DoesGiveUp.over q o is) = no_record is
groups p s (Remove key) added e d = removes key d
groups p s (Look actor key request) added e (Legal.DoesLook.looks m) =
    beside (leave_as added _ m.is (all_append LeavesVectors m.before _ (lookup_leaves p s key request m.before m.answer m.right) (tt, tt)))
groups p s (ReadOn reader) added e (Legal.DoesReadOn.reads_on answer m) = beside (read_leaves p s reader answer added m)
groups p s (ReadAll reader) added e (Legal.DoesReadAll.reads_on answer x m y) = beside (read_leaves p s reader answer added m)
groups p s (ReadAll reader) added e (Legal.DoesReadAll.has_none q x is y) = no_record is
groups p s (StopReading reader) added e (Legal.DoesStopReading.closes r q l is) = one_record _ is tt
groups p s (StopReading reader) added e (Legal.DoesStopReading.closed q l is) = no_record is

-- it leaves what is told, also where it takes a vector out
pub data Parts (p : Permit) (s : State) (added : List Rec) (e : End) : Type 0 where
  left : AllLeaveCounts added → Parts p s added e
  opens : {actor : ℕ} {key : Key} {request response : List Field} {pin : ℕ} → Legal.MayOpenWrite s actor key request response pin added → Parts p s added e
  cuts : (put index : ℕ) (payload : List ℕ) → Legal.MayPlaceFragment p s put index payload added → Parts p s added e
  lists : (put fragments : ℕ) → Legal.MayPlaceVector p s put fragments added → Parts p s added e
  commits : (put : ℕ) → Legal.DoesCommit s put added e → Parts p s added e

removal_leaves : (s : State) (key : Key) (added : List Rec) (e : End) → Legal.DoesRemove s key added e → AllLeaveCounts added
removal_leaves s key added e (Legal.DoesRemove.removes row q l is) = subst AllLeaveCounts (sym is) (tt, tt)
removal_leaves s key added e (Legal.DoesRemove.absent q l is) = subst AllLeaveCounts (sym is) tt

part_of : (p : Permit) (s : State) (added : List Rec) (e : End) → Groups p s added e → Parts p s added e
part_of p s added e (beside all) = left (leave_counts added all)
part_of p s added e (removes key d) = left (removal_leaves s key added e d)
part_of p s added e (begins m) = opens m
part_of p s added e (places_fragment put index payload m) = cuts put index payload m
part_of p s added e (places_vector put fragments m) = lists put fragments m
part_of p s added e (commits_vector put d) = commits put d

pub parts : (p : Permit) (s : State) (i : Intent) (added : List Rec) (e : End) → Does p s i added e → Parts p s added e
parts p s i added e d = part_of p s added e (groups p s i added e d)

counted_part : (p : Permit) (s : State) (added : List Rec) (e : End) → VectorsAreCounted s → Parts p s added e
    → VectorsAreCounted (after_all s added)
counted_part p s added e h (left all) = leaves s added all h
counted_part p s added e h (opens m) = opened s _ _ _ _ _ added m h
counted_part p s added e h (cuts put index payload m) = fragment_placed p s put index payload added m h
counted_part p s added e h (lists put fragments m) = vector_placed p s put fragments added m h
counted_part p s added e h (commits put d) = committed s put added e d h

pub counted_group : (p : Permit) (s : State) (i : Intent) (added : List Rec) (e : End) → VectorsAreCounted s → Does p s i added e → VectorsAreCounted (after_all s added)
counted_group p s i added e h d = counted_part p s added e h (parts p s i added e d)

-- ---- each step

advanced : (p : Permit) (s : State) (is : List Intent) (why : Option Reason) (added : List Rec) (after : Work) → Advances p s is why added after → VectorsAreCounted s → VectorsAreCounted (after_all s added)
advanced p s [] why added after a h = absurd a
advanced p s (i ∷ is) why added after a h = counted_group p s i added a.0 h a.1

grown : {p : Permit} {s : State} {w after : Work} {recs : List Rec} → MayGrow p s w recs after → VectorsAreCounted s → VectorsAreCounted (after_all s recs)
grown nothing h = h
grown {p} {s} {w} (more {rest = tail} added between one others) h =
    subst VectorsAreCounted (sym (after_all-append s added tail)) (grown others (advanced p s w.intents w.refused added between one h))

pub counted_step : (p : Permit) (s : State) (intents : List Intent) (added : List Rec) (why : Option Reason) → VectorsAreCounted s → IsStep p s intents added why → VectorsAreCounted (after_all s added)
counted_step p s intents added why h step = grown step.grows h

-- ---- each session begins so

pub counted_format : (s : State) (geometry : Geometry) → VectorsAreCounted (after_all s (format_records geometry))
counted_format s geometry = record {
  counted = λ key put last. none_is last;
  over = λ key put last. none_is last;
  earlier = λ put w found. none_is found;
}

-- a vector that was found lists what is told of it
abbrev count_found : List FoundRow → PieceId → ℕ
count_found found id = unwrap_or (lookup (λ i. same_piece i id) (flat_map count_of_found found)) 0

vector_by : (f : FoundRow) (found : List FoundRow) (id : PieceId) (b : Bool) → is_vector f.id ≡ b → same_piece f.id id ≡ false → count_found (f ∷ found) id ≡ count_found found id
vector_by f found id true e other = rw e (rw other refl)
vector_by f found id false e other = rw e refl

count_by : (f : FoundRow) (found : List FoundRow) (id : PieceId) (row : Row) (b : Bool) → same_piece f.id id ≡ b → is_vector id ≡ true
    → (row_in (map row_of_found found) id ≡ Some row → count_found found id ≡ length (unwrap_or row.alternates []))
    → (if b then Some (row_of_found f) else row_in (map row_of_found found) id) ≡ Some row
    → count_found (f ∷ found) id ≡ length (unwrap_or row.alternates [])
count_by f found id row true e vector rest h =
    let own : is_vector f.id ≡ true = ap is_vector (same_piece-true f.id id e) ∙ vector in
    let same : row_of_found f ≡ row = cc in
    rw own (rw e (ap (λ (r : Row). length (unwrap_or r.alternates [])) same))
count_by f found id row false e vector rest h = vector_by f found id (is_vector f.id) refl e ∙ rest h

counted_found : (found : List FoundRow) (id : PieceId) (row : Row) → is_vector id ≡ true → row_in (map row_of_found found) id ≡ Some row
    → count_found found id ≡ length (unwrap_or row.alternates [])
counted_found [] id row vector h = none_is h
counted_found (f ∷ found) id row vector h = count_by f found id row (same_piece f.id id) refl vector (counted_found found id row vector) h

-- its put was begun before
earlier_key : (next : ℕ) (f : FoundRow) (rest : Option LastVector) (put : ℕ) (b : Bool) → f.id.put < next → (rest ≡ Some (Complete put) → put < next)
    → (if b then Some (Complete f.id.put) else rest) ≡ Some (Complete put) → put < next
earlier_key next f rest put true below later h = let same : f.id.put ≡ put = cc in omega (arith, same, below)
earlier_key next f rest put false below later h = later h

earlier_by : (g : Geometry) (o : Opening) (f : FoundRow) (found : List FoundRow) (key : Key) (put : ℕ) (b : Bool) → is_vector f.id ≡ b → IsFoundPiece g o f
    → (lookup (λ k. same_key k key) (flat_map vector_of_found found) ≡ Some (Complete put) → put < o.next_put)
    → lookup (λ k. same_key k key) (flat_map vector_of_found (f ∷ found)) ≡ Some (Complete put) → put < o.next_put
earlier_by g o f found key put true e piece rest h =
    let first : f.id.index ≡ 0 = eqb-true f.id.index 0 e in
    let before = piece.number (omega (arith, first)) in
    earlier_key o.next_put f (lookup (λ k. same_key k key) (flat_map vector_of_found found)) put (same_key f.id.first key) before.1 rest (rw e at h)
earlier_by g o f found key put false e piece rest h = rest (rw e at h)

earlier_found : (g : Geometry) (o : Opening) (found : List FoundRow) (key : Key) (put : ℕ) → AllByRecursion (IsFoundPiece g o) found
    → lookup (λ k. same_key k key) (flat_map vector_of_found found) ≡ Some (Complete put) → put < o.next_put
earlier_found g o [] key put each h = none_is h
earlier_found g o (f ∷ found) key put each h = earlier_by g o f found key put (is_vector f.id) refl each.0 (earlier_found g o found key put each.1) h

pub counted_opening : (packed : Bool) (s : State) (geometry : Geometry) (o : Opening) → IsOpening packed geometry o → VectorsAreCounted (after_all s (opened_records geometry o))
counted_opening packed s geometry o opening = record {
  counted = λ key put last row found. counted_found o.found (vector_piece key put) row refl found;
  over = λ key put last. (earlier_found geometry o o.found key put opening.each last, refl);
  earlier = λ put w found. none_is found;
}

-- ---- each chronicle

pub legal_counted : (setting : Setting) (past : List Call) (courses : List Course) (recs : List Rec) → IsLegal setting past courses recs → VectorsAreCounted (after_all nothing_yet recs)
legal_counted setting past courses recs (Legal.IsLegal.begins geometry) = counted_format nothing_yet geometry
legal_counted setting past courses recs (Legal.IsLegal.opens geometry o opening) = counted_opening setting.packed nothing_yet geometry o opening
legal_counted setting past courses recs (Legal.IsLegal.steps {courses = earlier} {before = before} {added = added} course e legal step) =
    subst VectorsAreCounted (sym (after_all-append nothing_yet before added))
    (counted_step course.permit (after_all nothing_yet before) course.intents added course.refused (legal_counted setting _ earlier before legal) step)
legal_counted setting past courses recs (Legal.IsLegal.tells call is legal) = legal_counted setting _ courses recs legal

pub count_is_listed : (setting : Setting) (past : List Call) (courses : List Course) (recs : List Rec) (key : Key) (put : ℕ) → IsLegal setting past courses recs
    → last_vector (after_all nothing_yet recs) key ≡ Some (Complete put)
    → VectorIsCounted (after_all nothing_yet recs) (vector_piece key put)
count_is_listed setting past courses recs key put legal last = (legal_counted setting past courses recs legal).counted key put last

-- a row that is live stands
stands_by : (s : State) (row old : Row) (b : Bool) → is_live s old ≡ b → (if b then Some old else None) ≡ Some row → (old ≡ row) × (is_live s row ≡ true)
stands_by s row old true e h = let same : old ≡ row = cc in (same, ap (is_live s) (sym same) ∙ e)
stands_by s row old false e h = none_is h

stands : (s : State) (row : Row) (o : Option Row) → option_and_then (only_live s) o ≡ Some row → (o ≡ Some row) × (is_live s row ≡ true)
stands s row (Some old) h = let live = stands_by s row old (is_live s old) refl h in (ap Some live.0, live.1)
stands s row None h = none_is h

-- nothing answers, so it is told how many alternates there are
pub told_count : (s : State) (key : Key) (request : List Field) → VectorsAreCounted s → IsUnanswered s key request
    → lookup_verdict s key request ≡ read.Miss (cause.NoMatch (length (alternates_of s key)))
told_count s key request h u =
    let there = stands s u.row (row_of s (vector_piece key u.put)) u.live in
    let count : count_of_vector s (vector_piece key u.put) ≡ length (unwrap_or u.row.alternates []) = h.counted key u.put u.last u.row there.0 in
    let list : alternates_of s key ≡ unwrap_or u.row.alternates [] = rw (u.last, there.0, there.1) refl in
    let misses : lookup_verdict s key request ≡ read.Miss (cause.NoMatch (count_of_vector s (vector_piece key u.put))) = rw (u.none_matches, u.none_writes, u.last, u.live) refl in
    misses ∙ ap (λ n. read.Miss (cause.NoMatch n)) (count ∙ ap length (sym list))

pub unanswered_is_counted : (setting : Setting) (past : List Call) (courses : List Course) (recs : List Rec) (key : Key) (request : List Field) → IsLegal setting past courses recs
    → IsUnanswered (after_all nothing_yet recs) key request
    → lookup_verdict (after_all nothing_yet recs) key request ≡ read.Miss (cause.NoMatch (length (alternates_of (after_all nothing_yet recs) key)))
unanswered_is_counted setting past courses recs key request legal u = told_count (after_all nothing_yet recs) key request (legal_counted setting past courses recs legal) u
