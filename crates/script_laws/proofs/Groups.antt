-- What each group of records keeps, and what it tells.
use Rattle.std.proofs.Common.{◌≡◌, ℕ, ◌+◌, ◌-◌, ◌^◌, ◌<◌, ◌≤◌, List, [], ◌∷◌, ◌++◌, refl, sym, ◌∙◌, subst, arith, inl, inr, Bool, true, false}
use Rattle.std.specs.Prelude.{Some, None, cond, map, min}
use Rattle.std.specs.List.{AllByRecursion}
use Rattle.device_log.specs.Calls.{Asked}
use Rattle.tape_base.specs.declared.actors.Actor.{Actor}
use Rattle.tape_base.specs.declared.keys.Key.{Key}
use Rattle.tape_base.specs.declared.pieces.PieceId.{PieceId}
use Rattle.tape_base.specs.Geometry.{budget_of}
use Rattle.fragment_table.specs.Table.{TableRow}
use Rattle.alternate_vector.specs.Field.{Field}
use Rattle.cache_model.specs.declared.cause.Cause.{Cause}
use Rattle.cache_model.specs.declared.answer.ReadAnswer.{ReadAnswer}
use Rattle.cache_model.specs.declared.answer.ReadAnswer.TheVariants as read
use Rattle.cache_model.specs.declared.answer.NextAnswer.{NextAnswer}
use Rattle.cache_model.specs.declared.answer.NextAnswer.TheVariants as next
use Rattle.cache_model.specs.declared.record.Rec.{Rec}
use Rattle.cache_model.specs.declared.record.Rec.TheVariants as rec
use Rattle.cache_model.specs.State.{State, Row, ReaderRow, after_all, cursor_next, state_after}
use Rattle.cache_model.specs.Verdict.{digest_in}
use Rattle.cache_model.specs.Permit.{Permit, Intent, Flush, Sync, SyncBegin, SyncStep, Drain, CleanSync, Write, Fragment, Overflow, Weigh, Finish, Commit, GiveUp, Remove, Look, ReadOn, ReadAll, StopReading, End, Stays, Done, Fails, Faulted, Exhausted, Lost}
use Rattle.cache_model.specs.Room.{MayDisplace, displaced_record}
use Rattle.cache_model.specs.Permit.{IsAmong}
use Rattle.cache_model.specs.Due.{due_pieces}
use Rattle.cache_model.specs.Outcomes.{AreOutcomes, Copied, Copy, IsOutcome, NoRoom, Outcome, ReadRefused, Spoiled, copies_of, flush_records, front_of, left_behind, moved_record, moved_records, records_of, stopped_front_of, stopped_records_of}
use Rattle.cache_model.specs.Given
use Rattle.cache_model.specs.Syncing
use Rattle.cache_model.specs.Syncing.{CannotEnd, DoesCleanSync, DoesSync, DoesSyncStep, MayStopSync, MaySyncBehind, StopsBehind, Syncing, Unmarks, at_first, begun_record, behind_records, ended_records, first_records, sync_records, unmark_records}
use Rattle.cache_model.specs.Legal
use Rattle.cache_model.specs.Legal.{Does, answer_record, is_given}
use Rattle.cache_model.proofs.Found.{none_is}
use Rattle.cache_model.proofs.Syncing.{AreOfSyncs, IsOfSync, behind_of, ended_of, first_of, sync_of, unmark_of}
use Rattle.script_laws.specs.Causes
use Rattle.script_laws.specs.Causes.{IsGivenBy, IsTraced, cause_given, cause_told}
use Rattle.step_laws.specs.StepLaws.{IsRefusalCount}
use Rattle.model_laws.proofs.Among.{call_made}
use Rattle.cache_model.proofs.Steps.{all_append, all_as}
use Rattle.script_laws.proofs.Among.{among_right}
use Rattle.script_laws.proofs.Losses.{given_left}
use Rattle.script_laws.proofs.Standing.{LookIsTraced, NextIsTraced, look_stands, next_stands}

-- what the record tells is traced, by these records
abbrev pub TellsTraced : State → List Rec → Rec → Type 0
TellsTraced s all r = (why : Cause) → cause_told r ≡ Some why → IsTraced s all why

-- where the group is refused by the device, it recorded the fault
abbrev pub EndIsRecorded : List Rec → End → Type 0
EndIsRecorded added (Fails (Faulted count)) = IsAmong (rec.Fault count) added
EndIsRecorded added _ = Unit {0}

module _ (p : Permit) where
  -- the record begins no session, and a fault is a call that was refused in the step, with a count above 0
  abbrev pub IsKept : Rec → Type 0
  IsKept (rec.Formatted geometry) = ⊥
  IsKept (rec.Opened geometry serial cursor floor next_put clean list) = ⊥
  IsKept (rec.Fault count) = IsRefusalCount p count × (0 < count)
  IsKept _ = Unit {0}

  pub record IsGroup (s : State) (added : List Rec) (e : End) : Type 0 where
    pub kept : AllByRecursion IsKept added
    pub traced : AllByRecursion (TellsTraced s added) added
    pub failed : EndIsRecorded added e

  -- ---- records that tell nothing

  abbrev IsSilent : Rec → Type 0
  IsSilent r = IsKept r × (cause_told r ≡ None)

  abbrev AreSilent : List Rec → Type 0
  AreSilent recs = AllByRecursion IsSilent recs

  silent_kept : (recs : List Rec) → AreSilent recs → AllByRecursion IsKept recs
  silent_kept recs h = all_as IsSilent IsKept (λ r quiet. quiet.0) recs h

  tells_none : (s : State) (all : List Rec) (r : Rec) → cause_told r ≡ None → TellsTraced s all r
  tells_none s all r none why told = none_is (sym none ∙ told)

  silent_traced : (s : State) (all recs : List Rec) → AreSilent recs → AllByRecursion (TellsTraced s all) recs
  silent_traced s all recs h = all_as IsSilent (TellsTraced s all) (λ r quiet. tells_none s all r quiet.1) recs h

  silent : (s : State) (added other : List Rec) (e : End) → added ≡ other → EndIsRecorded other e → AreSilent other → IsGroup s added e
  silent s added other e is end h =
      let group : IsGroup s other e = record { kept = silent_kept other h; traced = silent_traced s other other h; failed = end } in
      subst (λ recs. IsGroup s recs e) (sym is) group

  -- ---- faults

  counted : {asked : Asked} (s : State) (count : ℕ) → Given.MayCount p s asked count → IsKept (rec.Fault count)
  counted {asked} s count m =
      let rose : min (s.fault + 1) (2 ^ 64 - 1) ≤ count = m.rose in
      ((asked, m.refused), omega (arith, rose))

  fault : {asked : Asked} (s : State) (count : ℕ) (added : List Rec) → Given.MayCount p s asked count → added ≡ rec.Fault count ∷ [] → IsGroup s added (Fails (Faulted count))
  fault s count added m is = silent s added (rec.Fault count ∷ []) (Fails (Faulted count)) is (inl refl) ((counted s count m, refl), tt)

  -- ---- what comes before an answer

  -- records that tell nothing, one of which stands for the cause
  record Gives (before : List Rec) (why : Cause) : Type 0 where
    silent : AreSilent before
    given : IsGivenBy before why

  one : (r : Rec) (why : Cause) → IsSilent r → cause_given r ≡ Some why → Gives (r ∷ []) why
  one r why quiet gives = record { silent = (quiet, tt); given = record { r = r; among = inl refl; gives = gives } }

  trouble : (s : State) (row : Row) (before : List Rec) (why : Cause) → Given.Trouble p s row before why → Gives before why
  trouble s row before why (Given.Trouble.faulted count w m) = one (rec.Fault count) why (counted s count m, refl) refl
  trouble s row before why (Given.Trouble.damaged found d) = one (Given.damage_record row row.digest found) why (tt, refl) refl

  read_trouble : (s : State) (row : Row) (entry : TableRow) (before : List Rec) (why : Cause) → Legal.ReadTrouble p s row entry before why → Gives before why
  read_trouble s row entry before why (Legal.ReadTrouble.troubled b c t) = trouble s row before why t
  read_trouble s row entry before why (Legal.ReadTrouble.mismatched found read unlike) = one (Given.damage_record row (digest_in entry) found) why (tt, refl) refl

  by_given : (s : State) (before rest : List Rec) (why : Cause) → Gives before why → IsTraced s (before ++ rest) why
  by_given s before rest why g = Causes.IsTraced.recorded (given_left before rest why g.given)

  -- ---- answers

  answered : (s : State) (added before : List Rec) (a : Rec) (e : End) → added ≡ before ++ a ∷ [] → AreSilent before → IsKept a
      → TellsTraced s (before ++ a ∷ []) a → EndIsRecorded (before ++ a ∷ []) e → IsGroup s added e
  answered s added before a e is quiet kept tells end =
      let all : List Rec = before ++ a ∷ [] in
      let group : IsGroup s all e = record {
        kept = all_append IsKept before (a ∷ []) (silent_kept before quiet) (kept, tt);
        traced = all_append (TellsTraced s all) before (a ∷ []) (silent_traced s all before quiet) (tells, tt);
        failed = end;
      } in
      subst (λ recs. IsGroup s recs e) (sym is) group

  opened_tells : (s : State) (all : List Rec) (reader : ℕ) (who : Actor) (key : Key) (request : List Field) (answer : ReadAnswer) → LookIsTraced s all answer
      → TellsTraced s all (rec.ReadOpened reader who key request answer)
  opened_tells s all reader who key request (read.Hit put) h why told = none_is told
  opened_tells s all reader who key request (read.Follow put) h why told = none_is told
  opened_tells s all reader who key request (read.Miss cause) h why told = let same : cause ≡ why = cc in subst (IsTraced s all) same h

  answer_tells : (s : State) (all : List Rec) (reader : ℕ) (answer : NextAnswer) → NextIsTraced s all answer → TellsTraced s all (answer_record reader answer)
  answer_tells s all reader (next.Gave index length) h why told = none_is told
  answer_tells s all reader (next.Ended length) h why told = none_is told
  answer_tells s all reader (next.Waited cut) h why told = none_is told
  answer_tells s all reader (next.Broke cause) h why told = let same : cause ≡ why = cc in subst (IsTraced s all) same h

  answer_kept : (reader : ℕ) (answer : NextAnswer) → IsKept (answer_record reader answer)
  answer_kept reader (next.Gave index length) = tt
  answer_kept reader (next.Ended length) = tt
  answer_kept reader (next.Waited cut) = tt
  answer_kept reader (next.Broke why) = tt

  -- what comes before a lookup's answer, and where its cause comes from
  record IsBefore (Traced : List Rec → Type 0) (before : List Rec) : Type 0 where
    silent : AreSilent before
    traced : (rest : List Rec) → Traced (before ++ rest)

  lookup : (s : State) (key : Key) (request : List Field) (before : List Rec) (answer : ReadAnswer) → Legal.IsLookup p s key request before answer
      → IsBefore (λ all. LookIsTraced s all answer) before
  lookup s key request before answer (Legal.IsLookup.verdict r) = record { silent = tt; traced = λ rest. look_stands s rest key request }
  lookup s key request before answer (Legal.IsLookup.trouble row b why live t) =
      let g : Gives before why = trouble s row before why t in
      record { silent = g.silent; traced = λ rest. by_given s before rest why g }

  reading : (s : State) (r : ReaderRow) (before : List Rec) (answer : NextAnswer) → Legal.IsReading p s r before answer
      → IsBefore (λ all. NextIsTraced s all answer) before
  reading s r before answer (Legal.IsReading.verdict x listed) = record { silent = tt; traced = λ rest. next_stands s rest r }
  reading s r before answer (Legal.IsReading.trouble entry row b why n live t) =
      let g : Gives before why = read_trouble s row entry before why t in
      record { silent = g.silent; traced = λ rest. by_given s before rest why g }

  looked : (s : State) (actor : ℕ) (key : Key) (request : List Field) (added : List Rec) → Legal.MayLook p s actor key request added → IsGroup s added Done
  looked s actor key request added m =
      let a : Rec = rec.ReadOpened s.next_reader m.who key request m.answer in
      let b : IsBefore (λ all. LookIsTraced s all m.answer) m.before = lookup s key request m.before m.answer m.right in
      answered s added m.before a Done m.is b.silent tt (opened_tells s (m.before ++ a ∷ []) s.next_reader m.who key request m.answer (b.traced (a ∷ []))) tt

  read_on : (s : State) (reader : ℕ) (answer : NextAnswer) (added : List Rec) (e : End) → EndIsRecorded (added) e → Legal.MayReadOn p s reader answer added → IsGroup s added e
  read_on s reader answer added e end m =
      let a : Rec = answer_record reader answer in
      let b : IsBefore (λ all. NextIsTraced s all answer) m.before = reading s m.r m.before answer m.right in
      answered s added m.before a e m.is b.silent (answer_kept reader answer) (answer_tells s (m.before ++ a ∷ []) reader answer (b.traced (a ∷ [])))
      (subst (λ recs. EndIsRecorded recs e) m.is end)

  stays_or_done : (added : List Rec) (b : Bool) → EndIsRecorded added (cond b Stays Done)
  stays_or_done added true = tt
  stays_or_done added false = tt

  -- ---- what is placed

  displacements : (segment live : ℕ) (rows : List Row) → AreSilent (map (displaced_record segment live) rows)
  displacements segment live [] = tt
  displacements segment live (row ∷ rows) = ((tt, refl), displacements segment live rows)

  displaced : (s : State) (piece : PieceId) (added : List Rec) → MayDisplace p s piece added → AreSilent added
  displaced s piece added m = subst AreSilent (sym m.is) (displacements _ _ m.purged)

  -- ---- a flush

  outcome_silent : (s : State) (left : ℕ) (row : Row) (o : Outcome) → IsOutcome p s left row o → AreSilent (records_of row o)
  outcome_silent s left row NoRoom h = ((tt, refl), tt)
  outcome_silent s left row (Copied bytes) h = tt
  outcome_silent s left row (Spoiled found) h = ((tt, refl), tt)
  outcome_silent s left row (ReadRefused count) h = ((counted s count h.2, refl), ((tt, refl), tt))

  front_silent : (s : State) (left : ℕ) (rows : List Row) (outcomes : List Outcome) → AreOutcomes p s left rows outcomes → AreSilent (front_of rows outcomes)
  front_silent s left [] outcomes h = tt
  front_silent s left (row ∷ rows) [] h = tt
  front_silent s left (row ∷ rows) (o ∷ outcomes) h =
      all_append IsSilent (records_of row o) (front_of rows outcomes) (outcome_silent s left row o h.0) (front_silent (after_all s (records_of row o)) (left_behind left row o) rows outcomes h.1)

  copies_silent : (s : State) (copies : List Copy) → AreSilent (moved_records s copies)
  copies_silent s [] = tt
  copies_silent s (c ∷ copies) = ((tt, refl), copies_silent (state_after s (moved_record s c)) copies)

  flush : (s : State) (added : List Rec) (e : End) → EndIsRecorded added e → Legal.MayFlush p s added → IsGroup s added e
  flush s added e end m =
      let rows : List Row = due_pieces s p.now in
      silent s added (flush_records s rows m.outcomes) e m.is (subst (λ recs. EndIsRecorded recs e) m.is end)
      (all_append IsSilent (front_of rows m.outcomes) _ (front_silent s (budget_of s.geometry) rows m.outcomes m.are) ((tt, refl), copies_silent _ (copies_of rows m.outcomes)))

  stopped_outcome_silent : (s : State) (left : ℕ) (row : Row) (o : Outcome) → IsOutcome p s left row o → AreSilent (stopped_records_of row o)
  stopped_outcome_silent s left row NoRoom h = tt
  stopped_outcome_silent s left row (Copied bytes) h = tt
  stopped_outcome_silent s left row (Spoiled found) h = ((tt, refl), tt)
  stopped_outcome_silent s left row (ReadRefused count) h = ((counted s count h.2, refl), tt)

  stopped_front_silent : (s : State) (left : ℕ) (rows : List Row) (outcomes : List Outcome) → AreOutcomes p s left rows outcomes → AreSilent (stopped_front_of rows outcomes)
  stopped_front_silent s left [] outcomes h = tt
  stopped_front_silent s left (row ∷ rows) [] h = tt
  stopped_front_silent s left (row ∷ rows) (o ∷ outcomes) h =
      all_append IsSilent (stopped_records_of row o) (stopped_front_of rows outcomes) (stopped_outcome_silent s left row o h.0)
      (stopped_front_silent (after_all s (records_of row o)) (left_behind left row o) rows outcomes h.1)

  -- the fault for which it stops comes behind those of the reads
  stop : (s : State) (count : ℕ) (added : List Rec) → Legal.MayStop p s count added → IsGroup s added (Fails (Faulted count))
  stop s count added m =
      let front : List Rec = stopped_front_of (due_pieces s p.now) m.outcomes in
      let last : List Rec = rec.Fault count ∷ [] in
      silent s added (front ++ last) (Fails (Faulted count)) m.is (among_right (rec.Fault count) front last (inl refl))
      (all_append IsSilent front last (stopped_front_silent s (budget_of s.geometry) (due_pieces s p.now) m.outcomes m.are) ((counted (after_all s front) count m.counts.counts, refl), tt))

  -- ---- syncs

  sync_silent : (r : Rec) → IsOfSync r → IsSilent r
  sync_silent (rec.SyncBegun serial cursor clean in_parts) h = (tt, refl)
  sync_silent (rec.SyncDone serial) h = (tt, refl)
  sync_silent _ h = absurd h

  syncs_silent : (recs : List Rec) → AreOfSyncs recs → AreSilent recs
  syncs_silent recs h = all_as IsOfSync IsSilent sync_silent recs h

  ended_then : (s : State) (recs : List Rec) → AreSilent recs → AreSilent (ended_records s ++ recs)
  ended_then s recs h = all_append IsSilent (ended_records s) recs (syncs_silent (ended_records s) (ended_of s)) h

  -- the buffer is written out among them
  synced : (k : Syncing) (s : State) (added : List Rec) → MaySyncBehind p k s added → IsGroup s added Done
  synced k s added m =
      let rows : List Row = due_pieces s p.now in
      silent s added _ Done m.is tt
      (all_append IsSilent (first_records k s) _ (syncs_silent (first_records k s) (first_of k s))
      (all_append IsSilent (front_of rows m.outcomes) _ (front_silent s (budget_of s.geometry) rows m.outcomes m.are)
      (all_append IsSilent (behind_records k (at_first k s)) _ (syncs_silent (behind_records k (at_first k s)) (behind_of k (at_first k s)))
      ((tt, refl), copies_silent _ (copies_of rows m.outcomes)))))

  begun_silent : (k : Syncing) (s : State) (front : List Rec) (count : ℕ) (begun : List Rec) → StopsBehind p k s front count begun → AreSilent (begun ++ rec.Fault count ∷ [])
  begun_silent k s front count begun (Syncing.StopsBehind.buffer c) = ((counted (after_all s front) count c.counts, refl), tt)
  begun_silent k s front count begun (Syncing.StopsBehind.ended t n r c) = ((counted (after_all s front) count c.counts, refl), tt)
  begun_silent k s front count begun (Syncing.StopsBehind.whole t n c) =
      all_append IsSilent (ended_records s ++ begun_record s (cursor_next s) false false ∷ []) _ (ended_then s _ ((tt, refl), tt)) ((counted (after_all s front) count c.counts, refl), tt)

  sync_stops : (k : Syncing) (s : State) (count : ℕ) (added : List Rec) → MayStopSync p k s count added → IsGroup s added (Fails (Faulted count))
  sync_stops k s count added m =
      let rows : List Row = due_pieces s p.now in
      let first : List Rec = first_records k s in
      let front : List Rec = stopped_front_of rows m.outcomes in
      let last : Rec = rec.Fault count in
      silent s added (first ++ (front ++ (m.begun ++ last ∷ []))) (Fails (Faulted count)) m.is
      (among_right last first _ (among_right last front _ (among_right last m.begun _ (inl refl))))
      (all_append IsSilent first _ (syncs_silent first (first_of k s))
      (all_append IsSilent front _ (stopped_front_silent s (budget_of s.geometry) rows m.outcomes m.are) (begun_silent k (at_first k s) front count m.begun m.stops)))

  -- a sync was begun, and the fault stands behind that
  begun_stops : (s : State) (count : ℕ) (added : List Rec) (r : Rec) → IsOfSync r → added ≡ ended_records s ++ r ∷ rec.Fault count ∷ [] → Given.CountsStop p s count
      → IsGroup s added (Fails (Faulted count))
  begun_stops s count added r of_sync is c =
      silent s added _ (Fails (Faulted count)) is (among_right (rec.Fault count) (ended_records s) _ (inr (inl refl)))
      (ended_then s _ (sync_silent r of_sync, ((counted s count c.counts, refl), tt)))

  cannot_end : (s : State) (count : ℕ) (added : List Rec) → CannotEnd p s count added → IsGroup s added (Fails (Faulted count))
  cannot_end s count added c = fault s count added c.counts.counts c.is

  sync : (k : Syncing) (s : State) (added : List Rec) (e : End) → DoesSync p k s added e → IsGroup s added e
  sync k s added e (Syncing.DoesSync.goes m) = synced k s added m
  sync k s added e (Syncing.DoesSync.stops count m) = sync_stops k s count added m
  sync k s added e (Syncing.DoesSync.empty m) = silent s added _ e m.is tt (ended_then s _ (syncs_silent (sync_records k s s.cursor) (sync_of k s s.cursor)))
  sync k s added e (Syncing.DoesSync.empty_stops count m) = begun_stops s count added _ tt m.is m.counts
  sync k s added e (Syncing.DoesSync.stays count can first c) = cannot_end s count added c
  sync k s added e (Syncing.DoesSync.exhausted may high is) = silent s added [] e is tt tt
  sync k s added e (Syncing.DoesSync.runs serial on quiet parts runs is) = silent s added [] e is tt tt

  sync_step : (s : State) (last : Bool) (added : List Rec) (e : End) → DoesSyncStep p s last added e → IsGroup s added e
  sync_step s last added e (Syncing.DoesSyncStep.none on quiet none is) = silent s added [] e is tt tt
  sync_step s last added e (Syncing.DoesSyncStep.part on quiet runs more is) = silent s added [] e is tt tt
  sync_step s last added e (Syncing.DoesSyncStep.ends on quiet runs end is) = silent s added _ e is tt (syncs_silent (ended_records s) (ended_of s))
  sync_step s last added e (Syncing.DoesSyncStep.stays count on quiet c) = cannot_end s count added c

  clean_sync : (s : State) (added : List Rec) (e : End) → DoesCleanSync p s added e → IsGroup s added e
  clean_sync s added e (Syncing.DoesCleanSync.moving on quiet some is) = silent s added [] e is tt tt
  clean_sync s added e (Syncing.DoesCleanSync.runs serial on quiet none running is) = silent s added [] e is tt tt
  clean_sync s added e (Syncing.DoesCleanSync.syncs on quiet none rests below is) = silent s added _ e is tt ((tt, refl), ((tt, refl), tt))
  clean_sync s added e (Syncing.DoesCleanSync.stops count on quiet none rests below c is) = silent s added _ e is (inr (inl refl)) ((tt, refl), ((counted s count c.counts, refl), tt))
  clean_sync s added e (Syncing.DoesCleanSync.exhausted on quiet none rests high is) = silent s added [] e is tt tt

  drain : (s : State) (added : List Rec) (e : End) → Legal.DoesDrain p s added e → IsGroup s added e
  drain s added e (Legal.DoesDrain.still_open on quiet some is) = silent s added [] e is tt tt
  drain s added e (Legal.DoesDrain.empty on quiet none filled is) = silent s added _ e is tt (syncs_silent (ended_records s) (ended_of s))
  drain s added e (Legal.DoesDrain.stays count on quiet none filled c) = cannot_end s count added c
  drain s added e (Legal.DoesDrain.syncs none some d) = sync Syncing.AtOnce s added e d

  unmark : (s : State) (added : List Rec) (e : End) → Unmarks p s added e → IsGroup s added e
  unmark s added e (Syncing.Unmarks.unmarks must below is) = silent s added _ e is tt (syncs_silent (unmark_records s) (unmark_of s))
  unmark s added e (Syncing.Unmarks.stays count must below c) = cannot_end s count added c
  unmark s added e (Syncing.Unmarks.stops count must below marked c is) = begun_stops s count added _ tt is c
  unmark s added e (Syncing.Unmarks.exhausted must high is) = silent s added [] e is tt tt

  -- behind a flush for room what was asked is still to be done
  stays_recorded : (added : List Rec) (e : End) → EndIsRecorded added e → EndIsRecorded added (Legal.stays_behind e)
  stays_recorded added Stays h = h
  stays_recorded added Done h = tt
  stays_recorded added (Fails reason) h = h

  -- ---- room

  room : (s : State) (bytes : ℕ) (added : List Rec) (e : End) → Legal.MakesRoom p s bytes added e → IsGroup s added e
  room s bytes added e (Legal.MakesRoom.flushes h m) = flush s added e tt m
  room s bytes added e (Legal.MakesRoom.stops count h m) = stop s count added m
  room s bytes added e (Legal.MakesRoom.exhausted h q is) = silent s added [] e is tt tt
  room s bytes added e (Legal.MakesRoom.syncs end h d is) =
      let g : IsGroup s added end = sync Syncing.WhereDue s added end d in
      record { kept = g.kept; traced = g.traced; failed = subst (EndIsRecorded added) (sym is) (stays_recorded added end g.failed) }

  -- a group that comes to an end at which no fault is recorded
  ends_so : (s : State) (added other : List Rec) (e end : End) → added ≡ other → e ≡ end → EndIsRecorded other end → AreSilent other → IsGroup s added e
  ends_so s added other e end is same recorded h = silent s added other e is (subst (EndIsRecorded other) (sym same) recorded) h

  -- ---- each group

  pub group : (s : State) (i : Intent) (added : List Rec) (e : End) → Does p s i added e → IsGroup s added e
  group s Flush added e (Legal.DoesFlush.empty q f is) = silent s added [] e is tt tt
  group s Flush added e (Legal.DoesFlush.flushes m) = flush s added e tt m
  group s Flush added e (Legal.DoesFlush.stops count m) = stop s count added m
  group s Flush added e (Legal.DoesFlush.exhausted q f b is) = silent s added [] e is tt tt
  group s Flush added e (Legal.DoesFlush.syncs d) = sync Syncing.WhereDue s added e d
  group s Sync added e d = sync Syncing.AtOnce s added e d
  group s SyncBegin added e d = sync Syncing.InParts s added e d
  group s (SyncStep last) added e d = sync_step s last added e d
  group s Drain added e d = drain s added e d
  group s CleanSync added e d = clean_sync s added e d
  group s (Write actor key request response pin) added e (Legal.DoesWrite.opens m) = silent s added _ e m.is tt ((tt, refl), tt)
  group s (Write actor key request response pin) added e (Legal.DoesWrite.many q m is) = silent s added [] e is tt tt
  group s (Write actor key request response pin) added e (Legal.DoesWrite.exhausted q m l is) = silent s added [] e is tt tt
  group s (Fragment put index payload) added e (Legal.DoesFragment.places d m) =
      ends_so s added _ e Done m.is d tt ((tt, refl), all_append IsSilent m.displaced _ (displaced s _ m.displaced m.displaces) ((tt, refl), tt))
  group s (Fragment put index payload) added e (Legal.DoesFragment.unmarks w n q u) = unmark s added e u
  group s (Fragment put index payload) added e (Legal.DoesFragment.rooms w n m) = room s _ added e m
  group s (Fragment put index payload) added e (Legal.DoesFragment.exhausted w x n q) = ends_so s added [] e (Fails Exhausted) q.is x tt tt
  group s (Overflow put) added e (Legal.DoesOverflow.aborts w q l is) = silent s added _ e is tt ((tt, refl), tt)
  group s (Weigh put rest) added e (Legal.DoesWeigh.weighs w q r f is) = silent s added [] e is tt tt
  group s (Weigh put rest) added e (Legal.DoesWeigh.too_large w q r f is) = silent s added _ e is tt ((tt, refl), tt)
  group s (Weigh put rest) added e (Legal.DoesWeigh.damaged w row found q live d is) = silent s added _ e is tt ((tt, refl), tt)
  group s (Weigh put rest) added e (Legal.DoesWeigh.faulted w row count q live r m is) = fault s count added m is
  group s (Finish put fragments) added e (Legal.DoesFinish.places d m) =
      ends_so s added _ e Done m.is d tt (all_append IsSilent m.displaced _ (displaced s _ m.displaced m.displaces) ((tt, refl), tt))
  group s (Finish put fragments) added e (Legal.DoesFinish.unmarks w c l q u) = unmark s added e u
  group s (Finish put fragments) added e (Legal.DoesFinish.rooms w c m) = room s _ added e m
  group s (Finish put fragments) added e (Legal.DoesFinish.exhausted w x c l q) = ends_so s added [] e (Fails Exhausted) q.is x tt tt
  group s (Finish put fragments) added e (Legal.DoesFinish.loses w index d m is) = ends_so s added _ e (Fails (Lost put index)) is d tt ((tt, refl), tt)
  group s (Commit put) added e (Legal.DoesCommit.commits w f o q is) = silent s added _ e is tt ((tt, refl), tt)
  group s (GiveUp put) added e (Legal.DoesGiveUp.aborts w q is) = silent s added _ e is tt ((tt, refl), tt)
  group s (GiveUp put) added e (Legal.DoesGiveUp.over q o is) = silent s added [] e is tt tt
  group s (Remove key) added e (Legal.DoesRemove.removes row q l is) = silent s added _ e is tt ((tt, refl), tt)
  group s (Remove key) added e (Legal.DoesRemove.absent q l is) = silent s added [] e is tt tt
  group s (Look actor key request) added e (Legal.DoesLook.looks m) = looked s actor key request added m
  group s (ReadOn reader) added e (Legal.DoesReadOn.reads_on answer m) = read_on s reader answer added e tt m
  group s (ReadAll reader) added e (Legal.DoesReadAll.reads_on answer x m y) =
      read_on s reader answer added e (subst (EndIsRecorded added) (sym y) (stays_or_done added (is_given answer))) m
  group s (ReadAll reader) added e (Legal.DoesReadAll.has_none q x is y) = ends_so s added [] e Done is y tt tt
  group s (StopReading reader) added e (Legal.DoesStopReading.closes r q l is) = silent s added _ e is tt ((tt, refl), tt)
  group s (StopReading reader) added e (Legal.DoesStopReading.closed q l is) = silent s added [] e is tt tt
