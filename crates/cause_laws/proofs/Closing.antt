-- A line that is refused for a lost fragment closes its put; and the loss was recorded in it, or in an earlier line.
use Rattle.std.proofs.Common.{◌≡◌, ℕ, zero, suc, ◌+◌, ◌-◌, ◌<◌, ◌≤◌, List, [], ◌∷◌, ◌++◌, length, take, drop, Bool, true, false, refl, sym, ◌∙◌, ap, subst, inl, inr, ◌⊎◌, arith}
use Rattle.std.specs.Prelude.{Option, Some, None, cond, filter, if◌then◌else◌, option_map, unwrap_or, ◌==◌, nat_le}
use Rattle.std.specs.List.{AllByRecursion}
use Rattle.tape_base.specs.declared.geometries.BadGeometry.{BadGeometry}
use Rattle.tape_base.specs.declared.keys.Key.{Key}
use Rattle.tape_base.specs.declared.pieces.PieceId.{PieceId}
use Rattle.tape_base.specs.Limits.{first_refusal}
use Rattle.alternate_vector.specs.Field.{Field}
use Rattle.cache_model.specs.declared.cause.Cause.{Cause}
use Rattle.cache_model.specs.declared.cause.Cause.TheVariants as cause
use Rattle.cache_model.specs.declared.answer.ReadAnswer.{ReadAnswer}
use Rattle.cache_model.specs.declared.answer.ReadAnswer.TheVariants as read
use Rattle.cache_model.specs.declared.record.Rec.{Rec}
use Rattle.cache_model.specs.declared.record.Rec.TheVariants as rec
use Rattle.cache_model.specs.State.{State, PutRow, GivenUp, after_all, fragment_piece, live_row_of, most_fragments, nothing_yet, put_of, state_after, with_writing}
use Rattle.cache_model.specs.Verdict.{cause_of_loss, cause_of_piece, cuts_of}
use Rattle.cache_model.specs.Permit.{Permit, Intent, Flush, Sync, SyncBegin, SyncStep, Drain, CleanSync, Write, Fragment, Overflow, Weigh, Finish, Commit, GiveUp, Remove, Look, ReadOn, ReadAll, StopReading, Reason, ManyWriters, Exhausted, ManyFragments, TooLarge, Lost, Faulted, SyncRuns, NoSync, StillOpen, StillMoving, End, Stays, Done, Fails, IsAmong, Work, is_cleanup, work_after}
use Rattle.cache_model.specs.Syncing
use Rattle.cache_model.specs.Syncing.{DoesCleanSync, DoesSync, DoesSyncStep, Syncing, Unmarks}
use Rattle.cache_model.specs.Legal
use Rattle.cache_model.specs.Legal.{Advances, AreLiveTo, Does, IsStep, MayGrow, is_given, more, nothing, stays_behind}
use Rattle.cache_model.proofs.Found.{no_truth}
use Rattle.cache_model.proofs.Steps.{after_all-append, all_append}
use Rattle.script_grammar.specs.declared.step.Step.{Step}
use Rattle.script_grammar.specs.declared.step.Step.TheVariants as step
use Rattle.script_grammar.specs.declared.answer.Refused.TheVariants as refused
use Rattle.script_grammar.specs.declared.answer.StepAnswer.{StepAnswer}
use Rattle.script_grammar.specs.declared.answer.StepAnswer.TheVariants as answer
use Rattle.device_log.specs.Calls.{Call}
use Rattle.script_run.specs.Run.{Holding, Run, fresh, gathered_of, held_by, put_written_by, reader_by}
use Rattle.script_run.specs.Asked
use Rattle.script_run.specs.Asked.{close_intents, cut_intents, feed_intents, put_intents, rest_intents}
use Rattle.script_run.specs.Turn.{Turn, lookup_in, told_in}
use Rattle.script_run.specs.Answers
use Rattle.script_run.specs.Answers.{broken_said, cause_of_lost, end_said, format_said, get_said, lookup_said, miss_said, next_said, put_said, refusal_said, remove_said, said, step_answer, step_said, took_of, tried_said}
use Rattle.script_run.specs.Takes.{StepTakes, Takes, run_after}
use Rattle.script_laws.proofs.Groups.{IsKept}
use Rattle.script_laws.proofs.Walking.{walked}
use Rattle.script_run.proofs.Changed.{changed, found_changed}
use Rattle.headline.specs.Account.{Account, HistoryTells, RunLogs}
use Rattle.headline.specs.Displacements
use Rattle.headline.specs.Displacements.{AsksToClose, LostDisplaced}
use Rattle.headline.specs.Misses.{WasRecorded}
use Rattle.headline.specs.Verdicts.{LossIsCaused}
use Rattle.cause_laws.proofs.Displaced.{by_line, by_loss, by_lost}
use Rattle.account_laws.proofs.Lost.{IsLost, TellsLoss, displaced_by, lost_by}
use Rattle.account_laws.proofs.Places.{told_line}
use Rattle.account_laws.proofs.Troubles.{did_before}
use Rattle.cause_laws.proofs.Verdicts.{IsWhole, missing_for, whole_along, whole_here}

-- ---- a fragment that is lost

-- the put has cut the fragment, which is not live; all before it are
record LostIn (t : State) (put index : ℕ) : Type 0 where
  w : PutRow
  found : put_of t put ≡ Some w
  some : 0 < index
  within : index ≤ length w.cuts
  before : AreLiveTo t w (index - 1)
  dead : live_row_of t (fragment_piece w.key put index) ≡ None

module _ (s : State) (m : ℕ) (key : Key) (put index : ℕ) (lost : LostIn s put index) where
  abbrev Aborted : State
  Aborted = state_after s (rec.Aborted m key)

  aborted_by : (b : Bool) → put_of Aborted put ≡ Some (if b then with_writing GivenUp lost.w else lost.w) → LostIn Aborted put index
  aborted_by true found = record { w = with_writing GivenUp lost.w; found = found; some = lost.some; within = lost.within; before = lost.before; dead = lost.dead }
  aborted_by false found = record { w = lost.w; found = found; some = lost.some; within = lost.within; before = lost.before; dead = lost.dead }

  -- it is so where a put is given up
  aborted_in : LostIn Aborted put index
  aborted_in =
      aborted_by (lost.w.put == m) (found_changed m (with_writing GivenUp) (λ x. refl) put s.puts ∙ ap (option_map (changed m (with_writing GivenUp))) lost.found)

-- and where a reader is closed
closed_in : (s : State) (reader put index : ℕ) → LostIn s put index → LostIn (state_after s (rec.ReadClosed reader)) put index
closed_in s reader put index lost = record { w = lost.w; found = lost.found; some = lost.some; within = lost.within; before = lost.before; dead = lost.dead }

had_lost : (s : State) (put fragments index : ℕ) (w : PutRow) → Legal.HasLost s put fragments index w → LostIn s put index
had_lost s put fragments index w m = record {
  w = w;
  found = m.cut.writing.found;
  some = m.some;
  within = subst (λ n. index ≤ n) (sym m.cut.count) m.within;
  before = m.before;
  dead = m.lost;
}

-- ---- for which put a step may be refused so

module _ (put : ℕ) where
  -- where the intent ends a put, it is this one
  abbrev FinishesOnly : Intent → Type 0
  FinishesOnly (Finish n fragments) = n ≡ put
  FinishesOnly _ = Unit {0}

  abbrev AllFinish : List Intent → Type 0
  AllFinish intents = AllByRecursion FinishesOnly intents

  -- where a fragment is lost, it is one of this put
  abbrev LosesOnly : State → Reason → Type 0
  LosesOnly t (Lost n index) = (n ≡ put) × LostIn t n index
  LosesOnly t _ = Unit {0}

  abbrev EndsIn : State → End → Type 0
  EndsIn t (Fails reason) = LosesOnly t reason
  EndsIn t _ = Unit {0}

  abbrev RefusedSo : State → Option Reason → Type 0
  RefusedSo t (Some reason) = LosesOnly t reason
  RefusedSo t None = Unit {0}

  -- behind a refusal nothing is left but to clean up
  abbrev Cleans : Intent → Type 0
  Cleans i = is_cleanup i ≡ true

  abbrev OnlyCleans : Option Reason → List Intent → Type 0
  OnlyCleans (Some reason) intents = AllByRecursion Cleans intents
  OnlyCleans None intents = Unit {0}

  module _ (p : Permit) (u : State) where
    abbrev EndsSo : End → Type 0
    EndsSo e = EndsIn u e

    sync_ends : (k : Syncing) (s : State) (added : List Rec) (e : End) → DoesSync p k s added e → EndsSo e
    sync_ends k s added e (Syncing.DoesSync.goes m) = tt
    sync_ends k s added e (Syncing.DoesSync.stops count m) = tt
    sync_ends k s added e (Syncing.DoesSync.empty m) = tt
    sync_ends k s added e (Syncing.DoesSync.empty_stops count m) = tt
    sync_ends k s added e (Syncing.DoesSync.stays count c f m) = tt
    sync_ends k s added e (Syncing.DoesSync.exhausted m x is) = tt
    sync_ends k s added e (Syncing.DoesSync.runs serial x q i r is) = tt

    part_ends : (s : State) (last : Bool) (added : List Rec) (e : End) → DoesSyncStep p s last added e → EndsSo e
    part_ends s last added e (Syncing.DoesSyncStep.none x q r is) = tt
    part_ends s last added e (Syncing.DoesSyncStep.part x q r l is) = tt
    part_ends s last added e (Syncing.DoesSyncStep.ends x q r l is) = tt
    part_ends s last added e (Syncing.DoesSyncStep.stays count x q c) = tt

    unmark_ends : (s : State) (added : List Rec) (e : End) → Unmarks p s added e → EndsSo e
    unmark_ends s added e (Syncing.Unmarks.unmarks m x is) = tt
    unmark_ends s added e (Syncing.Unmarks.stays count m x c) = tt
    unmark_ends s added e (Syncing.Unmarks.stops count m x o c is) = tt
    unmark_ends s added e (Syncing.Unmarks.exhausted m x is) = tt

    clean_ends : (s : State) (added : List Rec) (e : End) → DoesCleanSync p s added e → EndsSo e
    clean_ends s added e (Syncing.DoesCleanSync.moving x q f is) = tt
    clean_ends s added e (Syncing.DoesCleanSync.runs serial x q f r is) = tt
    clean_ends s added e (Syncing.DoesCleanSync.syncs x q f r n is) = tt
    clean_ends s added e (Syncing.DoesCleanSync.stops count x q f r n c is) = tt
    clean_ends s added e (Syncing.DoesCleanSync.exhausted x q f r n is) = tt

    behind_ends : (e : End) → EndsSo e → EndsSo (stays_behind e)
    behind_ends Stays h = tt
    behind_ends Done h = tt
    behind_ends (Fails reason) h = h

    room_ends : (s : State) (bytes : ℕ) (added : List Rec) (e : End) → Legal.MakesRoom p s bytes added e → EndsSo e
    room_ends s bytes added e (Legal.MakesRoom.flushes r m) = tt
    room_ends s bytes added e (Legal.MakesRoom.stops count r m) = tt
    room_ends s bytes added e (Legal.MakesRoom.exhausted r x is) = tt
    room_ends s bytes added e (Legal.MakesRoom.syncs f r d same) = subst EndsSo (sym same) (behind_ends f (sync_ends Syncing.WhereDue s added f d))

    given_ends : (b : Bool) → EndsSo (cond b Stays Done)
    given_ends true = tt
    given_ends false = tt

    group : (s : State) (i : Intent) (added : List Rec) (e : End) → u ≡ after_all s added → FinishesOnly i → Does p s i added e → EndsSo e
    group s Flush added e same own (Legal.DoesFlush.empty q f is) = tt
    group s Flush added e same own (Legal.DoesFlush.flushes m) = tt
    group s Flush added e same own (Legal.DoesFlush.stops count m) = tt
    group s Flush added e same own (Legal.DoesFlush.exhausted q f x is) = tt
    group s Flush added e same own (Legal.DoesFlush.syncs d) = sync_ends Syncing.WhereDue s added e d
    group s Sync added e same own d = sync_ends Syncing.AtOnce s added e d
    group s SyncBegin added e same own d = sync_ends Syncing.InParts s added e d
    group s (SyncStep last) added e same own d = part_ends s last added e d
    group s Drain added e same own (Legal.DoesDrain.still_open x q o is) = tt
    group s Drain added e same own (Legal.DoesDrain.empty x q o f is) = tt
    group s Drain added e same own (Legal.DoesDrain.stays count x q o f c) = tt
    group s Drain added e same own (Legal.DoesDrain.syncs o f d) = sync_ends Syncing.AtOnce s added e d
    group s CleanSync added e same own d = clean_ends s added e d
    group s (Write actor key request response pin) added e same own (Legal.DoesWrite.opens m) = tt
    group s (Write actor key request response pin) added e same own (Legal.DoesWrite.many q m is) = tt
    group s (Write actor key request response pin) added e same own (Legal.DoesWrite.exhausted q f x is) = tt
    group s (Fragment n index payload) added e same own (Legal.DoesFragment.unmarks w x h u) = unmark_ends s added e u
    group s (Fragment n index payload) added e same own (Legal.DoesFragment.places d m) = subst EndsSo (sym d) tt
    group s (Fragment n index payload) added e same own (Legal.DoesFragment.rooms w x r) = room_ends s (length payload) added e r
    group s (Fragment n index payload) added e same own (Legal.DoesFragment.exhausted w d x h) = subst EndsSo (sym d) tt
    group s (Overflow n) added e same own (Legal.DoesOverflow.aborts w x c is) = tt
    group s (Weigh n rest) added e same own (Legal.DoesWeigh.weighs w x r f is) = tt
    group s (Weigh n rest) added e same own (Legal.DoesWeigh.too_large w x r f is) = tt
    group s (Weigh n rest) added e same own (Legal.DoesWeigh.damaged w row found x l d is) = tt
    group s (Weigh n rest) added e same own (Legal.DoesWeigh.faulted w row count x l g c is) = tt
    group s (Finish n fragments) added e same own (Legal.DoesFinish.unmarks w x l h u) = unmark_ends s added e u
    group s (Finish n fragments) added e same own (Legal.DoesFinish.places d m) = subst EndsSo (sym d) tt
    group s (Finish n fragments) added e same own (Legal.DoesFinish.rooms w x r) = room_ends s _ added e r
    group s (Finish n fragments) added e same own (Legal.DoesFinish.loses w index d m is) = subst EndsSo (sym d) (own, subst (λ (t : State). LostIn t n index) (sym (same ∙ ap (after_all s) is)) (aborted_in s w.put w.key n index (had_lost s n fragments index w m)))
    group s (Finish n fragments) added e same own (Legal.DoesFinish.exhausted w d x l h) = subst EndsSo (sym d) tt
    group s (Commit n) added e same own (Legal.DoesCommit.commits w f o q is) = tt
    group s (GiveUp n) added e same own (Legal.DoesGiveUp.aborts w x is) = tt
    group s (GiveUp n) added e same own (Legal.DoesGiveUp.over q o is) = tt
    group s (Remove key) added e same own (Legal.DoesRemove.removes row q l is) = tt
    group s (Remove key) added e same own (Legal.DoesRemove.absent q l is) = tt
    group s (Look actor key request) added e same own (Legal.DoesLook.looks m) = tt
    group s (ReadOn reader) added e same own (Legal.DoesReadOn.reads_on a m) = tt
    group s (ReadAll reader) added e same own (Legal.DoesReadAll.reads_on a h m d) = subst EndsSo (sym d) (given_ends (is_given a))
    group s (ReadAll reader) added e same own (Legal.DoesReadAll.has_none q h is d) = subst EndsSo (sym d) tt
    group s (StopReading reader) added e same own (Legal.DoesStopReading.closes r q l is) = tt
    group s (StopReading reader) added e same own (Legal.DoesStopReading.closed q l is) = tt

  -- ---- a whole step

  filter_by : (i : Intent) (intents : List Intent) (b : Bool) → FinishesOnly i → AllFinish intents → AllFinish (cond b (i ∷ intents) intents)
  filter_by i intents true first rest = (first, rest)
  filter_by i intents false first rest = rest

  filtered : (intents : List Intent) → AllFinish intents → AllFinish (filter is_cleanup intents)
  filtered [] all = tt
  filtered (i ∷ intents) all = filter_by i (filter is_cleanup intents) (is_cleanup i) all.0 (filtered intents all.1)

  clean_by : (i : Intent) (intents : List Intent) (b : Bool) → is_cleanup i ≡ b → AllByRecursion Cleans intents → AllByRecursion Cleans (cond b (i ∷ intents) intents)
  clean_by i intents true e rest = (e, rest)
  clean_by i intents false e rest = rest

  cleaned : (intents : List Intent) → AllByRecursion Cleans (filter is_cleanup intents)
  cleaned [] = tt
  cleaned (i ∷ intents) = clean_by i (filter is_cleanup intents) (is_cleanup i) refl (cleaned intents)

  -- what is cleaned up is done, and what was lost stays so
  record IsCleaned (s : State) (added : List Rec) (e : End) : Type 0 where
    done : e ≡ Done
    stays : (n index : ℕ) → LostIn s n index → LostIn (after_all s added) n index

  cleans : (p : Permit) (s : State) (i : Intent) (added : List Rec) (e : End) → is_cleanup i ≡ true → Does p s i added e → IsCleaned s added e
  cleans p s (GiveUp n) added e k (Legal.DoesGiveUp.aborts w x is) =
      record { done = refl; stays = λ m index lost. subst (λ recs. LostIn (after_all s recs) m index) (sym is) (aborted_in s w.put w.key m index lost) }
  cleans p s (GiveUp n) added e k (Legal.DoesGiveUp.over q o is) = record { done = refl; stays = λ m index lost. subst (λ recs. LostIn (after_all s recs) m index) (sym is) lost }
  cleans p s (StopReading reader) added e k (Legal.DoesStopReading.closes r q l is) =
      record { done = refl; stays = λ m index lost. subst (λ recs. LostIn (after_all s recs) m index) (sym is) (closed_in s reader m index lost) }
  cleans p s (StopReading reader) added e k (Legal.DoesStopReading.closed q l is) = record { done = refl; stays = λ m index lost. subst (λ recs. LostIn (after_all s recs) m index) (sym is) lost }
  cleans p s _ added e k d = no_truth (sym k)

  reason_stays : (s t : State) (reason : Reason) → ((n index : ℕ) → LostIn s n index → LostIn t n index) → LosesOnly s reason → LosesOnly t reason
  reason_stays s t (Lost n index) stays h = (h.0, stays n index h.1)
  reason_stays s t _ stays h = tt

  record WorksSo (t : State) (w : Work) : Type 0 where
    finish : AllFinish w.intents
    refusal : RefusedSo t w.refused
    clean : OnlyCleans w.refused w.intents

  left_so : (t : State) (i : Intent) (rest : List Intent) (e : End) → FinishesOnly i → AllFinish rest → EndsIn t e → WorksSo t (work_after i rest None e)
  left_so t i rest Stays first all ends = record { finish = (first, all); refusal = tt; clean = tt }
  left_so t i rest Done first all ends = record { finish = all; refusal = tt; clean = tt }
  left_so t i rest (Fails reason) first all ends = record { finish = filtered rest all; refusal = ends; clean = cleaned rest }

  advanced : (p : Permit) (s : State) (intents : List Intent) (why : Option Reason) (added : List Rec) (after : Work) → AllFinish intents → RefusedSo s why → OnlyCleans why intents
      → Advances p s intents why added after → WorksSo (after_all s added) after
  advanced p s [] why added after all r c one = absurd one
  advanced p s (i ∷ rest) None added after all r c one =
      subst (WorksSo (after_all s added)) (sym one.2) (left_so (after_all s added) i rest one.0 all.0 all.1 (group p (after_all s added) s i added one.0 refl all.0 one.1))
  advanced p s (i ∷ rest) (Some reason) added after all r c one =
      let clean : IsCleaned s added one.0 = cleans p s i added one.0 c.0 one.1 in
      let left : after ≡ record { intents = rest; refused = Some reason } = one.2 ∙ ap (work_after i rest (Some reason)) clean.done in
      subst (WorksSo (after_all s added)) (sym left) (record { finish = all.1; refusal = reason_stays s (after_all s added) reason clean.stays r; clean = c.1 })

  grown : {p : Permit} {s : State} {w after : Work} {recs : List Rec} → WorksSo s w → MayGrow p s w recs after → WorksSo (after_all s recs) after
  grown works nothing = works
  grown {p} {s} {w} {after} works (more {rest = tail} added between one others) =
      subst (λ (t : State). WorksSo t after) (sym (after_all-append s added tail))
      (grown (advanced p s w.intents w.refused added between works.finish works.refusal works.clean one) others)

  -- ---- what lines ask

  cut_by : (most fragment n cut : ℕ) (bytes : List ℕ) (b : Bool) → AllFinish (cut_intents most fragment n (cut + 1) (drop fragment bytes))
      → AllFinish (if b then Fragment n (cut + 1) (take fragment bytes) ∷ cut_intents most fragment n (cut + 1) (drop fragment bytes) else [])
  cut_by most fragment n cut bytes true rest = (tt, rest)
  cut_by most fragment n cut bytes false rest = tt

  over_by : (n : ℕ) (b : Bool) (intents : List Intent) → AllFinish intents → AllFinish (if b then Overflow n ∷ [] else intents)
  over_by n true intents all = (tt, tt)
  over_by n false intents all = all

  cuts_finish : (most fragment n cut : ℕ) (bytes : List ℕ) → AllFinish (cut_intents most fragment n cut bytes)
  cuts_finish zero fragment n cut bytes = tt
  cuts_finish (suc most) fragment n cut [] = tt
  cuts_finish (suc most) fragment n cut (byte ∷ bytes) =
      over_by n (cut == most_fragments) _ (cut_by most fragment n cut (byte ∷ bytes) (nat_le fragment (length (byte ∷ bytes))) (cuts_finish most fragment n (cut + 1) (drop fragment (byte ∷ bytes))))

  rest_finishes : (n cut : ℕ) (bytes : List ℕ) → AllFinish (rest_intents n cut bytes)
  rest_finishes n cut [] = tt
  rest_finishes n cut (byte ∷ bytes) = (tt, tt)

  close_finishes : (n cut : ℕ) (rest : List ℕ) → n ≡ put → AllFinish (close_intents n cut rest)
  close_finishes n cut rest same = (tt, all_append FinishesOnly (rest_intents n cut rest) _ (rest_finishes n cut rest) (same, (tt, tt)))

  put_finishes : (s : State) (key : Key) (body : List ℕ) (request response : List Field) → s.next_put ≡ put → AllFinish (put_intents s key body request response)
  put_finishes s key body request response same = (
    tt,
    all_append FinishesOnly _ (GiveUp s.next_put ∷ [])
        (all_append FinishesOnly (feed_intents s.geometry.fragment s.next_put 0 body) _ (cuts_finish (length body) s.geometry.fragment s.next_put 0 body) (close_finishes s.next_put _ _ same)) (tt, tt),
  )

  step_refused : (p : Permit) (s : State) (intents : List Intent) (added : List Rec) (why : Option Reason) → AllFinish intents → IsStep p s intents added why
      → RefusedSo (after_all s added) why
  step_refused p s intents added why all legal = (grown (record { finish = all; refusal = tt; clean = tt }) legal.grows).refusal

-- ---- what is answered

abbrev Answer : ℕ → Cause → Option ℕ → StepAnswer
Answer index why took = answer.Refused (refused.Lost index why) took

-- a fragment of this put is lost, for this cause
record LostOf (t : State) (o : Option Reason) (index : ℕ) (why : Cause) : Type 0 where
  put : ℕ
  reason : o ≡ Some (Lost put index)
  is : cause_of_lost t put index ≡ why

module _ (t : State) (index : ℕ) (why : Cause) (took : Option ℕ) where
  abbrev Says : StepAnswer → Type 0
  Says a = a ≡ Answer index why took

  by_reason : (tells : Option ℕ) (reason : Reason) → Says (refusal_said t tells reason) → LostOf t (Some reason) index why
  by_reason tells ManyWriters h = absurd cc
  by_reason tells Exhausted h = absurd cc
  by_reason tells (ManyFragments put) h = absurd cc
  by_reason tells (TooLarge put bytes) h = absurd cc
  by_reason tells (Lost put i) h =
      let first : i ≡ index = cc in
      let cause_is : cause_of_lost t put i ≡ why = cc in
      record { put = put; reason = ap (λ n. Some (Lost put n)) first; is = subst (λ n. cause_of_lost t put n ≡ why) first cause_is }
  by_reason tells (Faulted count) h = absurd cc
  by_reason tells (SyncRuns serial) h = absurd cc
  by_reason tells NoSync h = absurd cc
  by_reason tells (StillOpen writers readers) h = absurd cc
  by_reason tells (StillMoving blocks) h = absurd cc

  by_refusal : (tells : Option ℕ) (o : Option Reason) (whole : StepAnswer) → (Says whole → ⊥) → Says (said t tells o whole) → LostOf t o index why
  by_refusal tells None whole other h = absurd (other h)
  by_refusal tells (Some reason) whole other h = by_reason tells reason h

  miss_loses_none : (w : Cause) → Says (miss_said w) → ⊥
  miss_loses_none (cause.DeviceFault count) h = cc
  miss_loses_none _ h = cc

  broken_loses_none : (w : Cause) → Says (broken_said w) → ⊥
  broken_loses_none (cause.DeviceFault count) h = cc
  broken_loses_none _ h = cc

  look_loses_none : (reader : ℕ) (o : Option ReadAnswer) → Says (lookup_said t reader o) → ⊥
  look_loses_none reader None h = cc
  look_loses_none reader (Some (read.Hit put)) h = cc
  look_loses_none reader (Some (read.Follow put)) h = cc
  look_loses_none reader (Some (read.Miss w)) h = miss_loses_none w h

  next_loses_none : (given : List ℕ) (o : Option Rec) → Says (next_said given o) → ⊥
  next_loses_none given None h = cc
  next_loses_none given (Some (rec.Gave reader i size)) h = cc
  next_loses_none given (Some (rec.Ended reader size)) h = cc
  next_loses_none given (Some (rec.Waited reader cut)) h = cc
  next_loses_none given (Some (rec.Broke reader w)) h = broken_loses_none w h
  next_loses_none given (Some _) h = cc

  end_loses_none : (put : ℕ) (given : List ℕ) (o : Option Rec) → Says (end_said put given o) → ⊥
  end_loses_none put given None h = cc
  end_loses_none put given (Some (rec.Ended reader size)) h = cc
  end_loses_none put given (Some (rec.Broke reader w)) h = broken_loses_none w h
  end_loses_none put given (Some _) h = cc

  get_loses_none : (given : List ℕ) (told : Option Rec) (o : Option ReadAnswer) → Says (get_said given told o) → ⊥
  get_loses_none given told None h = cc
  get_loses_none given told (Some (read.Hit put)) h = end_loses_none put given told h
  get_loses_none given told (Some (read.Follow put)) h = cc
  get_loses_none given told (Some (read.Miss w)) h = miss_loses_none w h

  removal_loses_none : (s : State) (key : Key) (recs : List Rec) → Says (remove_said s key recs) → ⊥
  removal_loses_none s key [] h = cc
  removal_loses_none s key (rec.Removed put k ∷ recs) h = cc
  removal_loses_none s key (_ ∷ recs) h = cc

  tried_loses_none : (added : List Rec) (o : Option Reason) → Says (tried_said added o) → ⊥
  tried_loses_none added None h = cc
  tried_loses_none added (Some (Faulted count)) h = cc
  tried_loses_none added (Some _) h = cc

  format_loses_none : (turn : Turn) (bad : Option BadGeometry) → Says (format_said turn bad) → ⊥
  format_loses_none turn None h = tried_loses_none turn.added turn.refused h
  format_loses_none turn (Some bad) h = cc

  free_loses : (held : Option Holding) (a : StepAnswer) → Says (Answers.if_free held a) → Says a
  free_loses None a h = h
  free_loses (Some holding) a h = absurd cc

-- ---- lines

-- a line that is refused so
record LosesHere (run : Run) (turn : Turn) (asks : Step) (index : ℕ) (why : Cause) : Type 0 where
  s : State
  state : run.state ≡ Some s
  put : ℕ
  closes : AsksToClose run s put asks
  is : cause_of_lost (after_all s turn.added) put index ≡ why
  lost : LostIn (after_all s turn.added) put index
  kept : AllByRecursion (IsKept turn.device) turn.added

-- no line loses a fragment of each put
two_puts : (put : ℕ) → put ≡ put + 1 → ⊥
two_puts put h = omega (arith, h)

module _ (run : Run) (turn : Turn) (index : ℕ) (why : Cause) (took : Option ℕ) where
  abbrev SaysSo : StepAnswer → Type 0
  SaysSo a = a ≡ Answer index why took

  -- the fragment is of the put that the step may end
  same_put : (s : State) (intents : List Intent) (n : ℕ) (h : LostOf (after_all s turn.added) turn.refused index why) → AllFinish n intents → IsStep turn.device s intents turn.added turn.refused
      → (h.put ≡ n) × LostIn (after_all s turn.added) h.put index
  same_put s intents n h all legal = subst (RefusedSo n (after_all s turn.added)) h.reason (step_refused n turn.device s intents turn.added turn.refused all legal)

  none_ends : (s : State) (intents : List Intent) → LostOf (after_all s turn.added) turn.refused index why → ((n : ℕ) → AllFinish n intents) → IsStep turn.device s intents turn.added turn.refused → ⊥
  none_ends s intents h all legal = two_puts h.put (same_put s intents (h.put + 1) h (all (h.put + 1)) legal).0

  put_loses : (s : State) (key : Key) (body : List ℕ) (request response : List Field) → run.state ≡ Some s → IsStep turn.device s (put_intents s key body request response) turn.added turn.refused
      → SaysSo (said (after_all s turn.added) None turn.refused (put_said (after_all s turn.added) s.next_put)) → LosesHere run turn (step.Put key body request response) index why
  put_loses s key body request response e legal h =
      let t : State = after_all s turn.added in
      let lost : LostOf t turn.refused index why = by_refusal t index why took None turn.refused (put_said t s.next_put) (λ x. cc) h in
      let found = same_put s _ s.next_put lost (put_finishes s.next_put s key body request response refl) legal in
      record { s = s; state = e; put = lost.put; closes = Displacements.AsksToClose.puts key body request response (sym found.0); is = lost.is; lost = found.1; kept = (walked legal.grows).kept }

  close_loses : (s : State) (name : List ℕ) (o : Option ℕ) → run.state ≡ Some s → put_written_by run name ≡ o → IsStep turn.device s (Asked.asks_if_has o (Asked.closing run s)) turn.added turn.refused
      → SaysSo (Answers.if_has o (λ put. said (after_all s turn.added) None turn.refused (put_said (after_all s turn.added) put))) → LosesHere run turn (step.Close name) index why
  close_loses s name None e held legal h = absurd cc
  close_loses s name (Some n) e held legal h =
      let t : State = after_all s turn.added in
      let lost : LostOf t turn.refused index why = by_refusal t index why took None turn.refused (put_said t n) (λ x. cc) h in
      let found = same_put s _ n lost (close_finishes n n _ _ refl) legal in
      record { s = s; state = e; put = lost.put; closes = Displacements.AsksToClose.closes name (held ∙ ap (λ m. Some m) (sym found.0)); is = lost.is; lost = found.1; kept = (walked legal.grows).kept }

  feed_by : (s : State) (body : List ℕ) (n : ℕ) (b : Bool)
      → IsStep turn.device s (if b then [] else feed_intents s.geometry.fragment n (length (cuts_of s n)) (gathered_of run s n ++ body)) turn.added turn.refused
      → SaysSo (if b then answer.Refused refused.Sealed (Some 0) else said (after_all s turn.added) (Some (took_of run (after_all s turn.added) n)) turn.refused (answer.Took (length body))) → ⊥
  feed_by s body n true legal h = cc
  feed_by s body n false legal h =
      none_ends s _ (by_refusal (after_all s turn.added) index why took (Some (took_of run (after_all s turn.added) n)) turn.refused (answer.Took (length body)) (λ x. cc) h)
      (λ m. cuts_finish m (length (gathered_of run s n ++ body)) s.geometry.fragment n (length (cuts_of s n)) (gathered_of run s n ++ body)) legal

  feed_loses : (s : State) (body : List ℕ) (o : Option ℕ) → IsStep turn.device s (Asked.asks_if_has o (Asked.feeding run s body)) turn.added turn.refused
      → SaysSo (Answers.if_has o (Answers.feed_said run (after_all s turn.added) body turn.refused)) → ⊥
  feed_loses s body None legal h = cc
  feed_loses s body (Some n) legal h = feed_by s body n (run.streams n).sealed legal h

  write_loses : (s : State) (actor : ℕ) (key : Key) (request response : List Field) (pin : ℕ) (held : Option Holding)
      → IsStep turn.device s (Asked.asks_if_free held (Write actor key request response pin ∷ [])) turn.added turn.refused
      → SaysSo (Answers.if_free held (said (after_all s turn.added) None turn.refused (answer.Writer s.next_put))) → ⊥
  write_loses s actor key request response pin None legal h =
      none_ends s _ (by_refusal (after_all s turn.added) index why took None turn.refused (answer.Writer s.next_put) (λ x. cc) h) (λ m. (tt, tt)) legal
  write_loses s actor key request response pin (Some holding) legal h = cc

  abort_loses : (o : Option ℕ) → SaysSo (Answers.if_has o answer.Aborted) → ⊥
  abort_loses None h = cc
  abort_loses (Some n) h = cc

  next_loses : (o : Option ℕ) (t : State) → SaysSo (Answers.if_has o (λ reader. next_said turn.given (told_in turn.added))) → ⊥
  next_loses None t h = cc
  next_loses (Some n) t h = next_loses_none t index why took turn.given (told_in turn.added) h

  done_loses : (o : Option ℕ) → SaysSo (Answers.if_has o (λ reader. answer.Done)) → ⊥
  done_loses None h = cc
  done_loses (Some n) h = cc

  switch_loses : (told : List Call) (x : StepAnswer) → (SaysSo x → ⊥) → SaysSo (Answers.switch_said told x) → ⊥
  switch_loses [] x other h = cc
  switch_loses (call ∷ told) x other h = other h

  state_loses : (asks : Step) (o : Option State) → run.state ≡ o → Takes run turn o asks → SaysSo (step_said run turn o asks) → LosesHere run turn asks index why
  state_loses (step.Format name segments buckets content agg reach fragment generation alternates) o e takes h =
      absurd (format_loses_none (after_all nothing_yet []) index why took turn (first_refusal segments buckets content agg reach fragment alternates) h)
  state_loses (step.Now at) o e takes h = absurd cc
  state_loses (step.Put key body request response) (Some s) e takes h = put_loses s key body request response e takes.legal h
  state_loses (step.Get key request) (Some s) e takes h = absurd (get_loses_none s index why took turn.given (told_in turn.added) (lookup_in turn.added) h)
  state_loses (step.OpenWrite actor key pin request response) (Some s) e takes h = absurd (write_loses s _ key request response pin (held_by run actor) takes.legal h)
  state_loses (step.Feed actor body) (Some s) e takes h = absurd (feed_loses s body (put_written_by run actor) takes.legal h)
  state_loses (step.Close actor) (Some s) e takes h = close_loses s actor (put_written_by run actor) e refl takes.legal h
  state_loses (step.Abort actor) (Some s) e takes h = absurd (abort_loses (put_written_by run actor) h)
  state_loses (step.OpenRead actor key request) (Some s) e takes h =
      absurd (look_loses_none (after_all s turn.added) index why took s.next_reader (lookup_in turn.added)
      (free_loses s index why took (held_by run actor) (lookup_said (after_all s turn.added) s.next_reader (lookup_in turn.added)) h))
  state_loses (step.Next actor) (Some s) e takes h = absurd (next_loses (reader_by run actor) s h)
  state_loses (step.Done actor) (Some s) e takes h = absurd (done_loses (reader_by run actor) h)
  state_loses (step.Remove key) (Some s) e takes h = absurd (removal_loses_none s index why took s key turn.added h)
  state_loses step.Flush (Some s) e takes h =
      absurd (none_ends s (Flush ∷ []) (by_refusal (after_all s turn.added) index why took None turn.refused _ (λ x. cc) h) (λ m. (tt, tt)) takes.legal)
  state_loses (step.Fail nth) (Some s) e takes h = absurd (switch_loses turn.told answer.Armed (λ x. cc) h)
  state_loses (step.StopAfter calls) (Some s) e takes h = absurd (switch_loses turn.told answer.Armed (λ x. cc) h)
  state_loses (step.Flip place byte) (Some s) e takes h = absurd (switch_loses turn.told answer.Flipped (λ x. cc) h)
  state_loses (step.Cut choice) (Some s) e takes h = absurd (switch_loses turn.told answer.Cut (λ x. cc) h)
  state_loses (step.Fail nth) None e takes h = absurd (switch_loses turn.told answer.Armed (λ x. cc) h)
  state_loses (step.StopAfter calls) None e takes h = absurd (switch_loses turn.told answer.Armed (λ x. cc) h)
  state_loses (step.Cut choice) None e takes h = absurd (switch_loses turn.told answer.Cut (λ x. cc) h)
  state_loses _ None e takes h = absurd takes

  loses_here : (asks : Step) → StepTakes run turn asks → Answer index why took ≡ step_answer run turn asks → LosesHere run turn asks index why
  loses_here asks takes said = state_loses asks run.state refl takes (sym said)

-- ---- the record

-- a record among these tells the loss
record ToldIn (loss : PieceId × Cause) (recs : List Rec) : Type 0 where
  told : Rec
  among : IsAmong told recs
  tells : TellsLoss loss told

lost_along : (loss : PieceId × Cause) (s : State) (recs : List Rec) → IsLost loss (after_all s recs) → IsLost loss s ⊎ ToldIn loss recs
lost_along loss s [] h = inl h
lost_along loss s (r ∷ recs) h = elim (lost_along loss (state_after s r) recs h) [
  | inr later ↦ inr (record { told = later.told; among = inr later.among; tells = later.tells })
  | inl now ↦ elim (lost_by loss s r now) [
    | inl old ↦ inl old
    | inr tells ↦ inr (record { told = r; among = inl refl; tells = tells })
  ]
]

-- the cause is that of the piece
cause_in : (t : State) (put index : ℕ) (why : Cause) (lost : LostIn t put index) → cause_of_lost t put index ≡ why → cause_of_piece t (fragment_piece lost.w.key put index) ≡ why
cause_in t put index why lost is =
    sym (ap (λ (o : Option PutRow). unwrap_or (option_map (λ (w : PutRow). cause_of_piece t (fragment_piece w.key put index)) o) cause.NeverPut) lost.found) ∙ is

pub lost_was_displaced : (l : RunLogs) (a : Account l) (lines : List (List ℕ)) (asks : Step) (index segment live : ℕ) (took : Option ℕ)
    → HistoryTells a lines asks (answer.Refused (refused.Lost index (cause.Displaced segment live)) took) → LostDisplaced a.turns lines asks index segment live
lost_was_displaced l a lines asks index segment live took at =
    let why : Cause = cause.Displaced segment live in
    let said : StepAnswer = Answer index why took in
    let f = told_line l a lines asks said at in
    let run : Run = run_after fresh lines f.earlier in
    let h : LosesHere run f.turn asks index why = loses_here run f.turn index why took asks f.takes f.is in
    let t : State = after_all h.s f.turn.added in
    let id : PieceId = fragment_piece h.lost.w.key h.put index in
    let lost : IsLost (id, why) t = by_loss t h.lost.w.key segment live id (cause_of_loss t id) refl (cause_in t h.put index why h.lost h.is) in
    let told : WasRecorded a.turns lines (rec.Displaced id segment live) =
    elim (lost_along (id, why) h.s f.turn.added lost) [
      | inl old ↦ by_lost l a lines asks said segment live f h.s id h.state old
      | inr now ↦ by_line l a lines asks said segment live f id (subst (λ (r : Rec). IsAmong r f.turn.added) (displaced_by now.told id segment live now.tells) now.among)
    ] in
    record {
      at = record { did = did_before l a lines asks said f; s = h.s; state = h.state; put = h.put; closes = h.closes; w = h.lost.w; found = h.lost.found };
      told = told;
    }

pub losses_are_caused : (l : RunLogs) (a : Account l) (lines : List (List ℕ)) (asks : Step) (index : ℕ) (why : Cause) (took : Option ℕ)
    → HistoryTells a lines asks (answer.Refused (refused.Lost index why) took) → LossIsCaused a.turns lines asks index why
losses_are_caused l a lines asks index why took at =
    let said : StepAnswer = Answer index why took in
    let f = told_line l a lines asks said at in
    let run : Run = run_after fresh lines f.earlier in
    let h : LosesHere run f.turn asks index why = loses_here run f.turn index why took asks f.takes f.is in
    let t : State = after_all h.s f.turn.added in
    let whole : IsWhole t = whole_along f.turn.device h.s f.turn.added h.kept (whole_here lines f.earlier h.s f.legal h.state) in
    record {
      at = record { did = did_before l a lines asks said f; s = h.s; state = h.state; put = h.put; closes = h.closes; w = h.lost.w; found = h.lost.found };
      some = h.lost.some;
      within = h.lost.within;
      before = h.lost.before;
      missing = missing_for t whole (fragment_piece h.lost.w.key h.put index) why h.lost.dead (cause_in t h.put index why h.lost h.is);
    }
