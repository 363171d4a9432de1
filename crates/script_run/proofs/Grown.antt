-- Each group of records leaves what stands that of what writers took, where the fragments that are cut
-- are those of that, or a copy shows two documents of one SHA-256.
use Rattle.std.proofs.Common.{◌≡◌, ℕ, ◌≤◌, List, [], ◌∷◌, ◌++◌, length, refl, sym, subst, arith, inl, inr, ◌⊎◌, Bool, true, false}
use Rattle.std.specs.Prelude.{Option, cond, filter}
use Rattle.std.specs.List.{AllByRecursion}
use Rattle.tape_base.specs.declared.geometries.Geometry.{Geometry}
use Rattle.tape_base.specs.Geometry.{budget_of}
use Rattle.fragment_table.specs.Table.{TableRow, total_length}
use Rattle.alternate_vector.specs.Field.{Field}
use Rattle.tape_base.specs.declared.keys.Key.{Key}
use Rattle.cache_model.specs.declared.answer.NextAnswer.{NextAnswer}
use Rattle.cache_model.specs.declared.answer.NextAnswer.TheVariants as next
use Rattle.cache_model.specs.declared.answer.ReadAnswer.{ReadAnswer}
use Rattle.cache_model.specs.declared.cause.Cause.{Cause}
use Rattle.cache_model.specs.declared.record.Rec.{Rec}
use Rattle.cache_model.specs.declared.record.Rec.TheVariants as rec
use Rattle.cache_model.specs.State.{State, Row, PutRow, ReaderRow, after_all, list_of_piece, state_after, vector_piece}
use Rattle.cache_model.specs.ToRead.{flushes_first}
use Rattle.cache_model.specs.Pair.{IsCopyPair, IsPair, IsPairNext, ShowsFrom}
use Rattle.cache_model.specs.Room.{has_room}
use Rattle.cache_model.specs.Permit.{Permit, Intent, Flush, Sync, SyncBegin, SyncStep, Drain, CleanSync, Write, Fragment, Overflow, Weigh, Finish, Commit, GiveUp, Remove, Look, ReadOn, ReadAll, StopReading, End, Stays, Done, Fails, Work, Reason, is_cleanup, work_after}
use Rattle.cache_model.specs.Given
use Rattle.cache_model.specs.Legal
use Rattle.cache_model.specs.Legal.{Advances, Does, MayGrow, nothing, more, IsWriting, aborted_record, answer_record}
use Rattle.cache_model.specs.Due.{due_pieces}
use Rattle.cache_model.specs.Syncing.{AtOnce, InParts, MaySyncBehind, Syncing, WhereDue}
use Rattle.cache_model.specs.Tape.{IsSound}
use Rattle.cache_model.proofs.Onward.{later_advanced}
use Rattle.cache_model.proofs.Sound.{IsLater}
use Rattle.cache_model.proofs.Steps.{after_all-append, all_append, all_as}
use Rattle.cache_model.proofs.Syncing.{flush_among_syncs}
use Rattle.step_laws.proofs.ToldFlush.{as_shown, go_on}
use Rattle.step_laws.proofs.ToldGroups.{pair_of_copy, shown_first, shown_later}
use Rattle.step_laws.proofs.Unsynced.{may_flush}
use Rattle.script_run.specs.Run.{Stream}
use Rattle.script_run.specs.Own.{rows_of_parts}
use Rattle.script_run.proofs.Saying.{Kind}
use Rattle.script_run.proofs.Carried.{same_carries}
use Rattle.script_run.proofs.Flushing.{held_flushed, held_stopped}
use Rattle.script_run.proofs.Held.{IsHeld, IsPlain, held_aborted, held_plain, held_resynced}
use Rattle.script_run.proofs.Opened.{held_opened, held_read_opened, verdict_own}
use Rattle.script_run.proofs.Placed.{IsPiece, held_committed, held_fragment, held_vector}
use Rattle.script_run.proofs.Synced.{AllSyncing, IsSyncing, clean_syncing, drain_parts, step_syncing, sync_parts, unmark_syncing}

-- ---- what is asked fits what writers took

-- a fragment is that of its index, and a vector is placed once all is cut
abbrev pub Fits : ℕ → (ℕ → Stream) → Intent → Type 0
Fits fragment streams (Fragment put index payload) = IsPiece fragment streams put index payload
Fits fragment streams (Finish put fragments) = total_length (rows_of_parts fragment (streams put).bytes 1 fragments) ≡ length (streams put).bytes
Fits fragment streams _ = Unit {0}

-- a fragment that is cut has no more bytes than it may have
abbrev pub IsSmall : ℕ → Intent → Type 0
IsSmall fragment (Fragment put index payload) = length payload ≤ fragment
IsSmall fragment _ = Unit {0}

-- all that is asked fits, as far as it comes to it
abbrev pub AllFit : ℕ → (ℕ → Stream) → List Intent → Type 0
AllFit fragment streams [] = Unit {0}
AllFit fragment streams (i ∷ is) = IsSmall fragment i → Fits fragment streams i × AllFit fragment streams is

cleanup_fits : (fragment : ℕ) (streams : ℕ → Stream) (i : Intent) → is_cleanup i ≡ true → Fits fragment streams i
cleanup_fits fragment streams (Fragment put index payload) e = absurd cc
cleanup_fits fragment streams (Finish put fragments) e = absurd cc
cleanup_fits fragment streams _ e = tt

cleanups_by : (fragment : ℕ) (streams : ℕ → Stream) (i : Intent) (is : List Intent) (b : Bool) → is_cleanup i ≡ b → AllFit fragment streams is → AllFit fragment streams (cond b (i ∷ is) is)
cleanups_by fragment streams i is true e fits = λ small. (cleanup_fits fragment streams i e, fits)
cleanups_by fragment streams i is false e fits = fits

-- what a refusal leaves fits
cleanups_fit : (fragment : ℕ) (streams : ℕ → Stream) (is : List Intent) → AllFit fragment streams (filter is_cleanup is)
cleanups_fit fragment streams [] = tt
cleanups_fit fragment streams (i ∷ is) = cleanups_by fragment streams i (filter is_cleanup is) (is_cleanup i) refl (cleanups_fit fragment streams is)

-- ---- groups

syncing_plain : (r : Rec) → IsSyncing r → IsPlain r
syncing_plain (rec.SyncBegun serial cursor clean in_parts) h = tt
syncing_plain (rec.SyncDone serial) h = tt
syncing_plain (rec.Damaged piece place kept found) h = tt
syncing_plain (rec.Fault count) h = tt
syncing_plain _ h = absurd h

module _ (kind : Kind) (g : Geometry) (streams : ℕ → Stream) where
  -- what a group of records leaves: it is held still, or a copy that it makes shows two documents of one
  -- SHA-256
  abbrev pub Leaves : Permit → State → Intent → List Rec → Type 0
  Leaves p s i added = IsHeld kind g streams (after_all s added) ⊎ IsPair (kind.documents streams) p s i

  abbrev Flushes : Permit → State → List Rec → Type 0
  Flushes p s added = IsHeld kind g streams (after_all s added) ⊎ IsCopyPair (kind.documents streams) p s p.now (budget_of s.geometry)

  -- records that change no put
  abbrev AllPlain : List Rec → Type 0
  AllPlain recs = AllByRecursion IsPlain recs

  plain : (s : State) (recs : List Rec) → AllPlain recs → IsHeld kind g streams s → IsHeld kind g streams (after_all s recs)
  plain s [] p h = h
  plain s (r ∷ recs) p h = plain (state_after s r) recs p.1 (held_plain kind g streams s r p.0 h)

  adds : (s : State) (added other : List Rec) → added ≡ other → AllPlain other → IsHeld kind g streams s → IsHeld kind g streams (after_all s added)
  adds s added other is p h = plain s added (subst AllPlain (sym is) p) h

  aborts : (s : State) (put : ℕ) (w : PutRow) (added : List Rec) → added ≡ aborted_record w ∷ [] → IsWriting s put w → IsHeld kind g streams s → IsHeld kind g streams (after_all s added)
  aborts s put w added is writing h = subst (λ xs. IsHeld kind g streams (after_all s xs)) (sym is) (held_aborted kind g streams s put w writing h)

  flushes : (p : Permit) (s : State) (added : List Rec) → Legal.MayFlush p s added → IsSound s → IsHeld kind g streams s → Flushes p s added
  flushes p s added m sound h = subst (Flushes p s) (sym m.is) (held_flushed kind g streams p s p.now (budget_of s.geometry) m.outcomes sound h m.are)

  stops : (p : Permit) (s : State) (count : ℕ) (added : List Rec) → Legal.MayStop p s count added → IsHeld kind g streams s → IsHeld kind g streams (after_all s added)
  stops p s count added m h = subst (λ xs. IsHeld kind g streams (after_all s xs)) (sym m.is) (held_stopped kind g streams s (due_pieces s p.now) m.outcomes count h)

  -- a flush among syncs
  synced : (p : Permit) (k : Syncing) (s : State) (added : List Rec) → MaySyncBehind p k s added → IsSound s → IsHeld kind g streams s → Flushes p s added
  synced p k s added m sound h =
      let all = flush_among_syncs p k s added m in
      go_on (held_flushed kind g streams p s p.now (budget_of s.geometry) m.outcomes sound h m.are)
      (λ last. inl (subst (IsHeld kind g streams) (sym all.1) (held_resynced kind g streams all.0 _ last)))

  -- what stops one, or has no buffer to write out
  beside : (s : State) (added : List Rec) → AllSyncing added → IsHeld kind g streams s → IsHeld kind g streams (after_all s added)
  beside s added h held = plain s added (all_as IsSyncing IsPlain syncing_plain added h) held

  parts : (p : Permit) (k : Syncing) (s : State) (i : Intent) (added : List Rec) → flushes_first s i ≡ true → MaySyncBehind p k s added ⊎ AllSyncing added → IsSound s → IsHeld kind g streams s → Leaves p s i added
  parts p k s i added first (inl m) sound h = as_shown (pair_of_copy (kind.documents streams) p s i first (may_flush m)) (synced p k s added m sound h)
  parts p k s i added first (inr stops) sound h = inl (beside s added stops h)

  roomed : (p : Permit) (s : State) (i : Intent) (bytes : ℕ) (added : List Rec) (e : End) → (has_room s bytes ≡ false → flushes_first s i ≡ true) → Legal.MakesRoom p s bytes added e → IsSound s → IsHeld kind g streams s
      → Leaves p s i added
  roomed p s i bytes added e first (Legal.MakesRoom.flushes x m) sound h = as_shown (pair_of_copy (kind.documents streams) p s i (first x) m.can) (flushes p s added m sound h)
  roomed p s i bytes added e first (Legal.MakesRoom.stops count x m) sound h = inl (stops p s count added m h)
  roomed p s i bytes added e first (Legal.MakesRoom.exhausted x q is) sound h = inl (adds s added [] is tt h)
  roomed p s i bytes added e first (Legal.MakesRoom.syncs end x d is) sound h = parts p WhereDue s i added (first x) (sync_parts p WhereDue s added end d) sound h

  opens : (s : State) (actor : ℕ) (key : Key) (request response : List Field) (pin : ℕ) (added : List Rec) → Legal.MayOpenWrite s actor key request response pin added → IsHeld kind g streams s → IsHeld kind g streams (after_all s added)
  opens s actor key request response pin added m h =
      subst (λ xs. IsHeld kind g streams (after_all s xs)) (sym m.is) (held_opened kind g streams s m.who key request response pin m.quiet h)

  -- ---- readers

  trouble_plain : (p : Permit) (s : State) (row : Row) (before : List Rec) (why : Cause) → Given.Trouble p s row before why → AllPlain before
  trouble_plain p s row before why (Given.Trouble.faulted count w m) = (tt, tt)
  trouble_plain p s row before why (Given.Trouble.damaged found d) = (tt, tt)

  looked : (p : Permit) (s : State) (actor : ℕ) (key : Key) (request : List Field) (added : List Rec) (m : Legal.MayLook p s actor key request added) (before : List Rec) (answer : ReadAnswer)
      → Legal.IsLookup p s key request before answer → IsHeld kind g streams s → IsHeld kind g streams (after_all s (before ++ rec.ReadOpened s.next_reader m.who key request answer ∷ []))
  looked p s actor key request added m before answer (Legal.IsLookup.verdict r) h =
      let t : State = state_after s (rec.ReadOpened s.next_reader m.who key request answer) in
      held_read_opened kind g streams s m.who key request answer (verdict_own kind s t streams m.who.0 key request (omega arith) (same_carries s t refl refl refl) h.stands) h
  looked p s actor key request added m before answer (Legal.IsLookup.trouble row b why live trouble) h =
      let t : State = after_all s before in
      let same : t.next_reader ≡ s.next_reader = trouble_reader trouble in
      subst (IsHeld kind g streams) (sym (after_all-append s before (rec.ReadOpened s.next_reader m.who key request answer ∷ [])))
      (subst (λ n. IsHeld kind g streams (state_after t (rec.ReadOpened n m.who key request answer))) same
      (held_read_opened kind g streams t m.who key request answer tt (plain s before (trouble_plain p s row before why trouble) h)))
    where
      trouble_reader : {row : Row} {before : List Rec} {why : Cause} → Given.Trouble p s row before why → (after_all s before).next_reader ≡ s.next_reader
      trouble_reader (Given.Trouble.faulted count w m) = refl
      trouble_reader (Given.Trouble.damaged found d) = refl

  fragment_plain : (p : Permit) (s : State) (row : Row) (entry : TableRow) (before : List Rec) (why : Cause) → Legal.ReadTrouble p s row entry before why → AllPlain before
  fragment_plain p s row entry before why (Legal.ReadTrouble.troubled b c t) = trouble_plain p s row before why t
  fragment_plain p s row entry before why (Legal.ReadTrouble.mismatched found read unlike) = (tt, tt)

  reading_plain : (p : Permit) (s : State) (r : ReaderRow) (before : List Rec) (answer : NextAnswer) → Legal.IsReading p s r before answer → AllPlain before
  reading_plain p s r before answer (Legal.IsReading.verdict x listed) = tt
  reading_plain p s r before answer (Legal.IsReading.trouble entry row b why n live t) = fragment_plain p s row entry before why t

  answer_plain : (reader : ℕ) (answer : NextAnswer) → IsPlain (answer_record reader answer)
  answer_plain reader (next.Gave index length) = tt
  answer_plain reader (next.Ended length) = tt
  answer_plain reader (next.Waited cut) = tt
  answer_plain reader (next.Broke why) = tt

  reads : (p : Permit) (s : State) (reader : ℕ) (answer : NextAnswer) (added : List Rec) → Legal.MayReadOn p s reader answer added → IsHeld kind g streams s → IsHeld kind g streams (after_all s added)
  reads p s reader answer added m h = adds s added _ m.is (all_append IsPlain m.before _ (reading_plain p s m.r m.before answer m.right) (answer_plain reader answer, tt)) h

  -- ---- each group

  -- a writer that opens
  pub held_write : (p : Permit) (s : State) (actor : ℕ) (key : Key) (request response : List Field) (pin : ℕ) (added : List Rec) (e : End) → IsHeld kind g streams s
      → Does p s (Write actor key request response pin) added e → IsHeld kind g streams (after_all s added)
  held_write p s actor key request response pin added e h (Legal.DoesWrite.opens m) = opens s actor key request response pin added m h
  held_write p s actor key request response pin added e h (Legal.DoesWrite.many q m is) = adds s added [] is tt h
  held_write p s actor key request response pin added e h (Legal.DoesWrite.exhausted q m l is) = adds s added [] is tt h

  pub held_group : (p : Permit) (s : State) (i : Intent) (added : List Rec) (e : End) → Fits g.fragment streams i → IsSound s → IsHeld kind g streams s → Does p s i added e → Leaves p s i added
  held_group p s Flush added e fits sound h (Legal.DoesFlush.empty q f is) = inl (adds s added [] is tt h)
  held_group p s Flush added e fits sound h (Legal.DoesFlush.flushes m) = as_shown (pair_of_copy (kind.documents streams) p s Flush refl m.can) (flushes p s added m sound h)
  held_group p s Flush added e fits sound h (Legal.DoesFlush.stops count m) = inl (stops p s count added m h)
  held_group p s Flush added e fits sound h (Legal.DoesFlush.exhausted q f b is) = inl (adds s added [] is tt h)
  held_group p s Flush added e fits sound h (Legal.DoesFlush.syncs d) = parts p WhereDue s Flush added refl (sync_parts p WhereDue s added e d) sound h
  held_group p s Sync added e fits sound h d = parts p AtOnce s Sync added refl (sync_parts p AtOnce s added e d) sound h
  held_group p s SyncBegin added e fits sound h d = parts p InParts s SyncBegin added refl (sync_parts p InParts s added e d) sound h
  held_group p s (SyncStep last) added e fits sound h d = inl (beside s added (step_syncing p s last added e d) h)
  held_group p s Drain added e fits sound h d = parts p AtOnce s Drain added refl (drain_parts p s added e d) sound h
  held_group p s CleanSync added e fits sound h d = inl (beside s added (clean_syncing p s added e d) h)
  held_group p s (Write actor key request response pin) added e fits sound h does = inl (held_write p s actor key request response pin added e h does)
  held_group p s (Fragment put index payload) added e fits sound h (Legal.DoesFragment.places d m) = inl (held_fragment kind g streams p s put index payload added fits m h)
  held_group p s (Fragment put index payload) added e fits sound h (Legal.DoesFragment.unmarks w n q u) = inl (beside s added (unmark_syncing p s added e u) h)
  held_group p s (Fragment put index payload) added e fits sound h (Legal.DoesFragment.rooms w n m) = roomed p s (Fragment put index payload) _ added e (λ none. rw none refl) m sound h
  held_group p s (Fragment put index payload) added e fits sound h (Legal.DoesFragment.exhausted w x n q) = inl (adds s added [] q.is tt h)
  held_group p s (Overflow put) added e fits sound h (Legal.DoesOverflow.aborts w q l is) = inl (aborts s put w added is q h)
  held_group p s (Weigh put rest) added e fits sound h (Legal.DoesWeigh.weighs w q r f is) = inl (adds s added [] is tt h)
  held_group p s (Weigh put rest) added e fits sound h (Legal.DoesWeigh.too_large w q r f is) = inl (aborts s put w added is q h)
  held_group p s (Weigh put rest) added e fits sound h (Legal.DoesWeigh.damaged w row found q live d is) = inl (adds s added _ is (tt, tt) h)
  held_group p s (Weigh put rest) added e fits sound h (Legal.DoesWeigh.faulted w row count q live r m is) = inl (adds s added _ is (tt, tt) h)
  held_group p s (Finish put fragments) added e fits sound h (Legal.DoesFinish.places d m) = inl (held_vector kind g streams p s put fragments added fits m h)
  held_group p s (Finish put fragments) added e fits sound h (Legal.DoesFinish.unmarks w c l q u) = inl (beside s added (unmark_syncing p s added e u) h)
  held_group p s (Finish put fragments) added e fits sound h (Legal.DoesFinish.rooms w c m) = roomed p s (Finish put fragments) _ added e (λ none. rw none refl) m sound h
  held_group p s (Finish put fragments) added e fits sound h (Legal.DoesFinish.exhausted w x c l q) = inl (adds s added [] q.is tt h)
  held_group p s (Finish put fragments) added e fits sound h (Legal.DoesFinish.loses w index d m is) = inl (aborts s put w added is m.cut.writing h)
  held_group p s (Commit put) added e fits sound h (Legal.DoesCommit.commits w f o q is) =
      inl (subst (λ xs. IsHeld kind g streams (after_all s xs)) (sym is) (held_committed kind g streams s put (total_length w.cuts) (list_of_piece s (vector_piece w.key put)) w f q h))
  held_group p s (GiveUp put) added e fits sound h (Legal.DoesGiveUp.aborts w q is) = inl (aborts s put w added is q h)
  held_group p s (GiveUp put) added e fits sound h (Legal.DoesGiveUp.over q o is) = inl (adds s added [] is tt h)
  held_group p s (Remove key) added e fits sound h (Legal.DoesRemove.removes row q l is) = inl (adds s added _ is (tt, tt) h)
  held_group p s (Remove key) added e fits sound h (Legal.DoesRemove.absent q l is) = inl (adds s added [] is tt h)
  held_group p s (Look actor key request) added e fits sound h (Legal.DoesLook.looks m) =
      inl (subst (λ xs. IsHeld kind g streams (after_all s xs)) (sym m.is) (looked p s actor key request added m m.before m.answer m.right h))
  held_group p s (ReadOn reader) added e fits sound h (Legal.DoesReadOn.reads_on answer m) = inl (reads p s reader answer added m h)
  held_group p s (ReadAll reader) added e fits sound h (Legal.DoesReadAll.reads_on answer x m y) = inl (reads p s reader answer added m h)
  held_group p s (ReadAll reader) added e fits sound h (Legal.DoesReadAll.has_none q x is y) = inl (adds s added [] is tt h)
  held_group p s (StopReading reader) added e fits sound h (Legal.DoesStopReading.closes r q l is) = inl (adds s added _ is (tt, tt) h)
  held_group p s (StopReading reader) added e fits sound h (Legal.DoesStopReading.closed q l is) = inl (adds s added [] is tt h)

  -- ---- along a step

  -- what is asked first may be cut
  small_fragment : (p : Permit) (s : State) (put index : ℕ) (payload : List ℕ) (added : List Rec) (e : End) → Legal.DoesFragment p s put index payload added e → length payload ≤ s.geometry.fragment
  small_fragment p s put index payload added e (Legal.DoesFragment.places d m) = m.cut.small
  small_fragment p s put index payload added e (Legal.DoesFragment.unmarks w n q u) = n.small
  small_fragment p s put index payload added e (Legal.DoesFragment.rooms w n m) = n.small
  small_fragment p s put index payload added e (Legal.DoesFragment.exhausted w x n q) = n.small

  is_small : (p : Permit) (s : State) (i : Intent) (added : List Rec) (e : End) → s.geometry ≡ g → Does p s i added e → IsSmall g.fragment i
  is_small p s (Fragment put index payload) added e same does =
      subst (λ (x : Geometry). length payload ≤ x.fragment) same (small_fragment p s put index payload added e does)
  is_small p s _ added e same does = tt

  left_fit : (i : Intent) (is : List Intent) (why : Option Reason) (e : End) → AllFit g.fragment streams (i ∷ is) → AllFit g.fragment streams is → AllFit g.fragment streams (work_after i is why e).intents
  left_fit i is why Stays all rest = all
  left_fit i is why Done all rest = rest
  left_fit i is why (Fails reason) all rest = cleanups_fit g.fragment streams is

  record IsOn (s : State) (w : Work) : Type 0 where
    held : IsHeld kind g streams s
    fits : AllFit g.fragment streams w.intents

  advanced : (p : Permit) (s : State) (is : List Intent) (why : Option Reason) (added : List Rec) (between : Work) → AllFit g.fragment streams is → IsSound s → IsHeld kind g streams s
      → Advances p s is why added between → IsOn (after_all s added) between ⊎ IsPairNext (kind.documents streams) p s is
  advanced p s [] why added between fits sound h a = absurd a
  advanced p s (i ∷ is) why added between fits sound h a =
      let now = fits (is_small p s i added a.0 h.geometry a.1) in
      go_on (held_group p s i added a.0 now.0 sound h a.1) (λ held. inl (record {
        held = held;
        fits = subst (λ (w : Work). AllFit g.fragment streams w.intents) (sym a.2) (left_fit i is why a.0 fits now.1);
      }))

  pub held_grown : {p : Permit} {s : State} {w after : Work} {recs : List Rec} → AllFit g.fragment streams w.intents → IsSound s → IsHeld kind g streams s → MayGrow p s w recs after
      → IsHeld kind g streams (after_all s recs) ⊎ ShowsFrom (kind.documents streams) p s w recs
  held_grown fits sound h nothing = inl h
  held_grown {p} {s} {w} fits sound h (more {rest = tail} added between one others) =
      let later : IsLater s (after_all s added) = later_advanced p s w.intents w.refused added between one sound in
      elim (advanced p s w.intents w.refused added between fits sound h one) [
        | inr copy ↦ inr (shown_first (kind.documents streams) p s w (added ++ tail) copy)
        | inl on ↦ elim (held_grown on.fits later.sound on.held others) [
          | inl last ↦ inl (subst (IsHeld kind g streams) (sym (after_all-append s added tail)) last)
          | inr v ↦ inr (shown_later (kind.documents streams) p s w between added tail one v)
        ]
      ]
