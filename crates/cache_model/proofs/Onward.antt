-- Each group of records, each step and each legal chronicle is sound.
use Rattle.std.proofs.Common.{◌≡◌, ℕ, ◌+◌, ◌≤◌, List, [], ◌∷◌, refl, sym, subst, arith, Bool, true, false}
use Rattle.std.specs.Prelude.{Option, length, map, max}
use Rattle.std.proofs.lemmas.Bool.{leb-true, eq-eqb}
use Rattle.device_log.specs.Calls.{Call}
use Rattle.tape_base.specs.declared.geometries.Geometry.{Geometry}
use Rattle.tape_base.specs.Blocks.{blocks_of}
use Rattle.tape_base.specs.Digest.{digest_of}
use Rattle.cache_model.specs.declared.answer.NextAnswer.{NextAnswer}
use Rattle.cache_model.specs.declared.record.Rec.{Rec}
use Rattle.cache_model.specs.declared.record.Rec.TheVariants as rec
use Rattle.cache_model.specs.declared.findings.FoundRow.{FoundRow}
use Rattle.cache_model.specs.Opening.{Opening}
use Rattle.cache_model.specs.Openings.{IsFloorOfCopy, IsOpening, opened_records}
use Rattle.cache_model.specs.State.{State, after_all, nothing_yet, floor_now, low_of, place_of_found, row_of_found}
use Rattle.cache_model.specs.Permit.{Permit, Setting, Intent, Flush, Sync, SyncBegin, SyncStep, Drain, CleanSync, Write, Fragment, Overflow, Weigh, Finish, Commit, GiveUp, Remove, Look, ReadOn, ReadAll, StopReading, End, Work, Reason}
use Rattle.cache_model.specs.Legal
use Rattle.cache_model.specs.Legal.{Does, Advances, MayGrow, nothing, more, IsStep, IsLegal, Course, format_records}
use Rattle.cache_model.specs.Tape.{AreKnown, AreRising, IsSound}
use Rattle.cache_model.specs.Due.{due_pieces}
use Rattle.cache_model.proofs.Rows.{known-behind, rising-high, rising-low}
use Rattle.cache_model.proofs.Steps.{after_all-append, all_append}
use Rattle.cache_model.proofs.Aside.{IsAside, aside_leaves, lookup_aside, one_aside, reading_on_aside}
use Rattle.cache_model.proofs.Sound.{AllLeaveTape, IsLater, later_self, later_trans, later_leaves, later_insert, displaced_leave}
use Rattle.cache_model.proofs.SoundFlush.{flush_is_later, stopped_aside}
use Rattle.cache_model.specs.Syncing.{AtOnce, InParts, WhereDue}
use Rattle.cache_model.proofs.Syncing.{clean_aside, drain_splits, split_is_later, step_aside, sync_splits, unmark_aside}

leaving : (s : State) (added other : List Rec) → added ≡ other → AllLeaveTape other → IsSound s → IsLater s (after_all s added)
leaving s added other is leave h = later_leaves s added (subst AllLeaveTape (sym is) leave) h

flushed : (p : Permit) (s : State) (added : List Rec) → Legal.MayFlush p s added → IsSound s → IsLater s (after_all s added)
flushed p s added m h = subst (λ xs. IsLater s (after_all s xs)) (sym m.is) (flush_is_later p s p.now m.outcomes h m.are).later

stopped : (p : Permit) (s : State) (count : ℕ) (added : List Rec) → Legal.MayStop p s count added → IsSound s → IsLater s (after_all s added)
stopped p s count added m h = leaving s added _ m.is (aside_leaves _ (stopped_aside (due_pieces s p.now) m.outcomes count)) h

roomed : (p : Permit) (s : State) (bytes : ℕ) (added : List Rec) (e : End) → Legal.MakesRoom p s bytes added e → IsSound s → IsLater s (after_all s added)
roomed p s bytes added e (Legal.MakesRoom.flushes x m) h = flushed p s added m h
roomed p s bytes added e (Legal.MakesRoom.stops count x m) h = stopped p s count added m h
roomed p s bytes added e (Legal.MakesRoom.exhausted x q is) h = leaving s added [] is tt h
roomed p s bytes added e (Legal.MakesRoom.syncs f x d is) h = split_is_later p WhereDue s added (sync_splits p WhereDue s added f d) h

read_on : (p : Permit) (s : State) (reader : ℕ) (answer : NextAnswer) (added : List Rec) → Legal.MayReadOn p s reader answer added → IsSound s → IsLater s (after_all s added)
read_on p s reader answer added m h = leaving s added _ m.is (aside_leaves _ (reading_on_aside p s reader answer added m)) h

pub later_group : (p : Permit) (s : State) (i : Intent) (added : List Rec) (e : End) → Does p s i added e → IsSound s → IsLater s (after_all s added)
later_group p s Flush added e (Legal.DoesFlush.empty q f is) h = leaving s added [] is tt h
later_group p s Flush added e (Legal.DoesFlush.flushes m) h = flushed p s added m h
later_group p s Flush added e (Legal.DoesFlush.stops count m) h = stopped p s count added m h
later_group p s Flush added e (Legal.DoesFlush.exhausted q f b is) h = leaving s added [] is tt h
later_group p s Flush added e (Legal.DoesFlush.syncs d) h = split_is_later p WhereDue s added (sync_splits p WhereDue s added e d) h
later_group p s Sync added e d h = split_is_later p AtOnce s added (sync_splits p AtOnce s added e d) h
later_group p s SyncBegin added e d h = split_is_later p InParts s added (sync_splits p InParts s added e d) h
later_group p s (SyncStep last) added e d h = leaving s added added refl (aside_leaves added (step_aside p s last added e d)) h
later_group p s Drain added e d h = split_is_later p AtOnce s added (drain_splits p s added e d) h
later_group p s CleanSync added e d h = leaving s added added refl (aside_leaves added (clean_aside p s added e d)) h
later_group p s (Write actor key request response pin) added e (Legal.DoesWrite.opens m) h = leaving s added _ m.is (tt, tt) h
later_group p s (Write actor key request response pin) added e (Legal.DoesWrite.many q m is) h = leaving s added [] is tt h
later_group p s (Write actor key request response pin) added e (Legal.DoesWrite.exhausted q m l is) h = leaving s added [] is tt h
later_group p s (Fragment put index payload) added e (Legal.DoesFragment.places d m) h =
    let room : s.filled + blocks_of (length payload) ≤ s.geometry.agg = leb-true (s.filled + blocks_of (length payload)) s.geometry.agg m.place.room in
    let leave : AllLeaveTape (rec.Cut put index (length payload) (digest_of payload) ∷ m.displaced) = (tt, displaced_leave p s _ m.displaced m.displaces) in
    subst (λ xs. IsLater s (after_all s xs)) (sym m.is) (later_insert s (rec.Cut put index (length payload) (digest_of payload) ∷ m.displaced) _ (length payload) _ _ leave room h)
later_group p s (Fragment put index payload) added e (Legal.DoesFragment.unmarks w n q d) h = leaving s added added refl (aside_leaves added (unmark_aside p s added e d)) h
later_group p s (Fragment put index payload) added e (Legal.DoesFragment.rooms w n m) h = roomed p s _ added e m h
later_group p s (Fragment put index payload) added e (Legal.DoesFragment.exhausted w x n q) h = leaving s added [] q.is tt h
later_group p s (Overflow put) added e (Legal.DoesOverflow.aborts w q l is) h = leaving s added _ is (tt, tt) h
later_group p s (Weigh put rest) added e (Legal.DoesWeigh.weighs w q r f is) h = leaving s added [] is tt h
later_group p s (Weigh put rest) added e (Legal.DoesWeigh.too_large w q r f is) h = leaving s added _ is (tt, tt) h
later_group p s (Weigh put rest) added e (Legal.DoesWeigh.damaged w row found q live d is) h = leaving s added _ is (tt, tt) h
later_group p s (Weigh put rest) added e (Legal.DoesWeigh.faulted w row count q live r m is) h = leaving s added _ is (tt, tt) h
later_group p s (Finish put fragments) added e (Legal.DoesFinish.places d m) h =
    let room : s.filled + blocks_of (Legal.vector_length s put) ≤ s.geometry.agg = leb-true (s.filled + blocks_of (Legal.vector_length s put)) s.geometry.agg m.place.room in
    subst (λ xs. IsLater s (after_all s xs)) (sym m.is) (later_insert s m.displaced _ (Legal.vector_length s put) _ _ (displaced_leave p s _ m.displaced m.displaces) room h)
later_group p s (Finish put fragments) added e (Legal.DoesFinish.unmarks w c l q d) h = leaving s added added refl (aside_leaves added (unmark_aside p s added e d)) h
later_group p s (Finish put fragments) added e (Legal.DoesFinish.rooms w c m) h = roomed p s _ added e m h
later_group p s (Finish put fragments) added e (Legal.DoesFinish.exhausted w x c l q) h = leaving s added [] q.is tt h
later_group p s (Finish put fragments) added e (Legal.DoesFinish.loses w index d m is) h = leaving s added _ is (tt, tt) h
later_group p s (Commit put) added e (Legal.DoesCommit.commits w f o q is) h = leaving s added _ is (tt, tt) h
later_group p s (GiveUp put) added e (Legal.DoesGiveUp.aborts w q is) h = leaving s added _ is (tt, tt) h
later_group p s (GiveUp put) added e (Legal.DoesGiveUp.over q o is) h = leaving s added [] is tt h
later_group p s (Remove key) added e (Legal.DoesRemove.removes row q l is) h = leaving s added _ is (tt, tt) h
later_group p s (Remove key) added e (Legal.DoesRemove.absent q l is) h = leaving s added [] is tt h
later_group p s (Look actor key request) added e (Legal.DoesLook.looks m) h = leaving s added _ m.is (aside_leaves _ (all_append IsAside m.before _ (lookup_aside p s key request m.before m.answer m.right) one_aside)) h
later_group p s (ReadOn reader) added e (Legal.DoesReadOn.reads_on answer m) h = read_on p s reader answer added m h
later_group p s (ReadAll reader) added e (Legal.DoesReadAll.reads_on answer x m y) h = read_on p s reader answer added m h
later_group p s (ReadAll reader) added e (Legal.DoesReadAll.has_none q x is y) h = leaving s added [] is tt h
later_group p s (StopReading reader) added e (Legal.DoesStopReading.closes r q l is) h = leaving s added _ is (tt, tt) h
later_group p s (StopReading reader) added e (Legal.DoesStopReading.closed q l is) h = leaving s added [] is tt h

pub later_advanced : (p : Permit) (s : State) (is : List Intent) (why : Option Reason) (added : List Rec) (after : Work) → Advances p s is why added after → IsSound s → IsLater s (after_all s added)
later_advanced p s [] why added after a h = absurd a
later_advanced p s (i ∷ is) why added after a h = later_group p s i added a.0 a.1 h

pub later_grown : {p : Permit} {s : State} {w after : Work} {recs : List Rec} → MayGrow p s w recs after → IsSound s → IsLater s (after_all s recs)
later_grown {s = s} nothing h = later_self s h
later_grown {p} {s} {w} (more {rest = tail} added between one others) h =
    let first : IsLater s (after_all s added) = later_advanced p s w.intents w.refused added between one h in
    subst (IsLater s) (sym (after_all-append s added tail)) (later_trans s (after_all s added) _ first (later_grown others first.sound))

pub steps_are_sound : (p : Permit) (s : State) (intents : List Intent) (added : List Rec) (why : Option Reason)
    → IsSound s → IsStep p s intents added why → IsSound (after_all s added) × (floor_now s ≤ floor_now (after_all s added))
steps_are_sound p s intents added why h step = let l = later_grown step.grows h in (l.sound, l.floor)

fresh : (geometry : Geometry) → IsSound (after_all nothing_yet (format_records geometry))
fresh geometry = record {
  from = omega arith;
  least = omega arith;
  lap = lap_fits geometry;
  room = omega arith;
  rising = omega arith;
  apart = tt;
  known = tt;
}
  where
    lap_fits : (g : Geometry) → g.content + g.agg ≤ Rattle.tape_base.specs.Place.lap_end_of g g.content
    lap_fits g =
        let one : Rattle.tape_base.specs.Place.lap_of g g.content ≡ 1 = Rattle.cache_model.proofs.Laps.lap-is g.content 1 g.content (omega arith) (omega arith) in
        rw one (omega arith)

-- where an opening finds pieces whose places rise, each is known by its place
known_found : (low : ℕ) (found : List FoundRow) (high : ℕ) → AreRising low (map row_of_found found) high → AreKnown (map place_of_found found) (map row_of_found found)
known_found low [] high h = tt
known_found low (f ∷ found) high h =
    (rw (eq-eqb f.place f.place refl) refl, known-behind (map place_of_found found) f.place f.id (f.place + 1) (map row_of_found found) high (omega arith) h.3 (known_found (f.place + 1) found high h.3))

floor_by : (g : Geometry) (o : Opening) (b : Bool) → o.clean ≡ b → IsFloorOfCopy g o → o.floor ≤ low_of g o.cursor
floor_by g o true e h = (h.clean e).1
floor_by g o false e h = let same = h.other e in omega (arith, same)

floor_below_cursor : (g : Geometry) (o : Opening) → g.content ≤ o.cursor → IsFloorOfCopy g o → o.floor ≤ o.cursor
floor_below_cursor g o from h = let low = floor_by g o o.clean refl h in omega (arith, low, from)

pub opening_is_sound : (packed : Bool) (g : Geometry) (o : Opening) → IsOpening packed g o → IsSound (after_all nothing_yet (opened_records g o))
opening_is_sound packed g o h = record {
  from = h.copy.from;
  least = floor_below_cursor g o h.copy.from h.copy.floor;
  lap = h.copy.lap;
  room = omega arith;
  rising = rising-high g.content _ o.cursor (o.cursor + 0) (omega arith) (rising-low (max g.content o.floor) g.content _ o.cursor (omega arith) h.rising);
  apart = h.apart;
  known = known_found (max g.content o.floor) o.found o.cursor h.rising;
}

pub legal_is_sound : (setting : Setting) (past : List Call) (courses : List Course) (recs : List Rec) → IsLegal setting past courses recs → IsSound (after_all nothing_yet recs)
legal_is_sound setting past courses recs (Legal.IsLegal.begins geometry) = fresh geometry
legal_is_sound setting past courses recs (Legal.IsLegal.opens geometry o opening) = opening_is_sound setting.packed geometry o opening
legal_is_sound setting past courses recs (Legal.IsLegal.steps {before = before} {added = added} course e legal step) =
    subst IsSound (sym (after_all-append nothing_yet before added)) (later_grown step.grows (legal_is_sound setting _ _ before legal)).sound
legal_is_sound setting past courses recs (Legal.IsLegal.tells call is legal) = legal_is_sound setting _ courses recs legal
