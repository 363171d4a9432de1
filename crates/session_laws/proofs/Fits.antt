-- Each segment has slots for its live pieces through whole sessions, and each copy of a flush has a slot.
use Rattle.std.proofs.Common.{◌≡◌, ◌⊎◌, ℕ, List, [], ◌∷◌, ◌++◌, refl, sym, ◌∙◌, subst, arith, inl, inr, true}
use Rattle.std.specs.Prelude.{Option, length}
use Rattle.device_log.specs.Calls.{Call}
use Rattle.tape_base.specs.declared.geometries.Geometry.{Geometry}
use Rattle.tape_base.specs.declared.pieces.PieceId.{PieceId}
use Rattle.tape_base.specs.declared.digests.Digest.{Digest}
use Rattle.tape_base.specs.Digest.{digest_of}
use Rattle.cache_model.specs.declared.answer.NextAnswer.{NextAnswer}
use Rattle.cache_model.specs.declared.record.Rec.{Rec}
use Rattle.cache_model.specs.declared.record.Rec.TheVariants as rec
use Rattle.cache_model.specs.State.{State, after_all, nothing_yet, state_after, AllAlong}
use Rattle.cache_model.specs.Permit.{Setting, Permit, Intent, Flush, Sync, SyncBegin, SyncStep, Drain, CleanSync, Write, Fragment, Overflow, Weigh, Finish, Commit, GiveUp, Remove, Look, ReadOn, ReadAll, StopReading, End, Work, Reason}
use Rattle.cache_model.specs.Room.{MayDisplace}
use Rattle.cache_model.specs.Due.{due_pieces}
use Rattle.cache_model.specs.Syncing.{AtOnce, InParts, MaySyncBehind, Syncing, WhereDue}
use Rattle.cache_model.specs.Legal
use Rattle.cache_model.specs.Legal.{Course, Does, Advances, IsLegal, IsStep, MayFlush, MayGrow, format_records, nothing, more}
use Rattle.cache_model.specs.Tape.{IsSound}
use Rattle.cache_model.proofs.Aside.{AllAside, IsAside, aside_leaves, lookup_aside, one_aside, reading_on_aside}
use Rattle.cache_model.proofs.Onward.{later_advanced, legal_is_sound}
use Rattle.cache_model.proofs.Sound.{AllLeaveTape, IsLater}
use Rattle.cache_model.proofs.SoundFlush.{stopped_aside}
use Rattle.cache_model.proofs.Steps.{after_all-append, all_append}
use Rattle.cache_model.proofs.Syncing.{clean_aside, drain_splits, step_aside, sync_splits, unmark_aside}
use Rattle.cache_model.proofs.FewerRows.{slot_left}
use Rattle.session_laws.proofs.Fitting.{insert_fits}
use Rattle.cache_model.specs.Slots.{AllFit, HasSlotForCopy}
use Rattle.model_laws.specs.RoomLaws.{GoesThrough}
use Rattle.cache_model.proofs.Lesser.{IsLesser, lesser_self, IsLess, all_lesser, along_parts, all_leave_less, along_fits, flush_less, goes_less}

-- ---- a flush

through_less : (p : Permit) (s : State) (added : List Rec) → GoesThrough p s added → IsSound s → AllAlong (IsLess s) s added
through_less p s added goes h = elim goes [ inl m ↦ flush_less p s added m h | inr m ↦ goes_less p m.0 s added m.1 h ]

pub move_displaces_nothing : (p : Permit) (s : State) (added before behind : List Rec) (piece : PieceId) (from place : ℕ) (digest : Digest) → IsSound s → AllFit s
    → GoesThrough p s added → added ≡ before ++ rec.Moved piece from place digest ∷ behind → HasSlotForCopy (after_all s before) piece
move_displaces_nothing p s added before behind piece from place digest h fit goes is =
    let all : AllAlong (IsLess s) s (before ++ rec.Moved piece from place digest ∷ behind) = subst (AllAlong (IsLess s) s) is (through_less p s added goes h) in
    let parts = along_parts s s before (rec.Moved piece from place digest ∷ behind) all in
    let k : IsLesser s (after_all s before) = all_lesser s s before parts.0 (lesser_self s h) in
    slot_left s (after_all s before) k.apart k.geometry k.live fit piece parts.1.0

-- ---- groups of records

leaving : (s : State) (added other : List Rec) → added ≡ other → AllLeaveTape other → IsSound s → AllFit s → AllFit (after_all s added)
leaving s added other is leave h fit = along_fits s added h fit (all_leave_less s s added (subst AllLeaveTape (sym is) leave))

beside : (s : State) (added : List Rec) → AllAside added → IsSound s → AllFit s → AllFit (after_all s added)
beside s added aside h fit = leaving s added added refl (aside_leaves added aside) h fit

flushed : (p : Permit) (s : State) (added : List Rec) → MayFlush p s added → IsSound s → AllFit s → AllFit (after_all s added)
flushed p s added m h fit = along_fits s added h fit (flush_less p s added m h)

stopped : (p : Permit) (s : State) (count : ℕ) (added : List Rec) → Legal.MayStop p s count added → IsSound s → AllFit s → AllFit (after_all s added)
stopped p s count added m h fit = leaving s added _ m.is (aside_leaves _ (stopped_aside (due_pieces s p.now) m.outcomes count)) h fit

synced : (p : Permit) (k : Syncing) (s : State) (added : List Rec) → MaySyncBehind p k s added ⊎ AllAside added → IsSound s → AllFit s → AllFit (after_all s added)
synced p k s added split h fit = elim split [ inl m ↦ along_fits s added h fit (goes_less p k s added m h) | inr aside ↦ beside s added aside h fit ]

roomed : (p : Permit) (s : State) (bytes : ℕ) (added : List Rec) (e : End) → Legal.MakesRoom p s bytes added e → IsSound s → AllFit s → AllFit (after_all s added)
roomed p s bytes added e (Legal.MakesRoom.flushes x m) h fit = flushed p s added m h fit
roomed p s bytes added e (Legal.MakesRoom.stops count x m) h fit = stopped p s count added m h fit
roomed p s bytes added e (Legal.MakesRoom.exhausted x q is) h fit = leaving s added [] is tt h fit
roomed p s bytes added e (Legal.MakesRoom.syncs f x d is) h fit = synced p WhereDue s added (sync_splits p WhereDue s added f d) h fit

read_on : (p : Permit) (s : State) (reader : ℕ) (answer : NextAnswer) (added : List Rec) → Legal.MayReadOn p s reader answer added → IsSound s → AllFit s → AllFit (after_all s added)
read_on p s reader answer added m h fit = leaving s added _ m.is (aside_leaves _ (reading_on_aside p s reader answer added m)) h fit

-- a fragment is cut first, which leaves the pieces as they are
displaced_behind_cut : (p : Permit) (s : State) (put index length : ℕ) (digest : Digest) (piece : PieceId) (displaced : List Rec) → MayDisplace p s piece displaced
    → MayDisplace p (state_after s (rec.Cut put index length digest)) piece displaced
displaced_behind_cut p s put index length digest piece displaced m = record {
  purged = m.purged;
  full = λ e. let purged = m.full e in record { each = purged.each; apart = purged.apart; tenth = purged.tenth; slot = purged.slot };
  free = m.free;
  is = m.is;
}

fragment_placed : (p : Permit) (s : State) (put index : ℕ) (payload : List ℕ) (added : List Rec) → p.packed ≡ true → Legal.MayPlaceFragment p s put index payload added → AllFit s
    → AllFit (after_all s added)
fragment_placed p s put index payload added packed m fit =
    let cut : Rec = rec.Cut put index (length payload) (digest_of payload) in
    let displaces : MayDisplace p (state_after s cut) (Legal.next_fragment_of m.w) m.displaced =
    displaced_behind_cut p s put index (length payload) (digest_of payload) (Legal.next_fragment_of m.w) m.displaced m.displaces in
    subst (λ recs. AllFit (after_all s recs)) (sym m.is) (insert_fits p (state_after s cut) (Legal.next_fragment_of m.w) m.displaced _ _ _ _ packed displaces fit)

vector_placed : (p : Permit) (s : State) (put fragments : ℕ) (added : List Rec) → p.packed ≡ true → Legal.MayPlaceVector p s put fragments added → AllFit s → AllFit (after_all s added)
vector_placed p s put fragments added packed m fit =
    subst (λ recs. AllFit (after_all s recs)) (sym m.is) (insert_fits p s _ m.displaced _ _ _ _ packed m.displaces fit)

pub group_fits : (p : Permit) (s : State) (i : Intent) (added : List Rec) (e : End) → p.packed ≡ true → IsSound s → AllFit s → Does p s i added e → AllFit (after_all s added)
group_fits p s Flush added e packed h fit (Legal.DoesFlush.empty q f is) = leaving s added [] is tt h fit
group_fits p s Flush added e packed h fit (Legal.DoesFlush.flushes m) = flushed p s added m h fit
group_fits p s Flush added e packed h fit (Legal.DoesFlush.stops count m) = stopped p s count added m h fit
group_fits p s Flush added e packed h fit (Legal.DoesFlush.exhausted q f b is) = leaving s added [] is tt h fit
group_fits p s Flush added e packed h fit (Legal.DoesFlush.syncs d) = synced p WhereDue s added (sync_splits p WhereDue s added e d) h fit
group_fits p s Sync added e packed h fit d = synced p AtOnce s added (sync_splits p AtOnce s added e d) h fit
group_fits p s SyncBegin added e packed h fit d = synced p InParts s added (sync_splits p InParts s added e d) h fit
group_fits p s (SyncStep last) added e packed h fit d = beside s added (step_aside p s last added e d) h fit
group_fits p s Drain added e packed h fit d = synced p AtOnce s added (drain_splits p s added e d) h fit
group_fits p s CleanSync added e packed h fit d = beside s added (clean_aside p s added e d) h fit
group_fits p s (Write actor key request response pin) added e packed h fit (Legal.DoesWrite.opens m) = leaving s added _ m.is (tt, tt) h fit
group_fits p s (Write actor key request response pin) added e packed h fit (Legal.DoesWrite.many q m is) = leaving s added [] is tt h fit
group_fits p s (Write actor key request response pin) added e packed h fit (Legal.DoesWrite.exhausted q m l is) = leaving s added [] is tt h fit
group_fits p s (Fragment put index payload) added e packed h fit (Legal.DoesFragment.unmarks w n q d) = beside s added (unmark_aside p s added e d) h fit
group_fits p s (Fragment put index payload) added e packed h fit (Legal.DoesFragment.places d m) = fragment_placed p s put index payload added packed m fit
group_fits p s (Fragment put index payload) added e packed h fit (Legal.DoesFragment.rooms w n m) = roomed p s _ added e m h fit
group_fits p s (Fragment put index payload) added e packed h fit (Legal.DoesFragment.exhausted w x n q) = leaving s added [] q.is tt h fit
group_fits p s (Overflow put) added e packed h fit (Legal.DoesOverflow.aborts w q l is) = leaving s added _ is (tt, tt) h fit
group_fits p s (Weigh put rest) added e packed h fit (Legal.DoesWeigh.weighs w q r f is) = leaving s added [] is tt h fit
group_fits p s (Weigh put rest) added e packed h fit (Legal.DoesWeigh.too_large w q r f is) = leaving s added _ is (tt, tt) h fit
group_fits p s (Weigh put rest) added e packed h fit (Legal.DoesWeigh.damaged w row found q live d is) = leaving s added _ is (tt, tt) h fit
group_fits p s (Weigh put rest) added e packed h fit (Legal.DoesWeigh.faulted w row count q live r m is) = leaving s added _ is (tt, tt) h fit
group_fits p s (Finish put fragments) added e packed h fit (Legal.DoesFinish.unmarks w c l q d) = beside s added (unmark_aside p s added e d) h fit
group_fits p s (Finish put fragments) added e packed h fit (Legal.DoesFinish.places d m) = vector_placed p s put fragments added packed m fit
group_fits p s (Finish put fragments) added e packed h fit (Legal.DoesFinish.rooms w c m) = roomed p s _ added e m h fit
group_fits p s (Finish put fragments) added e packed h fit (Legal.DoesFinish.exhausted w x c l q) = leaving s added [] q.is tt h fit
group_fits p s (Finish put fragments) added e packed h fit (Legal.DoesFinish.loses w index d m is) = leaving s added _ is (tt, tt) h fit
group_fits p s (Commit put) added e packed h fit (Legal.DoesCommit.commits w f o q is) = leaving s added _ is (tt, tt) h fit
group_fits p s (GiveUp put) added e packed h fit (Legal.DoesGiveUp.aborts w q is) = leaving s added _ is (tt, tt) h fit
group_fits p s (GiveUp put) added e packed h fit (Legal.DoesGiveUp.over q o is) = leaving s added [] is tt h fit
group_fits p s (Remove key) added e packed h fit (Legal.DoesRemove.removes row q l is) = leaving s added _ is (tt, tt) h fit
group_fits p s (Remove key) added e packed h fit (Legal.DoesRemove.absent q l is) = leaving s added [] is tt h fit
group_fits p s (Look actor key request) added e packed h fit (Legal.DoesLook.looks m) =
    leaving s added _ m.is (aside_leaves _ (all_append IsAside m.before _ (lookup_aside p s key request m.before m.answer m.right) one_aside)) h fit
group_fits p s (ReadOn reader) added e packed h fit (Legal.DoesReadOn.reads_on answer m) = read_on p s reader answer added m h fit
group_fits p s (ReadAll reader) added e packed h fit (Legal.DoesReadAll.reads_on answer x m y) = read_on p s reader answer added m h fit
group_fits p s (ReadAll reader) added e packed h fit (Legal.DoesReadAll.has_none q x is y) = leaving s added [] is tt h fit
group_fits p s (StopReading reader) added e packed h fit (Legal.DoesStopReading.closes r q l is) = leaving s added _ is (tt, tt) h fit
group_fits p s (StopReading reader) added e packed h fit (Legal.DoesStopReading.closed q l is) = leaving s added [] is tt h fit

-- ---- steps and chronicles

advanced_fits : (p : Permit) (s : State) (is : List Intent) (why : Option Reason) (added : List Rec) (after : Work) → p.packed ≡ true → IsSound s → AllFit s
    → Advances p s is why added after → AllFit (after_all s added)
advanced_fits p s [] why added after packed h fit a = absurd a
advanced_fits p s (i ∷ is) why added after packed h fit a = group_fits p s i added a.0 packed h fit a.1

grown_fits : {p : Permit} {s : State} {w after : Work} {recs : List Rec} → p.packed ≡ true → IsSound s → AllFit s → MayGrow p s w recs after → AllFit (after_all s recs)
grown_fits {s = s} packed h fit nothing = fit
grown_fits {p} {s} {w} packed h fit (more {rest = tail} added between one others) =
    let first : IsLater s (after_all s added) = later_advanced p s w.intents w.refused added between one h in
    let fits : AllFit (after_all s added) = advanced_fits p s w.intents w.refused added between packed h fit one in
    subst AllFit (sym (after_all-append s added tail)) (grown_fits packed first.sound fits others)

pub step_fits : (p : Permit) (s : State) (intents : List Intent) (added : List Rec) (why : Option Reason) → p.packed ≡ true → IsSound s → AllFit s
    → IsStep p s intents added why → AllFit (after_all s added)
step_fits p s intents added why packed h fit step = grown_fits packed h fit step.grows

fresh_fits : (geometry : Geometry) → AllFit (after_all nothing_yet (format_records geometry))
fresh_fits geometry segment = omega arith

pub legal_fits : (setting : Setting) (past : List Call) (courses : List Course) (recs : List Rec) → setting.packed ≡ true → IsLegal setting past courses recs → AllFit (after_all nothing_yet recs)
legal_fits setting past courses recs on (Legal.IsLegal.begins geometry) = fresh_fits geometry
legal_fits setting past courses recs on (Legal.IsLegal.opens geometry o opening) = λ segment. opening.fits on segment
legal_fits setting past courses recs on (Legal.IsLegal.steps {before = before} {added = added} course e legal step) =
    subst AllFit (sym (after_all-append nothing_yet before added))
    (step_fits course.permit (after_all nothing_yet before) course.intents added course.refused (e.packed ∙ on) (legal_is_sound setting _ _ before legal) (legal_fits setting _ _ before on legal) step)
legal_fits setting past courses recs on (Legal.IsLegal.tells call is legal) = legal_fits setting _ courses recs on legal
