-- With a directory that displaces nothing no group of records tells of a displacement.
use Rattle.std.proofs.Common.{◌≡◌, ◌⊎◌, ℕ, List, [], ◌∷◌, ◌++◌, length, refl, sym, ◌∙◌, ap, subst, inl, inr, false}
use Rattle.std.specs.Prelude.{◌&&◌, Option, map}
use Rattle.tape_base.specs.declared.pieces.PieceId.{PieceId}
use Rattle.cache_model.specs.declared.answer.NextAnswer.{NextAnswer}
use Rattle.cache_model.specs.declared.record.Rec.{Rec}
use Rattle.cache_model.specs.declared.record.Rec.TheVariants as rec
use Rattle.cache_model.specs.State.{State, Row, state_after, vector_piece}
use Rattle.cache_model.specs.Permit.{Permit, Intent, Flush, Sync, SyncBegin, SyncStep, Drain, CleanSync, Write, Fragment, Overflow, Weigh, Finish, Commit, GiveUp, Remove, Look, ReadOn, ReadAll, StopReading, Reason, End, Work}
use Rattle.cache_model.specs.Room.{MayDisplace, displaced_record, displaces, is_full_for, rows_of_segment, segment_of_piece}
use Rattle.cache_model.specs.Due.{due_pieces}
use Rattle.cache_model.specs.Outcomes.{Copy, Outcome, copies_of, flush_tail, front_of, moved_record, moved_records, stopped_records}
use Rattle.cache_model.specs.Syncing.{AtOnce, InParts, MaySyncBehind, Syncing, WhereDue, at_first, behind_records, first_records}
use Rattle.cache_model.specs.Legal
use Rattle.cache_model.specs.Legal.{Advances, Does, IsStep, MayGrow, more, nothing}
use Rattle.cache_model.proofs.Aside.{AllAside, IsAside, lookup_aside, reading_on_aside}
use Rattle.cache_model.proofs.SoundFlush.{front_aside, stopped_aside}
use Rattle.cache_model.proofs.Steps.{all_append, all_as}
use Rattle.cache_model.proofs.Syncing.{behind_of, clean_aside, drain_splits, first_of, step_aside, sync_splits, syncs_aside, unmark_aside}
use Rattle.model_laws.specs.RoomLaws.{TellNoDisplacement, is_displacement}

-- ---- records

-- nothing is displaced where there is a slot
free_displaces : {p : Permit} {s : State} {piece : PieceId} {added : List Rec} → displaces p s piece ≡ false → MayDisplace p s piece added
    → added ≡ []
free_displaces {p} {s} {piece} slot m =
    m.is ∙ ap (map (displaced_record (segment_of_piece s piece) (length (rows_of_segment s (segment_of_piece s piece))))) (m.free slot)

-- nor where the directory does not
pub none_displaced : {p : Permit} {s : State} {piece : PieceId} {added : List Rec} → p.packed ≡ false → MayDisplace p s piece added
    → added ≡ []
none_displaced {p} {s} {piece} loose m = free_displaces (subst (λ t. (t && is_full_for s piece) ≡ false) (sym loose) refl) m

-- what is placed for an intent has a slot
abbrev pub PlacesFreely : Permit → State → List Rec → Intent → Type 0
PlacesFreely p s added (Fragment put index payload) = (m : Legal.MayPlaceFragment p s put index payload added) → displaces p s (Legal.next_fragment_of m.w) ≡ false
PlacesFreely p s added (Finish put fragments) = (m : Legal.MayPlaceVector p s put fragments added) → displaces p s (vector_piece m.w.key put) ≡ false
PlacesFreely p s added _ = Unit {0}

-- the record tells of none
abbrev IsOther : Rec → Type 0
IsOther r = is_displacement r ≡ false

aside_other : (r : Rec) → IsAside r → IsOther r
aside_other (rec.Displaced piece segment live) h = absurd h.1
aside_other _ h = refl

beside : (recs : List Rec) → AllAside recs → TellNoDisplacement recs
beside recs h = all_as IsAside IsOther aside_other recs h

telling : (added other : List Rec) → added ≡ other → TellNoDisplacement other → TellNoDisplacement added
telling added other is h = subst TellNoDisplacement (sym is) h

-- behind records that are none
placed : (before : List Rec) (r : Rec) → IsOther r → before ≡ [] → TellNoDisplacement (before ++ r ∷ [])
placed before r other none = telling (before ++ r ∷ []) (r ∷ []) (ap (λ recs. recs ++ r ∷ []) none) (other, tt)

-- ---- flushes

moved_other : (s : State) (copies : List Copy) → TellNoDisplacement (moved_records s copies)
moved_other s [] = tt
moved_other s (c ∷ copies) = (refl, moved_other (state_after s (moved_record s c)) copies)

tail_other : (s : State) (rows : List Row) (outcomes : List Outcome) → TellNoDisplacement (flush_tail s rows outcomes)
tail_other s rows outcomes = (refl, moved_other _ (copies_of rows outcomes))

flushed : (p : Permit) (s : State) (added : List Rec) → Legal.MayFlush p s added → TellNoDisplacement added
flushed p s added m =
    let rows : List Row = due_pieces s p.now in
    telling added _ m.is (all_append IsOther (front_of rows m.outcomes) (flush_tail s rows m.outcomes) (beside _ (front_aside rows m.outcomes)) (tail_other s rows m.outcomes))

stopped : (p : Permit) (s : State) (count : ℕ) (added : List Rec) → Legal.MayStop p s count added → TellNoDisplacement added
stopped p s count added m = telling added (stopped_records (due_pieces s p.now) m.outcomes count) m.is (beside _ (stopped_aside (due_pieces s p.now) m.outcomes count))

goes : (p : Permit) (k : Syncing) (s : State) (added : List Rec) → MaySyncBehind p k s added → TellNoDisplacement added
goes p k s added m =
    let rows : List Row = due_pieces s p.now in
    let first : List Rec = first_records k s in
    let behind : List Rec = behind_records k (at_first k s) in
    telling added _ m.is
    (all_append IsOther first _ (beside first (syncs_aside first (first_of k s)))
    (all_append IsOther (front_of rows m.outcomes) _ (beside _ (front_aside rows m.outcomes))
    (all_append IsOther behind _ (beside behind (syncs_aside behind (behind_of k (at_first k s)))) (tail_other s rows m.outcomes))))

synced : (p : Permit) (k : Syncing) (s : State) (added : List Rec) → MaySyncBehind p k s added ⊎ AllAside added → TellNoDisplacement added
synced p k s added split = elim split [ inl m ↦ goes p k s added m | inr aside ↦ beside added aside ]

roomed : (p : Permit) (s : State) (bytes : ℕ) (added : List Rec) (e : End) → Legal.MakesRoom p s bytes added e → TellNoDisplacement added
roomed p s bytes added e (Legal.MakesRoom.flushes x m) = flushed p s added m
roomed p s bytes added e (Legal.MakesRoom.stops count x m) = stopped p s count added m
roomed p s bytes added e (Legal.MakesRoom.exhausted x q is) = telling added [] is tt
roomed p s bytes added e (Legal.MakesRoom.syncs f x d is) = synced p WhereDue s added (sync_splits p WhereDue s added f d)

-- ---- each group

read_on : (p : Permit) (s : State) (reader : ℕ) (answer : NextAnswer) (added : List Rec) → Legal.MayReadOn p s reader answer added
    → TellNoDisplacement added
read_on p s reader answer added m = telling added _ m.is (beside _ (reading_on_aside p s reader answer added m))

pub group_other : (p : Permit) (s : State) (i : Intent) (added : List Rec) (e : End) → PlacesFreely p s added i → Does p s i added e
    → TellNoDisplacement added
group_other p s Flush added e free (Legal.DoesFlush.empty q f is) = telling added [] is tt
group_other p s Flush added e free (Legal.DoesFlush.flushes m) = flushed p s added m
group_other p s Flush added e free (Legal.DoesFlush.stops count m) = stopped p s count added m
group_other p s Flush added e free (Legal.DoesFlush.exhausted q f b is) = telling added [] is tt
group_other p s Flush added e free (Legal.DoesFlush.syncs d) = synced p WhereDue s added (sync_splits p WhereDue s added e d)
group_other p s Sync added e free d = synced p AtOnce s added (sync_splits p AtOnce s added e d)
group_other p s SyncBegin added e free d = synced p InParts s added (sync_splits p InParts s added e d)
group_other p s (SyncStep last) added e free d = beside added (step_aside p s last added e d)
group_other p s Drain added e free d = synced p AtOnce s added (drain_splits p s added e d)
group_other p s CleanSync added e free d = beside added (clean_aside p s added e d)
group_other p s (Write actor key request response pin) added e free (Legal.DoesWrite.opens m) = telling added _ m.is (refl, tt)
group_other p s (Write actor key request response pin) added e free (Legal.DoesWrite.many q m is) = telling added [] is tt
group_other p s (Write actor key request response pin) added e free (Legal.DoesWrite.exhausted q m l is) = telling added [] is tt
group_other p s (Fragment put index payload) added e free (Legal.DoesFragment.unmarks w n q d) = beside added (unmark_aside p s added e d)
group_other p s (Fragment put index payload) added e free (Legal.DoesFragment.places d m) =
    telling added _ m.is (refl, placed m.displaced _ refl (free_displaces (free m) m.displaces))
group_other p s (Fragment put index payload) added e free (Legal.DoesFragment.rooms w n m) = roomed p s (length payload) added e m
group_other p s (Fragment put index payload) added e free (Legal.DoesFragment.exhausted w x n q) = telling added [] q.is tt
group_other p s (Overflow put) added e free (Legal.DoesOverflow.aborts w q l is) = telling added _ is (refl, tt)
group_other p s (Weigh put rest) added e free (Legal.DoesWeigh.weighs w q r f is) = telling added [] is tt
group_other p s (Weigh put rest) added e free (Legal.DoesWeigh.too_large w q r f is) = telling added _ is (refl, tt)
group_other p s (Weigh put rest) added e free (Legal.DoesWeigh.damaged w row found q live d is) = telling added _ is (refl, tt)
group_other p s (Weigh put rest) added e free (Legal.DoesWeigh.faulted w row count q live r m is) = telling added _ is (refl, tt)
group_other p s (Finish put fragments) added e free (Legal.DoesFinish.unmarks w c l q d) = beside added (unmark_aside p s added e d)
group_other p s (Finish put fragments) added e free (Legal.DoesFinish.places d m) = telling added _ m.is (placed m.displaced _ refl (free_displaces (free m) m.displaces))
group_other p s (Finish put fragments) added e free (Legal.DoesFinish.rooms w c m) = roomed p s (Legal.vector_length s put) added e m
group_other p s (Finish put fragments) added e free (Legal.DoesFinish.exhausted w x c l q) = telling added [] q.is tt
group_other p s (Finish put fragments) added e free (Legal.DoesFinish.loses w index d m is) = telling added _ is (refl, tt)
group_other p s (Commit put) added e free (Legal.DoesCommit.commits w f o q is) = telling added _ is (refl, tt)
group_other p s (GiveUp put) added e free (Legal.DoesGiveUp.aborts w q is) = telling added _ is (refl, tt)
group_other p s (GiveUp put) added e free (Legal.DoesGiveUp.over q o is) = telling added [] is tt
group_other p s (Remove key) added e free (Legal.DoesRemove.removes row q l is) = telling added _ is (refl, tt)
group_other p s (Remove key) added e free (Legal.DoesRemove.absent q l is) = telling added [] is tt
group_other p s (Look actor key request) added e free (Legal.DoesLook.looks m) =
    telling added _ m.is (all_append IsOther m.before _ (beside m.before (lookup_aside p s key request m.before m.answer m.right)) (refl, tt))
group_other p s (ReadOn reader) added e free (Legal.DoesReadOn.reads_on answer m) = read_on p s reader answer added m
group_other p s (ReadAll reader) added e free (Legal.DoesReadAll.reads_on answer x m y) = read_on p s reader answer added m
group_other p s (ReadAll reader) added e free (Legal.DoesReadAll.has_none q x is y) = telling added [] is tt
group_other p s (StopReading reader) added e free (Legal.DoesStopReading.closes r q l is) = telling added _ is (refl, tt)
group_other p s (StopReading reader) added e free (Legal.DoesStopReading.closed q l is) = telling added [] is tt

-- in a directory that displaces nothing there always is one
plain_free : (p : Permit) (s : State) (added : List Rec) (i : Intent) → p.packed ≡ false → PlacesFreely p s added i
plain_free p s added (Fragment put index payload) plain = λ m. subst (λ b. (b && is_full_for s (Legal.next_fragment_of m.w)) ≡ false) (sym plain) refl
plain_free p s added (Finish put fragments) plain = λ m. subst (λ b. (b && is_full_for s (vector_piece m.w.key put)) ≡ false) (sym plain) refl
plain_free p s added _ plain = tt

-- ---- steps

advanced_other : (p : Permit) (s : State) (is : List Intent) (why : Option Reason) (added : List Rec) (after : Work) → p.packed ≡ false
    → Advances p s is why added after → TellNoDisplacement added
advanced_other p s [] why added after plain h = absurd h
advanced_other p s (i ∷ is) why added after plain h = group_other p s i added h.0 (plain_free p s added i plain) h.1

grown_other : {p : Permit} {s : State} {w after : Work} {recs : List Rec} → p.packed ≡ false → MayGrow p s w recs after
    → TellNoDisplacement recs
grown_other plain nothing = tt
grown_other {p} {s} {w} plain (more {rest = tail} added between one others) =
    all_append IsOther added tail (advanced_other p s w.intents w.refused added between plain one) (grown_other plain others)

pub plain_displaces_nothing : (p : Permit) (s : State) (intents : List Intent) (added : List Rec) (why : Option Reason) → p.packed ≡ false
    → IsStep p s intents added why → TellNoDisplacement added
plain_displaces_nothing p s intents added why plain step = grown_other plain step.grows
