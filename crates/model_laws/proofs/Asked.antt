-- What a step does with what it is asked.
use Rattle.std.proofs.Common.{◌≡◌, ℕ, ◌+◌, ◌≤◌, ◌<◌, List, [], ◌∷◌, ◌++◌, length, refl, sym, ◌∙◌, ap, subst, arith, true, false}
use Rattle.std.specs.Prelude.{Option, Some, None, ◌==◌}
use Rattle.tape_base.specs.declared.keys.Key.{Key}
use Rattle.tape_base.specs.declared.actors.Actor.{Actor}
use Rattle.tape_base.specs.Digest.{digest_of}
use Rattle.tape_base.specs.Blocks.{blocks_of}
use Rattle.tape_base.specs.Geometry.{budget_of}
use Rattle.alternate_vector.specs.Field.{Field}
use Rattle.cache_model.specs.declared.answer.ReadAnswer.{ReadAnswer}
use Rattle.cache_model.specs.declared.record.Rec.{Rec}
use Rattle.cache_model.specs.declared.record.Rec.TheVariants as rec
use Rattle.cache_model.specs.State.{State, Row, PutRow, place_now, put_of}
use Rattle.cache_model.specs.Verdict.{live_vector_of}
use Rattle.cache_model.specs.Permit.{Permit, Intent, Flush, Sync, SyncBegin, SyncStep, Drain, CleanSync, Write, Fragment, Overflow, Weigh, Finish, Commit, GiveUp, Remove, Look, ReadOn, ReadAll, StopReading, Reason, End, Stays, Done}
use Rattle.cache_model.specs.Room.{limit, has_room}
use Rattle.cache_model.specs.Legal
use Rattle.cache_model.specs.Legal.{Does, IsStep, size_alone}
use Rattle.cache_model.specs.Syncing
use Rattle.cache_model.specs.Syncing.{DoesSync, WhereDue, must_unmark}
use Rattle.step_laws.specs.StepLaws.{is_single}
use Rattle.step_laws.proofs.Unsynced.{clean_ends, drain_ends, must_of, step_ends, sync_ends}
use Rattle.cache_model.proofs.Steps.{alone, none_left}
use Rattle.cache_model.proofs.Found.{no_truth, none_is, same_some}

-- ---- one group

single_ends : (p : Permit) (s : State) (i : Intent) → is_single i ≡ true → (added : List Rec) (e : End) → Does p s i added e → e ≡ Stays → ⊥
single_ends p s Flush t added e (Legal.DoesFlush.empty q f is) h = cc
single_ends p s Flush t added e (Legal.DoesFlush.flushes m) h = cc
single_ends p s Flush t added e (Legal.DoesFlush.stops count m) h = cc
single_ends p s Flush t added e (Legal.DoesFlush.exhausted q f b is) h = cc
single_ends p s Flush t added e (Legal.DoesFlush.syncs d) h = sync_ends d h
single_ends p s Sync t added e d h = sync_ends d h
single_ends p s SyncBegin t added e d h = sync_ends d h
single_ends p s (SyncStep last) t added e d h = step_ends d h
single_ends p s Drain t added e d h = drain_ends d h
single_ends p s CleanSync t added e d h = clean_ends d h
single_ends p s (Write actor key request response pin) t added e (Legal.DoesWrite.opens m) h = cc
single_ends p s (Write actor key request response pin) t added e (Legal.DoesWrite.many q m is) h = cc
single_ends p s (Write actor key request response pin) t added e (Legal.DoesWrite.exhausted q m l is) h = cc
single_ends p s (Overflow put) t added e (Legal.DoesOverflow.aborts w q l is) h = cc
single_ends p s (Commit put) t added e (Legal.DoesCommit.commits w f o q is) h = cc
single_ends p s (GiveUp put) t added e (Legal.DoesGiveUp.aborts w q is) h = cc
single_ends p s (GiveUp put) t added e (Legal.DoesGiveUp.over q o is) h = cc
single_ends p s (Remove key) t added e (Legal.DoesRemove.removes row q l is) h = cc
single_ends p s (Remove key) t added e (Legal.DoesRemove.absent q l is) h = cc
single_ends p s (Look actor key request) t added e (Legal.DoesLook.looks m) h = cc
single_ends p s (ReadOn reader) t added e (Legal.DoesReadOn.reads_on answer m) h = cc
single_ends p s (StopReading reader) t added e (Legal.DoesStopReading.closes r q l is) h = cc
single_ends p s (StopReading reader) t added e (Legal.DoesStopReading.closed q l is) h = cc
single_ends p s (Fragment put index payload) t added e d h = no_truth (sym t)
single_ends p s (Weigh put rest) t added e d h = no_truth (sym t)
single_ends p s (Finish put fragments) t added e d h = no_truth (sym t)
single_ends p s (ReadAll reader) t added e d h = no_truth (sym t)

pub one_group : (p : Permit) (s : State) (i : Intent) (added : List Rec) (why : Option Reason) → is_single i ≡ true
    → IsStep p s (i ∷ []) added why → (e : End) × Does p s i added e
one_group p s i added why t h = alone p s i added why (single_ends p s i t) h.grows

pub nothing_asked : (p : Permit) (s : State) (added : List Rec) (why : Option Reason) → IsStep p s [] added why → (added ≡ []) × (why ≡ None)
nothing_asked p s added why h = let n = none_left p s None added _ h.grows in (n.0, sym n.1)

-- ---- each intent

pub fragment_is_cut : (p : Permit) (s : State) (put index : ℕ) (payload : List ℕ) (added : List Rec) (e : End)
    → must_unmark p s ≡ false → has_room s (length payload) ≡ true → place_now s + blocks_of (length payload) < limit
    → Does p s (Fragment put index payload) added e → (e ≡ Done) × ((behind : List Rec) × (added ≡ rec.Cut put index (length payload) (digest_of payload) ∷ behind))
fragment_is_cut p s put index payload added e unmarked room below (Legal.DoesFragment.unmarks w n q u) = no_truth (sym (must_of u) ∙ unmarked)
fragment_is_cut p s put index payload added e unmarked room below (Legal.DoesFragment.rooms w n (Legal.MakesRoom.syncs end h d is)) = no_truth (sym room ∙ h)
fragment_is_cut p s put index payload added e unmarked room below (Legal.DoesFragment.places done m) = (done, (_, m.is))
fragment_is_cut p s put index payload added e unmarked room below (Legal.DoesFragment.rooms w n (Legal.MakesRoom.flushes h m)) = no_truth (sym room ∙ h)
fragment_is_cut p s put index payload added e unmarked room below (Legal.DoesFragment.rooms w n (Legal.MakesRoom.stops count h m)) = no_truth (sym room ∙ h)
fragment_is_cut p s put index payload added e unmarked room below (Legal.DoesFragment.rooms w n (Legal.MakesRoom.exhausted h q is)) = no_truth (sym room ∙ h)
fragment_is_cut p s put index payload added e unmarked room below (Legal.DoesFragment.exhausted w x n q) = let above : limit ≤ place_now s + blocks_of (length payload) = q.above in absurd (omega arith)

pub live_is_removed : (p : Permit) (s : State) (key : Key) (row : Row) (added : List Rec) (e : End)
    → live_vector_of s key ≡ Some row → Does p s (Remove key) added e → added ≡ rec.Removed row.id.put key ∷ []
live_is_removed p s key row added e live (Legal.DoesRemove.removes other q l is) =
    let same : Some other ≡ Some row = sym l ∙ live in
    let put : other.id.put ≡ row.id.put = cc in
    is ∙ ap (λ n. rec.Removed n key ∷ []) put
live_is_removed p s key row added e live (Legal.DoesRemove.absent q l is) = none_is (sym l ∙ live)

-- where no sync is asked for an empty buffer is left
pub none_due : (p : Permit) (s : State) (added : List Rec) (e : End) → s.filled ≡ 0 → DoesSync p WhereDue s added e → ⊥
none_due p s added e z (Syncing.DoesSync.goes m) = let f : 0 < s.filled = m.filled in omega arith
none_due p s added e z (Syncing.DoesSync.stops count m) = let f : 0 < s.filled = m.filled in omega arith
none_due p s added e z (Syncing.DoesSync.empty m) = no_truth (sym m.asked)
none_due p s added e z (Syncing.DoesSync.empty_stops count m) = no_truth (sym m.asked)
none_due p s added e z (Syncing.DoesSync.stays count can first c) = let f : 0 < s.filled = can.may.some refl in omega arith
none_due p s added e z (Syncing.DoesSync.exhausted may high is) = let f : 0 < s.filled = may.some refl in omega arith
none_due p s added e z (Syncing.DoesSync.runs serial on quiet parts runs is) = no_truth (sym parts)

pub empty_flush : (p : Permit) (s : State) (added : List Rec) (e : End) → s.filled ≡ 0 → Does p s Flush added e → (added ≡ []) × (e ≡ Done)
empty_flush p s added e z (Legal.DoesFlush.empty q f is) = (is, refl)
empty_flush p s added e z (Legal.DoesFlush.flushes m) = let f : 0 < s.filled = m.can.filled in absurd (omega arith)
empty_flush p s added e z (Legal.DoesFlush.stops count m) = let f : 0 < s.filled = m.can.filled in absurd (omega arith)
empty_flush p s added e z (Legal.DoesFlush.exhausted q f b is) = absurd (omega arith)
empty_flush p s added e z (Legal.DoesFlush.syncs d) = absurd (none_due p s added e z d)

looked : (p : Permit) (s : State) (key : Key) (request : List Field) (before : List Rec) (answer : ReadAnswer)
    → live_vector_of s key ≡ None → Legal.IsLookup p s key request before answer → before ≡ []
looked p s key request before answer none (Legal.IsLookup.verdict r) = refl
looked p s key request before answer none (Legal.IsLookup.trouble row b why live t) = none_is (sym none ∙ live)

pub lookup_is_one : (p : Permit) (s : State) (actor : ℕ) (key : Key) (request : List Field) (added : List Rec) (e : End)
    → live_vector_of s key ≡ None → Does p s (Look actor key request) added e
    → (who : Actor) × ((answer : ReadAnswer) × (added ≡ rec.ReadOpened s.next_reader who key request answer ∷ []))
lookup_is_one p s actor key request added e none (Legal.DoesLook.looks m) =
    (m.who, (m.answer, m.is ∙ ap (λ b. b ++ rec.ReadOpened s.next_reader m.who key request m.answer ∷ []) (looked p s key request m.before m.answer none m.right)))

too_large : (s : State) (put fragments : ℕ) (w v : PutRow) → put_of s put ≡ Some w → budget_of s.geometry < blocks_of (size_alone w 0) → Legal.IsCut s put fragments v → ⊥
too_large s put fragments w v h big c =
    let same : w ≡ v = same_some w v (put_of s put) h c.writing.found in
    let small : blocks_of (size_alone w 0) ≤ budget_of s.geometry = subst (λ x. blocks_of (size_alone x 0) ≤ budget_of s.geometry) (sym same) c.alone in
    omega arith

pub too_large_is_not_placed : (p : Permit) (s : State) (put fragments : ℕ) (w : PutRow) (added : List Rec) (e : End)
    → put_of s put ≡ Some w → budget_of s.geometry < blocks_of (size_alone w 0) → Does p s (Finish put fragments) added e → ⊥
too_large_is_not_placed p s put fragments w added e h big (Legal.DoesFinish.places d m) = too_large s put fragments w m.w h big m.cut
too_large_is_not_placed p s put fragments w added e h big (Legal.DoesFinish.unmarks v c l q u) = too_large s put fragments w v h big c
too_large_is_not_placed p s put fragments w added e h big (Legal.DoesFinish.rooms v c m) = too_large s put fragments w v h big c
too_large_is_not_placed p s put fragments w added e h big (Legal.DoesFinish.exhausted v x c l q) = too_large s put fragments w v h big c
too_large_is_not_placed p s put fragments w added e h big (Legal.DoesFinish.loses v index d m is) = too_large s put fragments w v h big m.cut

not_cut : (s : State) (put fragments : ℕ) (w v : PutRow) → put_of s put ≡ Some w → (length w.cuts == fragments) ≡ false → Legal.IsCut s put fragments v → ⊥
not_cut s put fragments w v h n c =
    let count : length w.cuts ≡ fragments = ap (λ (x : PutRow). length x.cuts) (same_some w v (put_of s put) h c.writing.found) ∙ c.count in
    no_truth (sym (Rattle.std.proofs.lemmas.Bool.eq-eqb (length w.cuts) fragments count) ∙ n)

pub all_is_cut_first : (p : Permit) (s : State) (put fragments : ℕ) (w : PutRow) (added : List Rec) (e : End)
    → put_of s put ≡ Some w → (length w.cuts == fragments) ≡ false → Does p s (Finish put fragments) added e → ⊥
all_is_cut_first p s put fragments w added e h n (Legal.DoesFinish.places d m) = not_cut s put fragments w m.w h n m.cut
all_is_cut_first p s put fragments w added e h n (Legal.DoesFinish.unmarks v c l q u) = not_cut s put fragments w v h n c
all_is_cut_first p s put fragments w added e h n (Legal.DoesFinish.rooms v c m) = not_cut s put fragments w v h n c
all_is_cut_first p s put fragments w added e h n (Legal.DoesFinish.exhausted v x c l q) = not_cut s put fragments w v h n c
all_is_cut_first p s put fragments w added e h n (Legal.DoesFinish.loses v index d m is) = not_cut s put fragments w v h n m.cut
