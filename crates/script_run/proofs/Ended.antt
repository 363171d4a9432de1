-- A put that closes is not open behind that, or its writer is sealed.
use Rattle.std.proofs.Common.{◌≡◌, ℕ, List, [], ◌∷◌, refl, sym, ◌∙◌, ap, subst, inl, inr, ◌⊎◌, true, false}
use Rattle.std.specs.Prelude.{Option, Some, None, filter, option_map, unwrap_or}
use Rattle.fragment_table.specs.Table.{total_length}
use Rattle.alternate_vector.specs.Alternates.{Stored}
use Rattle.cache_model.specs.declared.record.Rec.{Rec}
use Rattle.cache_model.specs.declared.record.Rec.TheVariants as rec
use Rattle.cache_model.specs.State.{State, PutRow, Writing, Open, Closed, GivenUp, after_all, list_of_piece, put_of, state_after, vector_piece, with_writing}
use Rattle.cache_model.specs.Verdict.{is_open}
use Rattle.cache_model.specs.Permit.{Permit, Intent, Fragment, Weigh, Finish, Commit, GiveUp, StopReading, End, Stays, Done, Fails, Exhausted, Faulted, Work, Reason, is_cleanup, work_after}
use Rattle.cache_model.specs.Syncing
use Rattle.cache_model.specs.Syncing.{DoesSync, Unmarks, WhereDue}
use Rattle.cache_model.specs.Legal
use Rattle.cache_model.specs.Legal.{Advances, Does, IsStep, MayGrow, nothing, more, IsWriting, aborted_record, is_writing}
use Rattle.step_laws.specs.StepLaws.{AsksLast}
use Rattle.cache_model.proofs.Steps.{after_all-append, none_left}
use Rattle.cache_model.proofs.Found.{no_truth, number_of}
use Rattle.script_run.specs.Asked.{close_intents}
use Rattle.script_run.specs.Behind.{seals}
use Rattle.script_run.proofs.Changed.{Changes, Was, changed, changed_from, itself}

-- ---- open puts

abbrev pub IsNotOpen : State → ℕ → Type 0
IsNotOpen s put = (w : PutRow) → put_of s put ≡ Some w → w.writing ≡ Open → ⊥

open_by : (writing : Writing) → (elim writing [ Open ↦ true | Closed ↦ false | GivenUp ↦ false ]) ≡ true → writing ≡ Open
open_by Open e = refl
open_by Closed e = no_truth (sym e)
open_by GivenUp e = no_truth (sym e)

-- the row of a put that is open
pub record IsFoundOpen (s : State) (put : ℕ) : Type 0 where
  pub w : PutRow
  pub found : put_of s put ≡ Some w
  pub is_open : w.writing ≡ Open

found_open : (s : State) (put : ℕ) (o : Option PutRow) → put_of s put ≡ o → unwrap_or (option_map is_open o) false ≡ true → IsFoundOpen s put
found_open s put None e writing = no_truth (sym writing)
found_open s put (Some w) e writing = record { w = w; found = e; is_open = open_by w.writing writing }

pub open_row : (s : State) (put : ℕ) → is_writing s put ≡ true → IsFoundOpen s put
open_row s put writing = found_open s put (put_of s put) refl writing

not_open_by : (writing : Writing) → (elim writing [ Open ↦ true | Closed ↦ false | GivenUp ↦ false ]) ≡ false → writing ≡ Open → ⊥
not_open_by Open e h = no_truth e
not_open_by Closed e h = cc
not_open_by GivenUp e h = cc

pub not_writing : (s : State) (put : ℕ) → is_writing s put ≡ false → IsNotOpen s put
not_writing s put over w found is_open_now =
    not_open_by w.writing (sym (ap (λ (o : Option PutRow). unwrap_or (option_map is_open o) false) found) ∙ over) is_open_now

-- a put that was changed to be no more open is not open
not_open_after : (s t : State) (put n : ℕ) (f : PutRow → PutRow) → n ≡ put → Changes s t n f → ((p : PutRow) → (f p).writing ≡ Open → ⊥) → IsNotOpen t put
not_open_after s t put n f same c ends x found is_open_now =
    let was : Was (put_of s put) (changed n f) x = changed_from s t n f put x c found in
    let here : was.old.put ≡ n = number_of s put was.old was.found ∙ sym same in
    ends was.old (ap (λ (p : PutRow). p.writing) (sym (was.is ∙ itself n f was.old here)) ∙ is_open_now)

aborted_ends : (s : State) (put : ℕ) (w : PutRow) (added : List Rec) → added ≡ aborted_record w ∷ [] → IsWriting s put w → IsNotOpen (after_all s added) put
aborted_ends s put w added is writing =
    let r : Rec = rec.Aborted w.put w.key in
    subst (λ xs. IsNotOpen (after_all s xs) put) (sym is)
    (not_open_after s (state_after s r) put w.put (with_writing GivenUp) (number_of s put w writing.found) (record { puts = refl; keeps = λ p. refl }) (λ p h. cc))

committed_ends : (s : State) (put : ℕ) (w : PutRow) (size : ℕ) (listed : List Stored) → IsNotOpen (state_after s (rec.Committed put w.key size listed)) put
committed_ends s put w size listed =
    not_open_after s (state_after s (rec.Committed put w.key size listed)) put put (with_writing Closed) refl (record { puts = refl; keeps = λ p. refl }) (λ p h. cc)

-- ---- groups of a close

-- it is asked of this put as it closes
abbrev IsClosing : ℕ → Intent → Type 0
IsClosing put (Weigh n rest) = n ≡ put
IsClosing put (Fragment n index payload) = n ≡ put
IsClosing put (Finish n fragments) = n ≡ put
IsClosing put (Commit n) = n ≡ put
IsClosing put _ = ⊥

abbrev AreClosing : ℕ → List Intent → Type 0
AreClosing put [] = Unit {0}
AreClosing put (i ∷ is) = IsClosing put i × AreClosing put is

-- a refusal seals the writer or ends the put
abbrev pub EndsOrSeals : State → ℕ → Option Reason → Type 0
EndsOrSeals t put why = (seals why ≡ true) ⊎ IsNotOpen t put

abbrev IsLeft : State → ℕ → Intent → End → Type 0
IsLeft t put i Stays = Unit {0}
IsLeft t put (Commit n) Done = IsNotOpen t put
IsLeft t put i Done = Unit {0}
IsLeft t put i (Fails why) = EndsOrSeals t put (Some why)

stays_left : (t : State) (put : ℕ) (i : Intent) → IsLeft t put i Stays
stays_left t put i = tt

fails_left : (t : State) (put : ℕ) (i : Intent) (why : Reason) → EndsOrSeals t put (Some why) → IsLeft t put i (Fails why)
fails_left t put i why h = h

-- a sync where one is due
synced_left : (t : State) (put : ℕ) (i : Intent) (p : Permit) (s : State) (added : List Rec) (e : End) → DoesSync p WhereDue s added e → IsLeft t put i (Legal.stays_behind e)
synced_left t put i p s added e (Syncing.DoesSync.goes m) = stays_left t put i
synced_left t put i p s added e (Syncing.DoesSync.stops count m) = fails_left t put i (Faulted count) (inl refl)
synced_left t put i p s added e (Syncing.DoesSync.empty m) = stays_left t put i
synced_left t put i p s added e (Syncing.DoesSync.empty_stops count m) = fails_left t put i (Faulted count) (inl refl)
synced_left t put i p s added e (Syncing.DoesSync.stays count can first c) = fails_left t put i (Faulted count) (inl refl)
synced_left t put i p s added e (Syncing.DoesSync.exhausted may high is) = fails_left t put i Exhausted (inl refl)
synced_left t put i p s added e (Syncing.DoesSync.runs serial on quiet parts runs is) = no_truth (sym parts)

-- a mark that is taken back
unmarked_left : (t : State) (put : ℕ) (i : Intent) (p : Permit) (s : State) (added : List Rec) (e : End) → Unmarks p s added e → IsLeft t put i e
unmarked_left t put i p s added e (Syncing.Unmarks.unmarks must below is) = stays_left t put i
unmarked_left t put i p s added e (Syncing.Unmarks.stays count must below c) = fails_left t put i (Faulted count) (inl refl)
unmarked_left t put i p s added e (Syncing.Unmarks.stops count must below marked c is) = fails_left t put i (Faulted count) (inl refl)
unmarked_left t put i p s added e (Syncing.Unmarks.exhausted must high is) = fails_left t put i Exhausted (inl refl)

roomed_left : (t : State) (put : ℕ) (i : Intent) (p : Permit) (s : State) (bytes : ℕ) (added : List Rec) (e : End) → Legal.MakesRoom p s bytes added e → IsLeft t put i e
roomed_left t put i p s bytes added e (Legal.MakesRoom.flushes x m) = stays_left t put i
roomed_left t put i p s bytes added e (Legal.MakesRoom.stops count x m) = fails_left t put i (Faulted count) (inl refl)
roomed_left t put i p s bytes added e (Legal.MakesRoom.exhausted x q is) = fails_left t put i Exhausted (inl refl)
roomed_left t put i p s bytes added e (Legal.MakesRoom.syncs end x d is) = subst (IsLeft t put i) (sym is) (synced_left t put i p s added end d)

group_left : (p : Permit) (s : State) (put : ℕ) (i : Intent) (added : List Rec) (e : End) → IsClosing put i → Does p s i added e → IsLeft (after_all s added) put i e
group_left p s put (Weigh n rest) added e same (Legal.DoesWeigh.weighs w q r f is) = tt
group_left p s put (Weigh n rest) added e same (Legal.DoesWeigh.too_large w q r f is) = inr (aborted_ends s put w added is (subst (λ m. IsWriting s m w) same q))
group_left p s put (Weigh n rest) added e same (Legal.DoesWeigh.damaged w row found q live d is) = tt
group_left p s put (Weigh n rest) added e same (Legal.DoesWeigh.faulted w row count q live r m is) = inl refl
group_left p s put (Fragment n index payload) added e same (Legal.DoesFragment.places d m) = subst (IsLeft (after_all s added) put (Fragment n index payload)) (sym d) tt
group_left p s put (Fragment n index payload) added e same (Legal.DoesFragment.unmarks w x q u) = unmarked_left (after_all s added) put (Fragment n index payload) p s added e u
group_left p s put (Fragment n index payload) added e same (Legal.DoesFragment.rooms w x m) = roomed_left (after_all s added) put (Fragment n index payload) p s _ added e m
group_left p s put (Fragment n index payload) added e same (Legal.DoesFragment.exhausted w d x q) = subst (IsLeft (after_all s added) put (Fragment n index payload)) (sym d) (inl refl)
group_left p s put (Finish n fragments) added e same (Legal.DoesFinish.places d m) = subst (IsLeft (after_all s added) put (Finish n fragments)) (sym d) tt
group_left p s put (Finish n fragments) added e same (Legal.DoesFinish.unmarks w c l q u) = unmarked_left (after_all s added) put (Finish n fragments) p s added e u
group_left p s put (Finish n fragments) added e same (Legal.DoesFinish.rooms w c m) = roomed_left (after_all s added) put (Finish n fragments) p s _ added e m
group_left p s put (Finish n fragments) added e same (Legal.DoesFinish.loses w index d m is) =
    subst (IsLeft (after_all s added) put (Finish n fragments)) (sym d) (inr (aborted_ends s put w added is (subst (λ m. IsWriting s m w) same m.cut.writing)))
group_left p s put (Finish n fragments) added e same (Legal.DoesFinish.exhausted w d c l q) = subst (IsLeft (after_all s added) put (Finish n fragments)) (sym d) (inl refl)
group_left p s put (Commit n) added e same (Legal.DoesCommit.commits w f o q is) =
    let listed : List Stored = list_of_piece s (vector_piece w.key n) in
    subst (λ xs. IsNotOpen (after_all s xs) put) (sym is)
    (subst (λ m. IsNotOpen (state_after s (rec.Committed n w.key (total_length w.cuts) listed)) m) same (committed_ends s n w (total_length w.cuts) listed))
group_left p s put _ added e same does = absurd same

-- ---- along a close

-- nothing that a close asks is done behind a refusal
no_cleanup : (put : ℕ) (i : Intent) → IsClosing put i → is_cleanup i ≡ false
no_cleanup put (GiveUp n) c = absurd c
no_cleanup put (StopReading reader) c = absurd c
no_cleanup put _ c = refl

none_cleaned : (put : ℕ) (is : List Intent) → AreClosing put is → filter is_cleanup is ≡ []
none_cleaned put [] c = refl
none_cleaned put (i ∷ is) c = rw (no_cleanup put i c.0) (none_cleaned put is c.1)

-- more is asked of the put, or all is over
record GoesOnClosing (put : ℕ) (w : Work) : Type 0 where
  closing : AreClosing put w.intents
  ends : AsksLast (Commit put) w.intents
  allowed : w.refused ≡ None

record IsOver (t : State) (put : ℕ) (w : Work) : Type 0 where
  none : w.intents ≡ []
  over : EndsOrSeals t put w.refused

abbrev IsBehind : State → ℕ → Work → Type 0
IsBehind t put w = GoesOnClosing put w ⊎ IsOver t put w

abbrev asked_first : Intent → List Intent → Work
asked_first i is = record { intents = i ∷ is; refused = None }

done_left : (t : State) (put : ℕ) (i : Intent) (is : List Intent) → GoesOnClosing put (asked_first i is) → IsLeft t put i Done → IsBehind t put (record { intents = is; refused = None })
done_left t put i [] g left = inr (record { none = refl; over = inr (subst (λ (x : Intent). IsLeft t put x Done) g.ends left) })
done_left t put i (j ∷ js) g left = inl (record { closing = g.closing.1; ends = g.ends; allowed = refl })

behind_by : (t : State) (put : ℕ) (i : Intent) (is : List Intent) (e : End) → GoesOnClosing put (asked_first i is) → IsLeft t put i e → IsBehind t put (work_after i is None e)
behind_by t put i is Stays g left = inl g
behind_by t put i is Done g left = done_left t put i is g left
behind_by t put i is (Fails why) g left = inr (record { none = none_cleaned put is g.closing.1; over = left })

advanced : (p : Permit) (s : State) (put : ℕ) (is : List Intent) (added : List Rec) (between : Work) → GoesOnClosing put (record { intents = is; refused = None }) → Advances p s is None added between
    → IsBehind (after_all s added) put between
advanced p s put [] added between g a = absurd a
advanced p s put (i ∷ is) added between g a =
    subst (IsBehind (after_all s added) put) (sym a.2) (behind_by (after_all s added) put i is a.0 g (group_left p s put i added a.0 g.closing.0 a.1))

over_stays : (p : Permit) (s : State) (put : ℕ) (w after : Work) (recs : List Rec) → IsOver s put w → MayGrow p s w recs after → EndsOrSeals (after_all s recs) put after.refused
over_stays p s put w after recs over grows =
    let q = none_left p s w.refused recs after (subst (λ is. MayGrow p s (record { intents = is; refused = w.refused }) recs after) over.none grows) in
    subst (λ why. EndsOrSeals (after_all s recs) put why) q.1 (subst (λ xs. EndsOrSeals (after_all s xs) put w.refused) (sym q.0) over.over)

closed_grown : (put : ℕ) {p : Permit} {s : State} {w after : Work} {recs : List Rec} → GoesOnClosing put w → after.intents ≡ [] → MayGrow p s w recs after → EndsOrSeals (after_all s recs) put after.refused
closed_grown put g done nothing = absurd (subst (AsksLast (Commit put)) done g.ends)
closed_grown put {p} {s} {w} {after} g done (more {rest = tail} added between one others) =
    let here : GoesOnClosing put (record { intents = w.intents; refused = None }) = record { closing = g.closing; ends = g.ends; allowed = refl } in
    let first : Advances p s w.intents None added between = subst (λ why. Advances p s w.intents why added between) g.allowed one in
    elim (advanced p s put w.intents added between here first) [
      | inl on ↦ subst (λ t. EndsOrSeals t put after.refused) (sym (after_all-append s added tail)) (closed_grown put on done others)
      | inr over ↦ subst (λ t. EndsOrSeals t put after.refused) (sym (after_all-append s added tail)) (over_stays p (after_all s added) put between after tail over others)
    ]

-- ---- a close

close_asked : (put cut : ℕ) (rest : List ℕ) → GoesOnClosing put (record { intents = close_intents put cut rest; refused = None })
close_asked put cut [] = record { closing = (refl, (refl, (refl, tt))); ends = refl; allowed = refl }
close_asked put cut (byte ∷ bytes) = record { closing = (refl, (refl, (refl, (refl, tt)))); ends = refl; allowed = refl }

-- behind a close the put is not open, or its writer is sealed
pub close_ends : (p : Permit) (s : State) (put cut : ℕ) (rest : List ℕ) (added : List Rec) (why : Option Reason) → IsStep p s (close_intents put cut rest) added why → EndsOrSeals (after_all s added) put why
close_ends p s put cut rest added why step = closed_grown put (close_asked put cut rest) refl step.grows
