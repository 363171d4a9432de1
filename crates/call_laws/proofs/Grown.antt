-- What becomes of what is asked, over plain states: with more asked behind it, and one group of records behind the other.
use Rattle.std.proofs.Common.{◌≡◌, ℕ, ◌+◌, arith, Bool, true, false, List, [], ◌∷◌, ◌++◌, refl, sym, ◌∙◌, ap, subst, append_assoc, append-nil}
use Rattle.std.specs.Prelude.{Option, Some, None, filter}
use Rattle.std.specs.List.{AllByRecursion}
use Rattle.std.proofs.lemmas.List.Elements.{filter-append}
use Rattle.cache_model.specs.declared.record.Rec.{Rec}
use Rattle.cache_model.specs.State.{State, after_all}
use Rattle.cache_model.specs.Permit.{Permit, Intent, GiveUp, StopReading, Reason, End, Stays, Done, Fails, Work, is_cleanup, to_do, work_after}
use Rattle.cache_model.specs.Legal
use Rattle.cache_model.specs.Legal.{Does, DoesGiveUp, DoesStopReading, Advances, MayGrow, nothing, more}
use Rattle.cache_model.specs.Pair.{Documents, IsPairNext, ShowsFrom, ShowsPair}
use Rattle.cache_model.proofs.Steps.{after_all-append, grows_by, grows_on}
use Rattle.call_laws.specs.Progress.{Progress, Leaves, Stops, Wants, AllDone, Spends, cleanups, is_short, left_with, progress_of, refused_work}

-- ---- clean-ups

kept_again : {X : Type 0} (test : X → Bool) (x : X) (xs : List X) (b : Bool) → test x ≡ b → filter test (filter test xs) ≡ filter test xs
    → filter test (filter test (x ∷ xs)) ≡ filter test (x ∷ xs)
kept_again test x xs true e same = rw e (rw e (ap (λ ys. x ∷ ys) same))
kept_again test x xs false e same = rw e same

pub cleaned_again : (is : List Intent) → cleanups (cleanups is) ≡ cleanups is
cleaned_again [] = refl
cleaned_again (i ∷ is) = kept_again is_cleanup i is (is_cleanup i) refl (cleaned_again is)

abbrev AreCleanups : List Intent → Type 0
AreCleanups is = AllByRecursion (λ (i : Intent). is_cleanup i ≡ true) is

are_cleanups : (is : List Intent) → AreCleanups (cleanups is)
are_cleanups [] = tt
are_cleanups (GiveUp put ∷ is) = (refl, are_cleanups is)
are_cleanups (StopReading reader ∷ is) = (refl, are_cleanups is)
are_cleanups (i ∷ is) = are_cleanups is

gives_up : (s : State) (put : ℕ) (added : List Rec) (e : End) → DoesGiveUp s put added e → e ≡ Done
gives_up s put added e (Legal.DoesGiveUp.aborts w writing is) = refl
gives_up s put added e (Legal.DoesGiveUp.over quiet closed is) = refl

stops_reading : (s : State) (reader : ℕ) (added : List Rec) (e : End) → DoesStopReading s reader added e → e ≡ Done
stops_reading s reader added e (Legal.DoesStopReading.closes r quiet found is) = refl
stops_reading s reader added e (Legal.DoesStopReading.closed quiet none is) = refl

-- a clean-up is never refused
cleanup_done : (p : Permit) (s : State) (i : Intent) (added : List Rec) (e : End) → is_cleanup i ≡ true → Does p s i added e → e ≡ Done
cleanup_done p s (GiveUp put) added e is h = gives_up s put added e h
cleanup_done p s (StopReading reader) added e is h = stops_reading s reader added e h
cleanup_done p s i added e is h = absurd (no is)
  where
    no : false ≡ true → ⊥
    no e = cc

one_cleans : (p : Permit) (s : State) (is : List Intent) (why : Option Reason) (added : List Rec) (after : Work) → AreCleanups is
    → Advances p s is why added after → AreCleanups after.intents × (after.refused ≡ why)
one_cleans p s [] why added after each h = absurd h
one_cleans p s (i ∷ is) why added after each h =
    let same : after ≡ work_after i is why Done = h.2 ∙ ap (work_after i is why) (cleanup_done p s i added h.0 each.0 h.1) in
    (subst AreCleanups (sym (ap (λ (w : Work). w.intents) same)) each.1, ap (λ (w : Work). w.refused) same)

grown_cleans : {p : Permit} {s : State} {w after : Work} {added : List Rec} → AreCleanups w.intents → MayGrow p s w added after → after.refused ≡ w.refused
grown_cleans each nothing = refl
grown_cleans {p} {s} {w} each (more added between one others) =
    let first : AreCleanups between.intents × (between.refused ≡ w.refused) = one_cleans p s w.intents w.refused added between each one in
    grown_cleans first.0 others ∙ first.1

-- so no clean-up is refused
pub none_refused : (p : Permit) (s : State) (is : List Intent) (why : Reason) (a : List Rec) → Spends p s (cleanups is) a (Stops why) → ⊥
none_refused p s is why a h = no (grown_cleans (are_cleanups is) h)
  where
    no : Some why ≡ None → ⊥
    no e = cc

-- ---- with more asked behind

-- one group
advances_with : (p : Permit) (s : State) (behind : List Intent) (before : Option Reason) (is : List Intent) (why : Option Reason) (added : List Rec) (after : Work)
    → Advances p s is why added after
    → (let w : Work = left_with behind before is why in Advances p s w.intents w.refused added (left_with behind before after.intents after.refused))
advances_with p s behind before [] why added after h = absurd h
advances_with p s behind before (i ∷ is) None added after h = (h.0, h.1, ap (λ (w : Work). left_with behind before w.intents w.refused) h.2 ∙ ends h.0)
  where
    ends : (e : End) → (let w : Work = work_after i is None e in left_with behind before w.intents w.refused) ≡ work_after i (is ++ behind) before e
    ends Stays = refl
    ends Done = refl
    ends (Fails reason) = ap (λ left. refused_work left reason) (sym (filter-append is_cleanup is behind))
advances_with p s behind before (i ∷ is) (Some last) added after h = (h.0, h.1, ap (λ (w : Work). left_with behind before w.intents w.refused) h.2 ∙ ends h.0)
  where
    ends : (e : End)
        → (let w : Work = work_after i is (Some last) e in left_with behind before w.intents w.refused) ≡ work_after i (is ++ cleanups behind) (Some last) e
    ends Stays = refl
    ends Done = refl
    ends (Fails reason) =
        ap (λ left. refused_work left reason) (sym (filter-append is_cleanup is (cleanups behind) ∙ ap (λ left. cleanups is ++ left) (cleaned_again behind)))

-- and many
pub grows_with : {p : Permit} {s : State} {w after : Work} {added : List Rec} (behind : List Intent) (before : Option Reason)
    → MayGrow p s w added after
    → MayGrow p s (left_with behind before w.intents w.refused) added (left_with behind before after.intents after.refused)
grows_with behind before nothing = nothing
grows_with {p} {s} {w} behind before (more added between one others) =
    more added (left_with behind before between.intents between.refused)
    (advances_with p s behind before w.intents w.refused added between one) (grows_with behind before others)

-- ---- what is asked

pub one_spends : (p : Permit) (s : State) (i : Intent) (added : List Rec) (e : End) → Does p s i added e → Spends p s (i ∷ []) added (progress_of i e)
one_spends p s i added Stays d = grows_by p s (to_do (i ∷ [])) _ added (Stays, d, refl)
one_spends p s i added Done d = grows_by p s (to_do (i ∷ [])) _ added (Done, d, refl)
one_spends p s i added (Fails why) d = grows_by p s (to_do (i ∷ [])) _ added (Fails why, d, refl)

pub spends_none : (p : Permit) (s : State) (is : List Intent) → Spends p s is [] (Leaves is)
spends_none p s is = nothing

-- what is left is asked next
pub spends_on : (p : Permit) (s : State) (is js : List Intent) (a b : List Rec) (o : Progress) → Spends p s is a (Leaves js)
    → Spends p (after_all s a) js b o → Spends p s is (a ++ b) o
spends_on p s is js a b (Leaves left) f l = grows_on f l
spends_on p s is js a b (Stops why) f l = grows_on f l
spends_on p s is js a b Wants f l = (l.0, grows_on f l.1)

-- some of it is done
pub spends_part : (p : Permit) (s : State) (is left js : List Intent) (a : List Rec) → Spends p s is a (Leaves left)
    → Spends p s (is ++ js) a (Leaves (left ++ js))
spends_part p s is left js a f = grows_with js None f

-- it is done up to some point
pub spends_begins : (p : Permit) (s : State) (is : List Intent) (a : List Rec) (o : Progress) → Spends p s is a o → Spends p s is a Wants
spends_begins p s is a (Leaves left) f = (to_do left, f)
spends_begins p s is a (Stops why) f = (refused_work [] why, f)
spends_begins p s is a Wants f = f

-- where it falls short nothing comes of the rest, which has no clean-up
pub spends_short : (p : Permit) (s : State) (is js : List Intent) (a : List Rec) (o : Progress) → is_short o ≡ true → cleanups js ≡ []
    → Spends p s is a o → Spends p s (is ++ js) a o
spends_short p s is js a (Leaves left) short none f = absurd (no short)
  where
    no : false ≡ true → ⊥
    no e = cc
spends_short p s is js a (Stops why) short none f = subst (λ left. MayGrow p s (to_do (is ++ js)) a (refused_work left why)) none (grows_with js None f)
spends_short p s is js a Wants short none f = (_, grows_with js None f.1)

-- behind a refusal
grows_refused : (p : Permit) (s : State) (is : List Intent) (why : Reason) (a : List Rec) (after : Work) → MayGrow p s (to_do is) a after
    → MayGrow p s (refused_work is why) a (left_with [] (Some why) after.intents after.refused)
grows_refused p s is why a after h =
    subst (λ left. MayGrow p s (refused_work left why) a (left_with [] (Some why) after.intents after.refused)) (append-nil is) (grows_with [] (Some why) h)

-- only the clean-ups are done
pub spends_fails : (p : Permit) (s : State) (is js : List Intent) (why : Reason) (a b : List Rec) → Spends p s is a (Stops why)
    → Spends p (after_all s a) (cleanups js) b AllDone
    → Spends p s (is ++ js) (a ++ b) (Stops why)
spends_fails p s is js why a b f l = grows_on (grows_with js None f) (grows_refused p (after_all s a) (cleanups js) why b _ l)

-- or fall short too
pub spends_fails_again : (p : Permit) (s : State) (is js : List Intent) (why : Reason) (a b : List Rec) (o : Progress) → is_short o ≡ true
    → Spends p s is a (Stops why)
    → Spends p (after_all s a) (cleanups js) b o → Spends p s (is ++ js) (a ++ b) o
spends_fails_again p s is js why a b (Leaves left) short f l = absurd (no short)
  where
    no : false ≡ true → ⊥
    no e = cc
spends_fails_again p s is js why a b (Stops last) short f l = grows_on (grows_with js None f) (grows_refused p (after_all s a) (cleanups js) why b _ l)
spends_fails_again p s is js why a b Wants short f l = (_, grows_on (grows_with js None f) (grows_refused p (after_all s a) (cleanups js) why b l.0 l.1))

-- ---- a pair that is shown

module _ (IsPlaced : Documents) (p : Permit) where
  pub shown_first : (s : State) (w : Work) (a b : List Rec) → ShowsFrom IsPlaced p s w a → ShowsFrom IsPlaced p s w (a ++ b)
  shown_first s w a b h = record {
    before = h.before;
    rest = h.rest ++ b;
    left = h.left;
    is = ap (λ rs. rs ++ b) h.is ∙ append_assoc h.before h.rest b;
    grows = h.grows;
    pair = h.pair;
  }

  pub shown_later : (s : State) (w between : Work) (a b : List Rec) → MayGrow p s w a between → ShowsFrom IsPlaced p (after_all s a) between b
      → ShowsFrom IsPlaced p s w (a ++ b)
  shown_later s w between a b f h = record {
    before = a ++ h.before;
    rest = h.rest;
    left = h.left;
    is = ap (λ rs. a ++ rs) h.is ∙ sym (append_assoc a h.before h.rest);
    grows = grows_on f h.grows;
    pair = subst (λ t. IsPairNext IsPlaced p t h.left.intents) (sym (after_all-append s a h.before)) h.pair;
  }

  next_with : (s : State) (behind : List Intent) (before : Option Reason) (is : List Intent) (why : Option Reason) → IsPairNext IsPlaced p s is
      → (let w : Work = left_with behind before is why in IsPairNext IsPlaced p s w.intents)
  next_with s behind before [] why pair = absurd pair
  next_with s behind before (i ∷ is) None pair = pair
  next_with s behind before (i ∷ is) (Some last) pair = pair

  -- with more asked behind
  pub shown_with : (s : State) (w : Work) (a : List Rec) (behind : List Intent) (before : Option Reason) → ShowsFrom IsPlaced p s w a
      → ShowsFrom IsPlaced p s (left_with behind before w.intents w.refused) a
  shown_with s w a behind before h = record {
    before = h.before;
    rest = h.rest;
    left = left_with behind before h.left.intents h.left.refused;
    is = h.is;
    grows = grows_with behind before h.grows;
    pair = next_with (after_all s h.before) behind before h.left.intents h.left.refused h.pair;
  }

  shown_refused : (s : State) (is : List Intent) (why : Reason) (a : List Rec) → ShowsPair IsPlaced p s is a
      → ShowsFrom IsPlaced p s (refused_work is why) a
  shown_refused s is why a h = subst (λ left. ShowsFrom IsPlaced p s (refused_work left why) a) (append-nil is) (shown_with s (to_do is) a [] (Some why) h)

  -- in the clean-ups behind a refusal
  pub shown_fails : (s : State) (is js : List Intent) (why : Reason) (a b : List Rec) → Spends p s is a (Stops why)
      → ShowsPair IsPlaced p (after_all s a) (cleanups js) b
      → ShowsPair IsPlaced p s (is ++ js) (a ++ b)
  shown_fails s is js why a b f h =
      shown_later s (to_do (is ++ js)) (refused_work (cleanups js) why) a b (grows_with js None f) (shown_refused (after_all s a) (cleanups js) why b h)
