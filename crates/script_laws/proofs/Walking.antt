-- What is kept, told and refused along a step, group after group.
use Rattle.std.proofs.Common.{◌≡◌, ℕ, ◌+◌, ◌-◌, ◌^◌, ◌<◌, ◌≤◌, List, [], ◌∷◌, ◌++◌, refl, sym, ◌∙◌, ap, subst, inl, inr, ◌⊎◌, arith}
use Rattle.std.specs.Prelude.{Option, Some, min}
use Rattle.std.specs.List.{AllByRecursion}
use Rattle.cache_model.specs.declared.cause.Cause.{Cause}
use Rattle.cache_model.specs.declared.record.Rec.{Rec}
use Rattle.cache_model.specs.declared.record.Rec.TheVariants as rec
use Rattle.cache_model.specs.State.{State, after_all, state_after, AllAlong}
use Rattle.cache_model.specs.Permit.{Permit, Intent, IsAmong, End, Stays, Done, Fails, Faulted, Reason, Work, work_after}
use Rattle.cache_model.specs.Legal.{Advances, MayGrow, nothing, more, IsStep}
use Rattle.device_log.specs.Causes.{Rose}
use Rattle.cache_model.proofs.Found.{none_is}
use Rattle.step_laws.specs.StepLaws.{IsRisen}
use Rattle.model_laws.proofs.Backed.{faults_rise}
use Rattle.script_laws.specs.Causes.{IsTraced, cause_told}
use Rattle.script_laws.specs.Troubles.{IsFaultRecorded}
use Rattle.cache_model.proofs.Steps.{all_append, all_as}
use Rattle.script_run.proofs.Listed.{is_among}
use Rattle.script_laws.proofs.Among.{among_left, among_right}
use Rattle.script_laws.proofs.Losses.{traced_left, traced_right}
use Rattle.script_laws.proofs.Groups.{EndIsRecorded, IsGroup, IsKept, TellsTraced, group}

-- ---- what is kept, and what is told

pub record IsWalked (p : Permit) (s : State) (recs : List Rec) : Type 0 where
  pub kept : AllByRecursion (IsKept p) recs
  pub traced : AllByRecursion (TellsTraced s recs) recs

told_left : (s : State) (a b : List Rec) (r : Rec) → TellsTraced s a r → TellsTraced s (a ++ b) r
told_left s a b r tells why told = traced_left s a b why (tells why told)

told_right : (s : State) (a b : List Rec) (r : Rec) → TellsTraced (after_all s a) b r → TellsTraced s (a ++ b) r
told_right s a b r tells why told = traced_right s a b why (tells why told)

joined : (p : Permit) (s : State) (a b : List Rec) (e : End) → IsGroup p s a e → IsWalked p (after_all s a) b → IsWalked p s (a ++ b)
joined p s a b e first rest = record {
  kept = all_append (IsKept p) a b first.kept rest.kept;
  traced = all_append (TellsTraced s (a ++ b)) a b
      (all_as (TellsTraced s a) (TellsTraced s (a ++ b)) (told_left s a b) a first.traced)
      (all_as (TellsTraced (after_all s a) b) (TellsTraced s (a ++ b)) (told_right s a b) b rest.traced);
}

first_then : (p : Permit) (s : State) (is : List Intent) (why : Option Reason) (added tail : List Rec) (between : Work) → Advances p s is why added between
    → IsWalked p (after_all s added) tail → IsWalked p s (added ++ tail)
first_then p s [] why added tail between h rest = absurd h
first_then p s (i ∷ is) why added tail between h rest = joined p s added tail h.0 (group p s i added h.0 h.1) rest

pub walked : {p : Permit} {s : State} {w after : Work} {recs : List Rec} → MayGrow p s w recs after → IsWalked p s recs
walked nothing = record { kept = tt; traced = tt }
walked {p} {s} {w} (more {rest = tail} added between one others) = first_then p s w.intents w.refused added tail between one (walked others)

pub causes_are_traced : (p : Permit) (s : State) (intents : List Intent) (added : List Rec) (refused : Option Reason) → IsStep p s intents added refused
    → (r : Rec) (why : Cause) → IsAmong r added → cause_told r ≡ Some why → IsTraced s added why
causes_are_traced p s intents added refused h r why among told = is_among (TellsTraced s added) r added (walked h.grows).traced among why told

-- ---- refusals

refused_by : (i : Intent) (is : List Intent) (why : Option Reason) (added : List Rec) (count : ℕ) (e : End) → EndIsRecorded added e
    → (work_after i is why e).refused ≡ Some (Faulted count) → (why ≡ Some (Faulted count)) ⊎ IsAmong (rec.Fault count) added
refused_by i is why added count Stays end h = inl h
refused_by i is why added count Done end h = inl h
refused_by i is why added count (Fails reason) end h =
    let same : reason ≡ Faulted count = cc in
    inr (subst (λ r. EndIsRecorded added (Fails r)) same end)

refused_first : (p : Permit) (s : State) (is : List Intent) (why : Option Reason) (added : List Rec) (between : Work) (count : ℕ) → Advances p s is why added between
    → between.refused ≡ Some (Faulted count) → (why ≡ Some (Faulted count)) ⊎ IsAmong (rec.Fault count) added
refused_first p s [] why added between count h e = absurd h
refused_first p s (i ∷ is) why added between count h e =
    refused_by i is why added count h.0 (group p s i added h.0 h.1).failed (ap (λ (w : Work). w.refused) (sym h.2) ∙ e)

pub refused_along : {p : Permit} {s : State} {w after : Work} {recs : List Rec} (count : ℕ) → MayGrow p s w recs after
    → after.refused ≡ Some (Faulted count) → (w.refused ≡ Some (Faulted count)) ⊎ IsAmong (rec.Fault count) recs
refused_along count nothing e = inl e
refused_along {p} {s} {w} count (more {rest = tail} added between one others) e = elim (refused_along count others e) [
  | inl first ↦ elim (refused_first p s w.intents w.refused added between count one first) [
    | inl before ↦ inl before
    | inr among ↦ inr (among_left (rec.Fault count) added tail among)
  ]
  | inr later ↦ inr (among_right (rec.Fault count) added tail later)
]

pub refusal_recorded : (p : Permit) (s : State) (intents : List Intent) (added : List Rec) (count : ℕ) → IsStep p s intents added (Some (Faulted count)) → IsAmong (rec.Fault count) added
refusal_recorded p s intents added count h = elim (refused_along count h.grows refl) [ inl before ↦ none_is before | inr among ↦ among ]

-- ---- the last fault

fault_kept : (p : Permit) (s : State) (r : Rec) → IsKept p r → 0 < s.fault → 0 < (state_after s r).fault
fault_kept p s (rec.Formatted geometry) k h = absurd k
fault_kept p s (rec.Opened geometry serial cursor floor next_put clean list) k h = absurd k
fault_kept p s (rec.Fault count) k h = k.1
fault_kept p s _ k h = h

faults_kept : (p : Permit) (s : State) (recs : List Rec) → AllByRecursion (IsKept p) recs → 0 < s.fault → 0 < (after_all s recs).fault
faults_kept p s [] k h = h
faults_kept p s (r ∷ recs) k h = faults_kept p (state_after s r) recs k.1 (fault_kept p s r k.0 h)

-- behind a recorded fault
pub told_behind : (p : Permit) (s : State) (recs : List Rec) (count : ℕ) → AllByRecursion (IsKept p) recs → IsAmong (rec.Fault count) recs → 0 < (after_all s recs).fault
told_behind p s [] count k h = absurd h
told_behind p s (r ∷ recs) count k h = elim h [
  | inl same ↦ faults_kept p (state_after s r) recs k.1 (subst (λ x. IsKept p x → 0 < (state_after s x).fault) same (λ first. first.1) k.0)
  | inr later ↦ told_behind p (state_after s r) recs count k.1 later
]

pub fault_stays : (p : Permit) (s : State) (intents : List Intent) (added : List Rec) (refused : Option Reason) → IsStep p s intents added refused
    → 0 < s.fault → 0 < (after_all s added).fault
fault_stays p s intents added refused h above = faults_kept p s added (walked h.grows).kept above

-- a count that stands at least as high as one behind which another rose
risen_kept : (p : Permit) (before : ℕ) (s : State) (r : Rec) → IsKept p r → IsRisen p s r → min (before + 1) (2 ^ 64 - 1) ≤ min (s.fault + 1) (2 ^ 64 - 1)
    → min (before + 1) (2 ^ 64 - 1) ≤ min ((state_after s r).fault + 1) (2 ^ 64 - 1)
risen_kept p before s (rec.Formatted geometry) k risen h = absurd k
risen_kept p before s (rec.Opened geometry serial cursor floor next_put clean list) k risen h = absurd k
risen_kept p before s (rec.Fault count) k risen h = let rose : min (s.fault + 1) (2 ^ 64 - 1) ≤ count = risen.0 in omega (arith, rose, h)
risen_kept p before s _ k risen h = h

-- each fault of a step rose above the count before it
risen_above : (p : Permit) (before : ℕ) (s : State) (recs : List Rec) (count : ℕ) → AllByRecursion (IsKept p) recs → AllAlong (IsRisen p) s recs
    → min (before + 1) (2 ^ 64 - 1) ≤ min (s.fault + 1) (2 ^ 64 - 1) → IsAmong (rec.Fault count) recs → Rose before count
risen_above p before s [] count k risen h among = absurd among
risen_above p before s (r ∷ recs) count k risen h (inl same) =
    let rose : min (s.fault + 1) (2 ^ 64 - 1) ≤ count = (subst (IsRisen p s) (sym same) risen.0).0 in
    omega (arith, rose, h)
risen_above p before s (r ∷ recs) count k risen h (inr later) = risen_above p before (state_after s r) recs count k.1 risen.1 (risen_kept p before s r k.0 risen.0 h) later

pub fault_is_told : (p : Permit) (s : State) (intents : List Intent) (added : List Rec) (refused : Option Reason) (count : ℕ) → IsStep p s intents added refused
    → IsAmong (rec.Fault count) added → IsFaultRecorded p s added count
fault_is_told p s intents added refused count h among =
    let kept : AllByRecursion (IsKept p) added = (walked h.grows).kept in
    let counted : IsKept p (rec.Fault count) = is_among (IsKept p) (rec.Fault count) added kept among in
    record {
      recorded = among;
      counted = counted.0;
      risen = risen_above p s.fault s added count kept (faults_rise p s intents added refused h) (omega arith) among;
      told = told_behind p s added count kept among;
    }
