-- What stands behind records and calls.
use Rattle.std.proofs.Common.{◌≡◌, ℕ, true, false, List, [], ◌∷◌, ◌++◌, refl, sym, ap, subst, inl, inr, ◌⊎◌}
use Rattle.device_log.specs.Calls.{Asked, Call, Read, Wrote, RefusedCall}
use Rattle.cache_model.specs.declared.record.Rec.{Rec}
use Rattle.cache_model.specs.declared.record.Rec.TheVariants as rec
use Rattle.cache_model.specs.Permit.{IsAmong}
use Rattle.cache_model.specs.Given.{Effect, Took, Denied, Unasked, denials, effects_in, effects_told}
use Rattle.call_laws.specs.Moments.{At}
use Rattle.call_laws.specs.Happens.{Happens}

-- ---- among lists

among_first : {X : Type 0} (x : X) (a b : List X) → IsAmong x a → IsAmong x (a ++ b)
among_first x [] b h = absurd h
among_first x (y ∷ a) b (inl e) = inl e
among_first x (y ∷ a) b (inr h) = inr (among_first x a b h)

pub among_later : {X : Type 0} (x : X) (a b : List X) → IsAmong x b → IsAmong x (a ++ b)
among_later x [] b h = h
among_later x (y ∷ a) b h = inr (among_later x a b h)

among_either : {X : Type 0} (x : X) (a b : List X) → IsAmong x (a ++ b) → IsAmong x a ⊎ IsAmong x b
among_either x [] b h = inr h
among_either x (y ∷ a) b (inl e) = inl (inl e)
among_either x (y ∷ a) b (inr h) = elim (among_either x a b h) [ inl k ↦ inl (inr k) | inr k ↦ inr k ]

among_one : {X : Type 0} (x y : X) → IsAmong x (y ∷ []) → x ≡ y
among_one x y (inl e) = e
among_one x y (inr h) = absurd h

-- ---- what records tell

one_told : (e : Effect) (r : Rec) (recs : List Rec) → IsAmong e (effects_told recs) → IsAmong e (effects_told (r ∷ recs))
one_told e (rec.Fault count) recs h = inr h
one_told e (rec.Began cursor floor) recs h = inr h
one_told e r recs h = h

fault_told : (count : ℕ) (recs : List Rec) → IsAmong (rec.Fault count) recs → IsAmong (Denied count) (effects_told recs)
fault_told count [] h = absurd h
fault_told count (r ∷ recs) (inl e) = subst (λ x. IsAmong (Denied count) (effects_told (x ∷ recs))) e (inl refl)
fault_told count (r ∷ recs) (inr h) = one_told (Denied count) r recs (fault_told count recs h)

told_fault : (count : ℕ) (recs : List Rec) → IsAmong (Denied count) (effects_told recs) → IsAmong (rec.Fault count) recs
told_fault count [] h = absurd h
told_fault count (rec.Fault n ∷ recs) (inl e) = let same : count ≡ n = cc in inl (ap rec.Fault same)
told_fault count (rec.Fault n ∷ recs) (inr h) = inr (told_fault count recs h)
told_fault count (rec.Began cursor floor ∷ recs) (inl e) = absurd (no e)
  where
    no : Denied count ≡ Took → ⊥
    no e = cc
told_fault count (rec.Began cursor floor ∷ recs) (inr h) = inr (told_fault count recs h)
told_fault count (r ∷ recs) h = inr (told_fault count recs h)

-- ---- what calls do

refused_in : (asked : Asked) (count : ℕ) (calls : List Call) → IsAmong (RefusedCall asked count) calls → IsAmong (Denied count) (effects_in calls)
refused_in asked count [] h = absurd h
refused_in asked count (call ∷ calls) (inl e) =
    subst (λ x. IsAmong (Denied count) (effects_in (x ∷ calls))) e (among_later (Denied count) (effects_in calls) (Denied count ∷ []) (inl refl))
refused_in asked count (Read at bytes ∷ calls) (inr h) = refused_in asked count calls h
refused_in asked count (Wrote at bytes ∷ calls) (inr h) = among_first (Denied count) (effects_in calls) _ (refused_in asked count calls h)
refused_in asked count (RefusedCall what n ∷ calls) (inr h) = among_first (Denied count) (effects_in calls) _ (refused_in asked count calls h)
refused_in asked count (call ∷ calls) (inr h) = among_first (Denied count) (effects_in calls) _ (refused_in asked count calls h)

apart : {X : Type 0} (e : Effect) (asked : Effect) → (e ≡ asked → ⊥) → (effects : List Effect) → IsAmong e (effects ++ asked ∷ [])
    → (IsAmong e effects → X) → X
apart e asked differ effects h found = elim (among_either e effects (asked ∷ []) h) [ inl k ↦ found k | inr k ↦ absurd (differ (among_one e asked k)) ]

no_took : (count : ℕ) → Denied count ≡ Took → ⊥
no_took count e = cc

no_unasked : (count : ℕ) → Denied count ≡ Unasked → ⊥
no_unasked count e = cc

same_count : (count n : ℕ) → Denied count ≡ Denied n → count ≡ n
same_count count n e = cc

in_refused : (count : ℕ) (calls : List Call) → IsAmong (Denied count) (effects_in calls) → (asked : Asked) × IsAmong (RefusedCall asked count) calls
in_refused count [] h = absurd h
in_refused count (Read at bytes ∷ calls) h = let b = in_refused count calls h in (b.0, inr b.1)
in_refused count (Wrote at bytes ∷ calls) h = apart (Denied count) Took (no_took count) (effects_in calls) h (λ k. let b = in_refused count calls k in (b.0, inr b.1))
in_refused count (RefusedCall what n ∷ calls) h = elim (among_either (Denied count) (effects_in calls) (Denied n ∷ []) h) [
  | inl k ↦ (let b = in_refused count calls k in (b.0, inr b.1))
  | inr k ↦ (what, inl (ap (RefusedCall what) (same_count count n (among_one (Denied count) (Denied n) k))))
]
in_refused count (call ∷ calls) h = apart (Denied count) Unasked (no_unasked count) (effects_in calls) h (λ k. let b = in_refused count calls k in (b.0, inr b.1))

-- ---- counts

denied_in : (count : ℕ) (effects : List Effect) → IsAmong (Denied count) effects → IsAmong count (denials effects)
denied_in count [] h = absurd h
denied_in count (Denied n ∷ effects) (inl e) = inl (same_count count n e)
denied_in count (Denied n ∷ effects) (inr h) = inr (denied_in count effects h)
denied_in count (Took ∷ effects) (inl e) = absurd (no_took count e)
denied_in count (Unasked ∷ effects) (inl e) = absurd (no_unasked count e)
denied_in count (e ∷ effects) (inr h) = denied_in count effects h

in_denied : (count : ℕ) (effects : List Effect) → IsAmong count (denials effects) → IsAmong (Denied count) effects
in_denied count [] h = absurd h
in_denied count (Denied n ∷ effects) (inl e) = inl (ap Denied e)
in_denied count (Denied n ∷ effects) (inr h) = inr (in_denied count effects h)
in_denied count (e ∷ effects) h = inr (in_denied count effects h)

-- ---- both ways

pub faults_are_refusals : (a b : At) (calls : List Call) (added : List Rec) (count : ℕ) → Happens a b calls added → IsAmong (rec.Fault count) added
    → (asked : Asked) × IsAmong (RefusedCall asked count) calls
faults_are_refusals a b calls added count h fault =
    in_refused count calls (in_denied count (effects_in calls)
    (subst (λ counts. IsAmong count counts) h.faults (denied_in count (effects_told added) (fault_told count added fault))))

pub refusals_are_faults : (a b : At) (calls : List Call) (added : List Rec) (asked : Asked) (count : ℕ) → Happens a b calls added
    → IsAmong (RefusedCall asked count) calls → IsAmong (rec.Fault count) added
refusals_are_faults a b calls added asked count h refused =
    told_fault count added (in_denied count (effects_told added)
    (subst (λ counts. IsAmong count counts) (sym h.faults) (denied_in count (effects_in calls) (refused_in asked count calls refused))))
