-- What calls and records of two calls, one behind the other, tell together.
use Rattle.std.proofs.Common.{◌≡◌, List, [], ◌∷◌, ◌++◌, refl, sym, ◌∙◌, ap, append_assoc, append-nil}
use Rattle.device_log.specs.Calls.{Call, Read, Wrote, RefusedCall}
use Rattle.cache_model.specs.declared.record.Rec.{Rec}
use Rattle.cache_model.specs.declared.record.Rec.TheVariants as rec
use Rattle.cache_model.specs.Given.{Effect, Took, Denied, denials, effects_in, effects_told}

more_behind : {X : Type 0} (f l e all : List X) → all ≡ f ++ l → all ++ e ≡ f ++ (l ++ e)
more_behind f l e all is = ap (λ xs. xs ++ e) is ∙ append_assoc f l e

pub effects_append : (later earlier : List Call) → effects_in (later ++ earlier) ≡ effects_in earlier ++ effects_in later
effects_append [] earlier = sym (append-nil (effects_in earlier))
effects_append (Read at bytes ∷ later) earlier = effects_append later earlier
effects_append (Wrote at bytes ∷ later) earlier = more_behind (effects_in earlier) (effects_in later) _ _ (effects_append later earlier)
effects_append (RefusedCall asked count ∷ later) earlier = more_behind (effects_in earlier) (effects_in later) _ _ (effects_append later earlier)
effects_append (call ∷ later) earlier = more_behind (effects_in earlier) (effects_in later) _ _ (effects_append later earlier)

pub told_append : (a b : List Rec) → effects_told (a ++ b) ≡ effects_told a ++ effects_told b
told_append [] b = refl
told_append (rec.Fault count ∷ a) b = ap (λ es. Denied count ∷ es) (told_append a b)
told_append (rec.Began cursor floor ∷ a) b = ap (λ es. Took ∷ es) (told_append a b)
told_append (r ∷ a) b = told_append a b

pub denials_append : (a b : List Effect) → denials (a ++ b) ≡ denials a ++ denials b
denials_append [] b = refl
denials_append (Denied count ∷ a) b = ap (λ cs. count ∷ cs) (denials_append a b)
denials_append (e ∷ a) b = denials_append a b
