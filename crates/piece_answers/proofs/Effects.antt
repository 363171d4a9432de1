-- The effects of calls, one behind the other, and of the records that tell them.
use Rattle.std.proofs.Common.{◌≡◌, append-nil, append_assoc, List, [], ◌∷◌, ◌++◌, refl, sym, ◌∙◌, ap}
use Rattle.device_log.specs.Calls.{Call, Read, RefusedCall, Wrote}
use Rattle.cache_model.specs.declared.record.Rec.{Rec}
use Rattle.cache_model.specs.declared.record.Rec.TheVariants as rec
use Rattle.cache_model.specs.Given.{Effect, Denied, Took, Unasked, effects_in, effects_told}
use Rattle.piece_answers.specs.Faults.{HasEffects}

pub told_append : (xs ys : List Rec) → effects_told (xs ++ ys) ≡ effects_told xs ++ effects_told ys
told_append [] ys = refl
told_append (rec.Fault count ∷ xs) ys = ap (λ effects. Denied count ∷ effects) (told_append xs ys)
told_append (rec.Began cursor floor ∷ xs) ys = ap (λ effects. Took ∷ effects) (told_append xs ys)
told_append (_ ∷ xs) ys = told_append xs ys

one_more : (later older : List Call) (e : Effect) → effects_in (later ++ older) ≡ effects_in older ++ effects_in later
    → effects_in (later ++ older) ++ e ∷ [] ≡ effects_in older ++ (effects_in later ++ e ∷ [])
one_more later older e h = ap (λ effects. effects ++ e ∷ []) h ∙ append_assoc (effects_in older) (effects_in later) (e ∷ [])

pub effects_append : (later older : List Call) → effects_in (later ++ older) ≡ effects_in older ++ effects_in later
effects_append [] older = sym (append-nil (effects_in older))
effects_append (Read at bytes ∷ later) older = effects_append later older
effects_append (Wrote at bytes ∷ later) older = one_more later older Took (effects_append later older)
effects_append (RefusedCall asked count ∷ later) older = one_more later older (Denied count) (effects_append later older)
effects_append (_ ∷ later) older = one_more later older Unasked (effects_append later older)

pub effects_none : (a b : List Call) → b ≡ a → HasEffects a b []
effects_none a b same = record { made = []; past = same; are = refl }

pub effects_then : (a b c : List Call) (xs ys : List Effect) → HasEffects a b xs → HasEffects b c ys → HasEffects a c (xs ++ ys)
effects_then a b c xs ys first next = record {
  made = next.made ++ first.made;
  past = next.past ∙ (ap (λ calls. next.made ++ calls) first.past ∙ sym (append_assoc next.made first.made a));
  are = effects_append next.made first.made ∙ (ap (λ counts. counts ++ effects_in next.made) first.are ∙ ap (λ counts. xs ++ counts) next.are);
}
