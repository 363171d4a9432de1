-- What is asked fixes the records of a step but for the digests of copies, and why it did less, of two devices that tell no
-- trouble.
use Rattle.std.proofs.Common.{◌≡◌, List, [], ◌∷◌, ◌++◌, refl, sym, ◌∙◌, ap, subst, false, inl, inr}
use Rattle.std.specs.Prelude.{Option, map}
use Rattle.std.proofs.lemmas.List.{map-append}
use Rattle.cache_model.specs.declared.record.Rec.{Rec}
use Rattle.cache_model.specs.State.{State, after_all}
use Rattle.cache_model.specs.Permit.{Intent, Permit, Reason, Work, work_after}
use Rattle.cache_model.specs.Legal.{Advances, IsStep, MayGrow, more, nothing}
use Rattle.model_laws.specs.Agreeing.{AreLike, HoldTheSame, IsUntroubled, TellTheSame, is_trouble, without_copy_digest}
use Rattle.model_laws.proofs.Calm.{groups_agree}
use Rattle.model_laws.proofs.DigestSteps.{all_alike}
use Rattle.cache_model.proofs.Steps.{all_parts, seen}

pub advances_agree : (p q : Permit) (s t : State) (is : List Intent) (why : Option Reason) (one other : List Rec) (between after : Work)
    → AreLike p q → HoldTheSame s t
    → IsUntroubled one → IsUntroubled other → Advances p s is why one between → Advances q t is why other after → TellTheSame one other × (between ≡ after)
advances_agree p q s t [] why one other between after like hold calm calm2 h k = absurd h
advances_agree p q s t (i ∷ is) why one other between after like hold calm calm2 h k =
    let same : TellTheSame one other × (h.0 ≡ k.0) = groups_agree p q s t i one other h.0 k.0 like hold calm calm2 h.1 k.1 in
    (same.0, h.2 ∙ ap (work_after i is why) same.1 ∙ sym k.2)

-- where nothing is asked no group comes
pub none_comes : (p : Permit) (s : State) (is : List Intent) (why : Option Reason) (added : List Rec) (after : Work) → is ≡ []
    → Advances p s is why added after → ⊥
none_comes p s is why added after none h = subst (λ left. Advances p s left why added after) none h

-- group after group
told_append : (a b c d : List Rec) → TellTheSame a c → TellTheSame b d → TellTheSame (a ++ b) (c ++ d)
told_append a b c d first rest =
    map-append without_copy_digest a b
    ∙ ap (λ (recs : List Rec). recs ++ map without_copy_digest b) first
    ∙ ap (λ (recs : List Rec). map without_copy_digest c ++ recs) rest
    ∙ sym (map-append without_copy_digest c d)

grown_agree : {p q : Permit} {s t : State} {w after last : Work} {one other : List Rec} → AreLike p q → HoldTheSame s t
    → IsUntroubled one → IsUntroubled other
    → after.intents ≡ [] → last.intents ≡ [] → MayGrow p s w one after → MayGrow q t w other last → TellTheSame one other × (after ≡ last)
grown_agree {q = q} {t = t} {w = w} like hold calm calm2 done over nothing k = elim (seen k) [
  | inl e ↦ (ap (map without_copy_digest) (sym e.0), e.1)
  | inr v ↦ absurd (none_comes q t w.intents w.refused v.added v.between done v.first)
]
grown_agree {p} {q} {s} {t} {w} {after} {last} like hold calm calm2 done over (more {rest = tail} added between one others) k = elim (seen k) [
  | inl e ↦ absurd (none_comes p s w.intents w.refused added between (ap (λ (x : Work). x.intents) e.1 ∙ over) one)
  | inr v ↦
      let mine = all_parts (λ r. is_trouble r ≡ false) added tail calm in
      let theirs = all_parts (λ r. is_trouble r ≡ false) v.added v.rest (subst IsUntroubled v.is calm2) in
      let same : TellTheSame added v.added × (between ≡ v.between) =
      advances_agree p q s t w.intents w.refused added v.added between v.between like hold mine.0 theirs.0 one v.first in
      let behind : MayGrow q (after_all t v.added) between v.rest last = subst (λ (x : Work). MayGrow q (after_all t v.added) x v.rest last) (sym same.1) v.behind in
      let rest : TellTheSame tail v.rest × (after ≡ last) =
      grown_agree like (all_alike s t added v.added hold same.0) mine.1 theirs.1 done over others behind in
      (subst (TellTheSame (added ++ tail)) (sym v.is) (told_append added tail v.added v.rest same.0 rest.0), rest.1)
]

pub steps_agree : (p q : Permit) (s t : State) (intents : List Intent) (one other : List Rec) (why because : Option Reason) → AreLike p q
    → HoldTheSame s t
    → IsUntroubled one → IsUntroubled other → IsStep p s intents one why → IsStep q t intents other because
    → TellTheSame one other × HoldTheSame (after_all s one) (after_all t other) × (why ≡ because)
steps_agree p q s t intents one other why because like hold calm calm2 h k =
    let same = grown_agree like hold calm calm2 refl refl h.grows k.grows in
    (same.0, all_alike s t one other hold same.0, ap (λ (w : Work). w.refused) same.1)
