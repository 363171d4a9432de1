-- What a call keeps, behind one call and behind several.
use Rattle.std.proofs.Common.{◌≡◌, ℕ, append-nil, append_assoc, false, List, [], ◌∷◌, ◌++◌, refl, sym, ◌∙◌, ap, subst}
use Rattle.std.proofs.lemmas.List.{append_cancel_left}
use Rattle.device_log.specs.Calls.{Call}
use Rattle.logged_disk.specs.Device.{DeviceState as Device, IsAfter, TellsAll}
use Rattle.logged_disk.proofs.GoingOn.{goes_further, stays_as, told_before}
use Rattle.cache_model.specs.declared.answer.NextAnswer.{NextAnswer}
use Rattle.cache_model.specs.declared.answer.NextAnswer.TheVariants as next
use Rattle.cache_model.specs.declared.record.Rec.{Rec}
use Rattle.cache_model.specs.declared.record.Rec.TheVariants as rec
use Rattle.cache_model.specs.State.{State, after_all, state_after}
use Rattle.cache_model.specs.Given.{effects_in, effects_told}
use Rattle.cache_model.specs.Legal.{answer_record}
use Rattle.cache_model.specs.Kept.{Kept, state_of, with_records}
use Rattle.cache_model.proofs.Steps.{after_all-append}
use Rattle.cache_model.specs.Damage.{TellNoDamage, tells_damage, has_damage}
use Rattle.power_cuts.specs.Surviving.{AllLeaveSyncs, LeaveCopies, NoneMade}
use Rattle.power_cuts.proofs.Surviving.{calls_survive, kept_left, survives_on}
use Rattle.stripe_answers.specs.Unharmed.{StripeIsUnharmed}
use Rattle.piece_answers.specs.Faults.{IsAccounted, HasEffects}
use Rattle.piece_answers.specs.Covers.{calls_since}
use Rattle.stripe_core.specs.Between.{IsBetween}
use Rattle.piece_answers.proofs.Covering.{since_is}
use Rattle.piece_answers.proofs.Effects.{told_append, effects_none, effects_then}

-- ---- each has its record

with_none : (k : Kept) → k ≡ with_records k []
with_none k = ap (λ recs. let l : Kept = record { told = k.told; base = k.base; since = recs } in l) (sym (append-nil k.since))

with_more : (k : Kept) (xs ys : List Rec) → with_records (with_records k xs) ys ≡ with_records k (xs ++ ys)
with_more k xs ys = ap (λ recs. let l : Kept = record { told = k.told; base = k.base; since = recs } in l) (append_assoc k.since xs ys)

pub accounted_quiet : (a b : List Call) (k l : Kept) (recs : List Rec) → b ≡ a → l ≡ with_records k recs → effects_told recs ≡ [] → IsAccounted a b k l
accounted_quiet a b k l recs same is none = record { added = recs; adds = is; faults = subst (HasEffects a b) (sym none) (effects_none a b same) }

pub accounted_none : (a b : List Call) (k l : Kept) → b ≡ a → l ≡ k → IsAccounted a b k l
accounted_none a b k l same kept = accounted_quiet a b k l [] same (kept ∙ with_none k) refl

pub accounted_then : (a b c : List Call) (k l m : Kept) → IsAccounted a b k l → IsAccounted b c l m → IsAccounted a c k m
accounted_then a b c k l m first next = record {
  added = first.added ++ next.added;
  adds = next.adds ∙ (ap (λ j. with_records j next.added) first.adds ∙ with_more k first.added next.added);
  faults = subst (HasEffects a c) (sym (told_append first.added next.added)) (effects_then a b c (effects_told first.added) (effects_told next.added) first.faults next.faults);
}

-- the records that were added tell the calls that were refused
pub accounted_is : (a b : List Call) (k l : Kept) (added : List Rec) → IsAccounted a b k l → l ≡ with_records k added → effects_told added ≡ effects_in (calls_since a b)
accounted_is a b k l added h is =
    let same : added ≡ h.added = append_cancel_left k.since added h.added (ap (λ (j : Kept). j.since) (sym is ∙ h.adds)) in
    ap effects_told same ∙ (sym h.faults.are ∙ ap effects_in (sym (since_is a b h.faults.made h.faults.past)))

-- ---- one call behind another

pub between-trans : (a b c : Device) (k l m : Kept) → IsBetween a b k l → IsBetween b c l m → IsBetween a c k m
between-trans a b c k l m first next = record {
  goes = goes_further a b c first.goes next.goes;
  accounted = accounted_then a.past b.past c.past k l m first.accounted next.accounted;
  unharmed = λ (h : StripeIsUnharmed a (state_of k)). next.unharmed (first.unharmed h);
  survives = survives_on a b c (state_of k) (state_of l) (state_of m) next.goes first.survives next.survives;
}

-- ---- records that tell no damage

-- a record that tells no damage leaves none told where none was
after_record : (s : State) (r : Rec) → tells_damage r ≡ false → has_damage s ≡ false → has_damage (state_after s r) ≡ false
after_record s (rec.Formatted geometry) none h = refl
after_record s (rec.Opened geometry serial cursor floor next_put clean list) none h = refl
after_record s (rec.Damaged piece place kept found) none h = cc
after_record s _ none h = h

after_records : (s : State) (recs : List Rec) → TellNoDamage recs → has_damage s ≡ false → has_damage (after_all s recs) ≡ false
after_records s [] none h = h
after_records s (r ∷ recs) none h = after_records (state_after s r) recs none.1 (after_record s r none.0 h)

-- a call that adds records which tell no damage, where its device tells its content
pub between-adds : (a b : Device) (old new : Kept) (recs : List Rec) → new ≡ with_records old recs → IsAfter a b → HasEffects a.past b.past (effects_told recs)
    → (TellsAll b → TellNoDamage recs) → LeaveCopies (state_of old).geometry a.past b.past → AllLeaveSyncs recs → IsBetween a b old new
between-adds a b old new recs is goes faults none leaves syncs = record {
  goes = goes;
  accounted = record { added = recs; adds = is; faults = faults };
  unharmed = λ (h : StripeIsUnharmed a (state_of old)). record {
    unharmed = λ told.
        let before : TellsAll a = told_before a b goes told in
        subst (λ s. has_damage s ≡ false) (sym (ap state_of is ∙ after_all-append old.base old.since recs)) (after_records (state_of old) recs (none told) (h.unharmed before));
  };
  survives = calls_survive a b (state_of old) (state_of new) goes leaves (kept_left old new recs is syncs);
}

-- a call that adds no record and asks no device
pub between-none : (a b : Device) (old new : Kept) → new ≡ old → IsAfter a b → b.past ≡ a.past → IsBetween a b old new
between-none a b old new same goes past = between-adds a b old new [] (same ∙ with_none old) goes (effects_none a.past b.past past) (λ told. tt)
    (subst (LeaveCopies (state_of old).geometry a.past) (sym past) NoneMade) tt

-- a call that adds records which tell neither damage nor an effect, and asks no device
pub between-tells : (a b : Device) (old new : Kept) (recs : List Rec) → b ≡ a → new ≡ with_records old recs → effects_told recs ≡ [] → TellNoDamage recs → AllLeaveSyncs recs → IsBetween a b old new
between-tells a b old new recs same is quiet none syncs =
    between-adds a b old new recs is (stays_as a b same) (subst (HasEffects a.past b.past) (sym quiet) (effects_none a.past b.past (ap (λ (d : Device). d.past) same))) (λ told. none)
    (subst (λ (d : Device). LeaveCopies (state_of old).geometry a.past d.past) (sym same) NoneMade) syncs

-- what a reader was answered tells no damage
pub answer_tells_none : (reader : ℕ) (answer : NextAnswer) → tells_damage (answer_record reader answer) ≡ false
answer_tells_none reader (next.Gave index length) = refl
answer_tells_none reader (next.Ended length) = refl
answer_tells_none reader (next.Waited cut) = refl
answer_tells_none reader (next.Broke why) = refl

-- and no effect
pub answer_tells_no_fault : (reader : ℕ) (answer : NextAnswer) → effects_told (answer_record reader answer ∷ []) ≡ []
answer_tells_no_fault reader (next.Gave index length) = refl
answer_tells_no_fault reader (next.Ended length) = refl
answer_tells_no_fault reader (next.Waited cut) = refl
answer_tells_no_fault reader (next.Broke why) = refl

-- where nothing changed
pub between_same : (a b : Device) (k l : Kept) → b ≡ a → l ≡ k → IsBetween a b k l
between_same a b k l device kept = between-none a b k l kept (stays_as a b device) (ap (λ (d : Device). d.past) device)
