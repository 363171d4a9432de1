-- Calls, one behind the other, and what comes of them in a step.
use Rattle.std.proofs.Common.{◌≡◌, ℕ, List, [], ◌++◌, refl, sym, ◌∙◌, ap, subst, append_assoc, append-nil}
use Rattle.device_log.specs.Calls.{Call}
use Rattle.cache_model.specs.declared.record.Rec.{Rec}
use Rattle.cache_model.specs.State.{after_all}
use Rattle.cache_model.specs.Kept.{Kept, state_of, with_records}
use Rattle.cache_model.specs.Permit.{Permit, Setting}
use Rattle.cache_model.specs.Given.{denials, effects_in, effects_told}
use Rattle.cache_model.proofs.Steps.{after_all-append}
use Rattle.call_laws.specs.Moments.{At, Encloses, IsStillAt}
use Rattle.call_laws.specs.Happens.{Happens}
use Rattle.call_laws.specs.Serves.{InStep, IsCall, Upshots}
use Rattle.call_laws.proofs.Accounts.{denials_append, effects_append, told_append}

-- ---- what is kept

then_more : (old mid new : Kept) (a b : List Rec) → mid ≡ with_records old a → new ≡ with_records mid b → new ≡ with_records old (a ++ b)
then_more old mid new a b first last =
    last ∙ (ap (λ k. with_records k b) first
    ∙ ap (λ recs. let k : Kept = record { told = old.told; base = old.base; since = recs } in k) (append_assoc old.since a b))

pub nothing_more : (k : Kept) → k ≡ with_records k []
nothing_more k = sym (ap (λ recs. let x : Kept = record { told = k.told; base = k.base; since = recs } in x) (append-nil k.since))

-- what these records stand for
pub state_behind : (old new : Kept) (a : List Rec) → new ≡ with_records old a → state_of new ≡ after_all (state_of old) a
state_behind old new a is = ap state_of is ∙ after_all-append old.base old.since a

-- ---- a step

pub encloses_first : {now : ℕ} {a : At} {p : Permit} {earlier : List Call} (c d : List Call) → Encloses now a p earlier (d ++ c)
    → Encloses now a p earlier c
encloses_first {earlier = earlier} c d h = record {
  later = h.later ++ d;
  moment = h.moment;
  packed = h.packed;
  syncs = h.syncs;
  past = h.past;
  events = h.events ∙ (ap (λ calls. h.later ++ calls) (append_assoc d c earlier) ∙ sym (append_assoc h.later d (c ++ earlier)));
}

-- so it is at the moment at which the first of two calls ends
pub encloses_later : {now : ℕ} {a b : At} {p : Permit} {earlier : List Call} (c d : List Call) → b.setting ≡ a.setting
    → b.device.past ≡ c ++ a.device.past → Encloses now a p earlier (d ++ c) → Encloses now b p (c ++ earlier) d
encloses_later {earlier = earlier} c d setting past h = record {
  later = h.later;
  moment = h.moment;
  packed = h.packed ∙ sym (ap (λ (s : Setting). s.packed) setting);
  syncs = h.syncs ∙ sym (ap (λ (s : Setting). s.syncs) setting);
  past = past ∙ (ap (λ calls. c ++ calls) h.past ∙ sym (append_assoc c earlier _));
  events = h.events ∙ ap (λ calls. h.later ++ calls) (append_assoc d c earlier);
}

-- ---- what happens

pub happens_nothing : {a b : At} → IsStillAt a b → Happens a b [] []
happens_nothing {a} {b} h = record {
  setting = h.setting;
  past = h.past;
  adds = h.kept ∙ nothing_more a.kept;
  faults = refl;
  effects = λ unsynced. refl;
}

pub happens_both : {a b c : At} {calls more : List Call} {added others : List Rec} → Happens a b calls added → Happens b c more others
    → Happens a c (more ++ calls) (added ++ others)
happens_both {a} {b} {c} {calls} {more} {added} {others} f l = record {
  setting = l.setting ∙ f.setting;
  past = l.past ∙ (ap (λ past. more ++ past) f.past ∙ sym (append_assoc more calls a.device.past));
  adds = then_more a.kept b.kept c.kept added others f.adds l.adds;
  faults = ap denials (told_append added others) ∙ (denials_append (effects_told added) (effects_told others)
      ∙ (ap (λ counts. counts ++ denials (effects_told others)) f.faults ∙ (ap (λ counts. denials (effects_in calls) ++ counts) l.faults
      ∙ (sym (denials_append (effects_in calls) (effects_in more)) ∙ ap denials (sym (effects_append more calls))))));
  effects = λ unsynced.
      told_append added others
      ∙ (ap (λ effects. effects ++ effects_told others) (f.effects unsynced)
      ∙ (ap (λ effects. effects_in calls ++ effects) (l.effects (ap (λ (s : Setting). s.syncs) f.setting ∙ unsynced)) ∙ sym (effects_append more calls)));
}

-- ---- what comes of it

-- what comes of a call is something else too
pub call_as : {now : ℕ} {a b : At} {comes others : Upshots}
    → ((p : Permit) (earlier calls : List Call) (added : List Rec) → Encloses now a p earlier calls → Happens a b calls added
    → (let c : InStep = record { step = p; earlier = earlier; calls = calls; state = state_of a.kept; added = added } in comes c → others c))
    → IsCall now a b comes → IsCall now a b others
call_as law f = record {
  calls = f.calls;
  added = f.added;
  happens = f.happens;
  does = λ p earlier step. law p earlier f.calls f.added step f.happens (f.does p earlier step);
}

-- what comes of nothing
pub call_still : {now : ℕ} {a b : At} {comes : Upshots} → IsStillAt a b
    → ((p : Permit) (earlier : List Call) → Encloses now a p earlier []
    → comes (record { step = p; earlier = earlier; calls = []; state = state_of a.kept; added = [] }))
    → IsCall now a b comes
call_still still each = record { calls = []; added = []; happens = happens_nothing still; does = λ p earlier step. each p earlier step }

-- what comes of one call and then of another comes of both
pub call_then : {now : ℕ} {a b c : At} {first last all : Upshots}
    → ((p : Permit) (earlier calls more : List Call) (added others : List Rec)
    → first (record { step = p; earlier = earlier; calls = calls; state = state_of a.kept; added = added })
    → last (record { step = p; earlier = calls ++ earlier; calls = more; state = after_all (state_of a.kept) added; added = others })
    → all (record { step = p; earlier = earlier; calls = more ++ calls; state = state_of a.kept; added = added ++ others }))
    → IsCall now a b first → IsCall now b c last → IsCall now a c all
call_then {now} {a} {b} {c} {first} {last} {all} law f l = record {
  calls = l.calls ++ f.calls;
  added = f.added ++ l.added;
  happens = happens_both f.happens l.happens;
  does = λ p earlier step.
      let inside : Encloses now b p (f.calls ++ earlier) l.calls = encloses_later f.calls l.calls f.happens.setting f.happens.past step in
      let before : Encloses now a p earlier f.calls = encloses_first f.calls l.calls step in
      law p earlier f.calls l.calls f.added l.added (f.does p earlier before)
      (subst (λ s. last (record { step = p; earlier = f.calls ++ earlier; calls = l.calls; state = s; added = l.added }))
      (state_behind a.kept b.kept f.added f.happens.adds) (l.does p (f.calls ++ earlier) inside));
}
