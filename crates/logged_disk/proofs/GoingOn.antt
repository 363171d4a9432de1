-- Which later moments of a device its calls lead to.
use Rattle.std.proofs.Common.{◌≡◌, ℕ, ◌/◌, ◌-◌, ◌^◌, ◌≤◌, true, false, List, [], ◌∷◌, ◌++◌, ◌||◌, ◌&&◌, Result, Ok, Err, refl, sym, ◌∙◌, ap, subst, arith, append_assoc, length}
use Rattle.device_log.specs.Causes.{HasCause}
use Rattle.device_log.specs.Calls.{ToRead, ToWrite, Call, Read, Wrote, Synced, RefusedCall, Told, PowerCut, Flipped}
use Rattle.device_log.specs.Seen.{seen_of}
use Rattle.device_log.specs.Faults.{faults_of, next_count, is_untold}
use Rattle.logged_disk.specs.Device.{DeviceState, has_flip, has_cut, TellsAll, SeenStays, Keeps, Logs, IsAfter, IsAsked}

-- of calls behind others
flips_append : (later older : List Call) → has_flip (later ++ older) ≡ has_flip later || has_flip older
unfolding has_flip
flips_append [] older = refl
flips_append (Read at bytes ∷ later) older = flips_append later older
flips_append (Wrote at bytes ∷ later) older = flips_append later older
flips_append (Synced ∷ later) older = flips_append later older
flips_append (RefusedCall what count ∷ later) older = flips_append later older
flips_append (Told act ∷ later) older = flips_append later older
flips_append (PowerCut choice left ∷ later) older = flips_append later older
flips_append (Flipped at byte ∷ later) older = refl

cuts_append : (later older : List Call) → has_cut (later ++ older) ≡ has_cut later || has_cut older
unfolding has_cut
cuts_append [] older = refl
cuts_append (Read at bytes ∷ later) older = cuts_append later older
cuts_append (Wrote at bytes ∷ later) older = cuts_append later older
cuts_append (Synced ∷ later) older = cuts_append later older
cuts_append (RefusedCall what count ∷ later) older = cuts_append later older
cuts_append (Told act ∷ later) older = cuts_append later older
cuts_append (PowerCut choice left ∷ later) older = refl
cuts_append (Flipped at byte ∷ later) older = cuts_append later older

untold_append : (later older : List Call) → is_untold (later ++ older) ≡ is_untold later && is_untold older
unfolding is_untold
untold_append [] older = refl
untold_append (Read at bytes ∷ later) older = untold_append later older
untold_append (Wrote at bytes ∷ later) older = untold_append later older
untold_append (Synced ∷ later) older = untold_append later older
untold_append (RefusedCall what count ∷ later) older = untold_append later older
untold_append (Told act ∷ later) older = refl
untold_append (PowerCut choice left ∷ later) older = untold_append later older
untold_append (Flipped at byte ∷ later) older = untold_append later older

no_flip : has_flip [] ≡ false
unfolding has_flip
no_flip = refl

no_cut : has_cut [] ≡ false
unfolding has_cut
no_cut = refl

pub none_told : is_untold [] ≡ true
unfolding is_untold
none_told = refl

module _ (call : Call) (older : List Call) where
  one_flip : has_flip (call ∷ []) ≡ false → has_flip (call ∷ older) ≡ has_flip older
  one_flip none = flips_append (call ∷ []) older ∙ ap (λ b. b || has_flip older) none

pub same_past : (old new : DeviceState) → new.first ≡ old.first → new.past ≡ old.past → SeenStays old new
same_past old new first past j = ap (λ f. seen_of f new.past j) first ∙ ap (λ p. seen_of old.first p j) past

pub stays_put : (s : DeviceState) → IsAfter s s
stays_put s = record {
  size = refl;
  trust = omega arith;
  number = refl;
  switch = refl;
  settled = refl;
  first = refl;
  made = [];
  past = refl;
  unturned = no_flip;
  untold = none_told;
  uncut = no_cut;
}

-- where it is the same
pub stays_as : (old new : DeviceState) → new ≡ old → IsAfter old new
stays_as old new same = subst (λ s. IsAfter old s) (sym same) (stays_put old)

pub goes_further : (a b c : DeviceState) → IsAfter a b → IsAfter b c → IsAfter a c
goes_further a b c front back = record {
  size = back.size ∙ front.size;
  trust = omega (arith, front.trust, back.trust);
  number = back.number ∙ front.number;
  switch = back.switch ∙ front.switch;
  settled = back.settled ∙ front.settled;
  first = back.first ∙ front.first;
  made = back.made ++ front.made;
  past = back.past ∙ (ap (λ l. back.made ++ l) front.past ∙ sym (append_assoc back.made front.made a.past));
  unturned = flips_append back.made front.made ∙ (ap (λ b. b || has_flip front.made) back.unturned ∙ front.unturned);
  untold = untold_append back.made front.made ∙ (ap (λ b. b && is_untold front.made) back.untold ∙ front.untold);
  uncut = cuts_append back.made front.made ∙ (ap (λ b. b || has_cut front.made) back.uncut ∙ front.uncut);
}

-- what is told then was told before
pub told_before : (old new : DeviceState) → IsAfter old new → TellsAll new → TellsAll old
told_before old new on told = record {
  trusted = omega (arith, on.trust, told.trusted);
  unturned = sym (ap (λ b. b || has_flip old.past) on.unturned) ∙ (sym (flips_append on.made old.past) ∙ (ap has_flip (sym on.past) ∙ told.unturned));
}

-- a switch that was told nothing before is told nothing still
pub untold_still : (old new : DeviceState) → IsAfter old new → is_untold old.past ≡ true → is_untold new.past ≡ true
untold_still old new on none =
    ap is_untold on.past ∙ (untold_append on.made old.past ∙ (ap (λ b. b && is_untold old.past) on.untold ∙ none))

module _ (calls blocks : ℕ) (old new : DeviceState) (keeps : Keeps calls blocks old new) where
  by_calls : (made : List Call) → new.past ≡ made ++ old.past → has_flip made ≡ false → is_untold made ≡ true → has_cut made ≡ false
      → IsAfter old new
  by_calls made past unturned untold uncut = record {
    size = keeps.size;
    trust = keeps.trust;
    number = keeps.number;
    switch = keeps.switch;
    settled = keeps.settled;
    first = keeps.first;
    made = made;
    past = past;
    unturned = unturned;
    untold = untold;
    uncut = uncut;
  }

  pub goes_by_none : new.past ≡ old.past → IsAfter old new
  goes_by_none past = by_calls [] past no_flip none_told no_cut

  module _ {T E : Type 0} (result : Result T E) where
    pub goes_by_read : (at : ℕ) (bytes : List ℕ) → Logs (Read at bytes) result old new → IsAfter old new
    unfolding has_flip is_untold has_cut
    goes_by_read at bytes logs =
        elim result as (λ r. Logs (Read at bytes) r old new → IsAfter old new) [
          | Ok x ↦ λ went. by_calls (Read at bytes ∷ []) went.past refl refl refl
          | Err e ↦ λ failed. by_calls (RefusedCall (ToRead at (length bytes / 512)) new.faults ∷ []) failed.0 refl refl refl
        ] logs

    pub goes_by_write : (at : ℕ) (bytes : List ℕ) → Logs (Wrote at bytes) result old new → IsAfter old new
    unfolding has_flip is_untold has_cut
    goes_by_write at bytes logs =
        elim result as (λ r. Logs (Wrote at bytes) r old new → IsAfter old new) [
          | Ok x ↦ λ went. by_calls (Wrote at bytes ∷ []) went.past refl refl refl
          | Err e ↦ λ failed. by_calls (RefusedCall (ToWrite at (length bytes / 512) failed.0.0) new.faults ∷ []) failed.0.1 refl refl refl
        ] logs

-- a count of faults fits its type
faults_fit : (past : List Call) → faults_of past ≤ 2 ^ 64 - 1
unfolding faults_of
faults_fit [] = omega arith
faults_fit (Read at bytes ∷ older) = faults_fit older
faults_fit (Wrote at bytes ∷ older) = faults_fit older
faults_fit (Synced ∷ older) = faults_fit older
faults_fit (RefusedCall what count ∷ older) = omega arith
faults_fit (Told act ∷ older) = faults_fit older
faults_fit (PowerCut choice left ∷ older) = faults_fit older
faults_fit (Flipped at byte ∷ older) = faults_fit older

-- the count behind a call rose where the call failed, and nowhere else
pub cause_of : {T E : Type 0} (result : Result T E) (call : Call) (old new : DeviceState)
    → old.faults ≡ faults_of old.past → Logs call result old new → HasCause old.faults new.faults result
cause_of result call old new counts logs =
    let fits = faults_fit old.past in
    elim result as (λ r. Logs call r old new → HasCause old.faults new.faults r) [
      | Ok x ↦ λ went. record { later = (let same : new.faults ≡ old.faults = went.faults in omega arith); failed = tt }
      | Err e ↦ λ failed. let counted : new.faults ≡ next_count old.faults = failed.1 in
          record { later = omega (arith, counted, counts, fits); failed = omega (arith, counted) }
    ] logs

pub asked_nothing : (s : DeviceState) → IsAsked s s
asked_nothing s = record {
  keeps = record { size = refl; trust = omega arith; number = refl; switch = refl; settled = refl; first = refl; calls = omega arith; blocks = omega arith };
  later = omega arith;
  goes = stays_put s;
}

pub asked_further : (a b c : DeviceState) → IsAsked a b → IsAsked b c → IsAsked a c
asked_further a b c front back = record {
  keeps = record {
    size = back.keeps.size ∙ front.keeps.size;
    trust = omega (arith, front.keeps.trust, back.keeps.trust);
    number = back.keeps.number ∙ front.keeps.number;
    switch = back.keeps.switch ∙ front.keeps.switch;
    settled = back.keeps.settled ∙ front.keeps.settled;
    first = back.keeps.first ∙ front.keeps.first;
    calls = omega (arith, front.keeps.calls, back.keeps.calls);
    blocks = omega (arith, front.keeps.blocks, back.keeps.blocks);
  };
  later = omega (arith, front.later, back.later);
  goes = goes_further a b c front.goes back.goes;
}
