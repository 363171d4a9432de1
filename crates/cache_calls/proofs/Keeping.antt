-- What every call keeps is kept by several.
use Rattle.std.proofs.Common.{◌≡◌, true, false, refl, sym, ◌∙◌, arith}
use Rattle.logged_disk.proofs.GoingOn.{goes_further, stays_put}
use Rattle.call_laws.specs.Moments.{At}
use Rattle.power_cuts.proofs.Surviving.{survives_on, survives_still}
use Rattle.cache_calls.specs.Keeping.{Goes, IsUnharmed, KeepsUnharmed, state_at}

module _ {S : Type 0} {at : S → At} {holds : S → Type 0} where
  pub goes_still : (a : S) → holds a → Goes at holds a a
  goes_still a h = record { holds_then = h; setting = refl; goes = stays_put (at a).device; survives = survives_still (at a).device (at a).device (state_at (at a)) (state_at (at a)) refl (record { geometry = refl; marks = refl; finished = refl }); later = omega arith }

  pub goes_then : {a b c : S} → Goes at holds a b → Goes at holds b c → Goes at holds a c
  goes_then {a} {b} {c} first next = record {
    holds_then = next.holds_then;
    setting = next.setting ∙ first.setting;
    goes = goes_further (at a).device (at b).device (at c).device first.goes next.goes;
    survives = survives_on (at a).device (at b).device (at c).device (state_at (at a)) (state_at (at b)) (state_at (at c)) next.goes first.survives next.survives;
    later = omega (arith, first.later, next.later);
  }

  pub keeps_still : (a : S) → holds a → KeepsUnharmed at holds a a
  keeps_still a h = record { goes_on = goes_still a h; unharmed = λ (u : IsUnharmed (at a)). u }

  pub keeps_then : {a b c : S} → KeepsUnharmed at holds a b → KeepsUnharmed at holds b c → KeepsUnharmed at holds a c
  keeps_then {a} first next = record {
    goes_on = goes_then first.goes_on next.goes_on;
    unharmed = λ (u : IsUnharmed (at a)). next.unharmed (first.unharmed u);
  }
