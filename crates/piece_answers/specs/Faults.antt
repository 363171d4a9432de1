-- What the calls of a device do beside reading, and that each such call has its record.
use Rattle.std.specs.Prelude.{ℕ, ◌≡◌, ◌≤◌, List, [], ◌∷◌, ◌++◌}
use Rattle.device_log.specs.Calls.{Call}
use Rattle.cache_model.specs.declared.record.Rec.{Rec}
use Rattle.cache_model.specs.Kept.{Kept, with_records}
use Rattle.cache_model.specs.Given.{Effect, Denied, effects_in, effects_told}
use Rattle.cache_model.specs.Outcomes.{Outcome, ReadRefused}

-- the calls between two moments of a device's log have these effects
pub record HasEffects (before after : List Call) (effects : List Effect) : Type 0 where
  pub made : List Call
  pub past : after ≡ made ++ before
  pub are : effects_in made ≡ effects

-- where a piece was refused, the count is not above this one
abbrev pub CountsUpTo : ℕ → Outcome → Type 0
CountsUpTo faults (ReadRefused count) = count ≤ faults
CountsUpTo faults _ = Unit {0}

-- the effect of the read of a piece: a refusal has one
abbrev pub effects_of : Outcome → List Effect
effects_of (ReadRefused count) = Denied count ∷ []
effects_of _ = []

-- of each piece in turn
abbrev pub effects_among : List Outcome → List Effect
effects_among [] = []
effects_among (o ∷ outcomes) = effects_of o ++ effects_among outcomes

-- each call of the device meanwhile that was no read has its record, in order, and no other is there
pub record IsAccounted (before after : List Call) (old new : Kept) : Type 0 where
  pub added : List Rec
  pub adds : new ≡ with_records old added
  pub faults : HasEffects before after (effects_told added)
