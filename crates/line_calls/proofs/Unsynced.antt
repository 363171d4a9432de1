-- A step of a stripe that does not sync.
use Rattle.std.proofs.Common.{◌≡◌, List, [], ap, false}
use Rattle.std.specs.Prelude.{Option}
use Rattle.cache_model.specs.declared.record.Rec.{Rec}
use Rattle.cache_model.specs.State.{State, after_all}
use Rattle.cache_model.specs.Permit.{Intent, Permit, Reason, to_do}
use Rattle.cache_model.specs.Given.{denials, effects_in, effects_told}
use Rattle.cache_model.specs.Legal.{IsQuiet, IsStep, MayGrow}

pub unsynced_step : (p : Permit) (s : State) (asks : List Intent) (added : List Rec) (why : Option Reason) → p.syncs ≡ false → MayGrow p s (to_do asks) added (record { intents = []; refused = why })
    → IsQuiet (after_all s added) → effects_told added ≡ effects_in p.events → IsStep p s asks added why
unsynced_step p s asks added why off grows quiet effects = record {
  grows = grows;
  quiet = quiet;
  faults = ap denials effects;
  effects = λ unsynced. effects;
}
