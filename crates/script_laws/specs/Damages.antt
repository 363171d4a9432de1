-- Damage that lines answer.
use Rattle.std.specs.Prelude.{◌≡◌, true, List, Option, Some}
use Rattle.cache_model.specs.declared.cause.Cause.{Cause}
use Rattle.cache_model.specs.declared.record.Rec.{Rec}
use Rattle.cache_model.specs.State.{State, after_all}
use Rattle.cache_model.specs.Permit.{Intent, Permit, Reason}
use Rattle.cache_model.specs.Legal.{IsStep}
use Rattle.cache_model.specs.Damage.{has_damage, is_damage}
use Rattle.script_grammar.specs.declared.step.Step.{Step}
use Rattle.script_run.specs.Run.{Run}
use Rattle.script_run.specs.Turn.{Turn}
use Rattle.script_run.specs.Answers.{session_said}
use Rattle.script_run.specs.Takes.{SessionTakes}
use Rattle.script_laws.specs.Causes.{cause_answered}

-- where a piece was told as damaged, one is behind each step
abbrev pub DamageStays : Type 0
DamageStays = (p : Permit) (s : State) (intents : List Intent) (added : List Rec) (refused : Option Reason) → IsStep p s intents added refused
    → has_damage s ≡ true → has_damage (after_all s added) ≡ true

-- behind a line on a session that answers damage, a piece was told as damaged
abbrev pub DamageIsRecorded : Type 0
DamageIsRecorded = (run : Run) (s : State) (turn : Turn) (step : Step) (why : Cause) → SessionTakes run s turn step
    → cause_answered (session_said run s (after_all s turn.added) turn step) ≡ Some why → is_damage why ≡ true
    → has_damage (after_all s turn.added) ≡ true
