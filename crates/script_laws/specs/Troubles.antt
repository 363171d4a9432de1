-- Device faults that lines answer.
use Rattle.std.specs.Prelude.{ℕ, ◌≡◌, ◌<◌, List, Option, Some}
use Rattle.device_log.specs.Causes.{Rose}
use Rattle.cache_model.specs.declared.record.Rec.{Rec}
use Rattle.cache_model.specs.declared.record.Rec.TheVariants as rec
use Rattle.cache_model.specs.State.{State, after_all}
use Rattle.cache_model.specs.Permit.{Intent, IsAmong, Permit, Reason, Faulted}
use Rattle.cache_model.specs.Legal.{IsStep}
use Rattle.step_laws.specs.StepLaws.{IsRefusalCount}
use Rattle.script_grammar.specs.declared.step.Step.{Step}
use Rattle.script_grammar.specs.declared.answer.StepAnswer.TheVariants as answer
use Rattle.script_run.specs.Losses.{NoLossIsAFault}
use Rattle.script_run.specs.Run.{Run}
use Rattle.script_run.specs.Turn.{Turn}
use Rattle.script_run.specs.Answers.{session_said}
use Rattle.script_run.specs.Takes.{SessionTakes}

-- once a fault was told, the count of the last one is above 0 behind each step
abbrev pub FaultStays : Type 0
FaultStays = (p : Permit) (s : State) (intents : List Intent) (added : List Rec) (refused : Option Reason) → IsStep p s intents added refused
    → 0 < s.fault → 0 < (after_all s added).fault

-- a fault of this count is recorded, which rose above that of the last fault before the step, and is that of a call that
-- the device refused in the step; and the count of the last fault is above 0
pub record IsFaultRecorded (p : Permit) (s : State) (added : List Rec) (count : ℕ) : Type 0 where
  pub recorded : IsAmong (rec.Fault count) added
  pub counted : IsRefusalCount p count
  pub risen : Rose s.fault count
  pub told : 0 < (after_all s added).fault

-- a step that the device refused recorded that fault
abbrev pub RefusalIsRecorded : Type 0
RefusalIsRecorded = (p : Permit) (s : State) (intents : List Intent) (added : List Rec) (count : ℕ)
    → IsStep p s intents added (Some (Faulted count)) → IsFaultRecorded p s added count

-- a line on a session that answers a device fault recorded that fault
abbrev pub FaultIsRecorded : Type 0
FaultIsRecorded = (run : Run) (s : State) (turn : Turn) (step : Step) (count : ℕ) (took : Option ℕ) → SessionTakes run s turn step → NoLossIsAFault s
    → session_said run s (after_all s turn.added) turn step ≡ answer.DeviceFault count took
    → IsFaultRecorded turn.device s turn.added count
