-- Refused calls and damage, as the lines of a whole script recorded them.
use Rattle.std.specs.Prelude.{ℕ, ◌≡◌, Bool, true, false, List, All}
use Rattle.std.specs.List.{AllByRecursion}
use Rattle.cache_model.specs.declared.record.Rec.{Rec}
use Rattle.cache_model.specs.declared.record.Rec.TheVariants as rec
use Rattle.cache_model.specs.Damage.{TellNoDamage}
use Rattle.cache_model.specs.Permit.{IsAmong}
use Rattle.step_laws.specs.StepLaws.{IsRefusalCount}
use Rattle.script_run.specs.Run.{Harm, Run}
use Rattle.script_run.specs.Turn.{Turn}
use Rattle.script_run.specs.Behind.{harms_of}
use Rattle.script_run.specs.Takes.{IsRun, run_after}

-- the record tells that a call was refused
abbrev pub tells_fault : Rec → Bool
tells_fault (rec.Fault count) = true
tells_fault _ = false

-- none of these records does
abbrev pub TellNoFault : List Rec → Type 0
TellNoFault recs = AllByRecursion (λ r. tells_fault r ≡ false) recs

-- each fault that the turn recorded is a call that its device refused in it
abbrev pub TellsRefusals : Turn → Type 0
TellsRefusals turn = (count : ℕ) → IsAmong (rec.Fault count) turn.added → IsRefusalCount turn.device count

-- so does each turn of a script
abbrev pub TurnsTellRefusals : Type 0
TurnsTellRefusals = (run : Run) (lines : List (List ℕ)) (turns : List Turn) → IsRun run lines turns → AllByRecursion TellsRefusals turns

-- where no fault was told of any device in the end, no turn recorded one
abbrev pub FaultlessTurns : Type 0
FaultlessTurns = (run : Run) (lines : List (List ℕ)) (turns : List Turn) → IsRun run lines turns
    → All (λ (harm : Harm). harm.fault ≡ 0) (harms_of (run_after run lines turns))
    → AllByRecursion (λ (turn : Turn). TellNoFault turn.added) turns

-- where no piece of any device was told as damaged in the end, no turn recorded damage
abbrev pub UndamagedTurns : Type 0
UndamagedTurns = (run : Run) (lines : List (List ℕ)) (turns : List Turn) → IsRun run lines turns
    → All (λ (harm : Harm). harm.damaged ≡ false) (harms_of (run_after run lines turns))
    → AllByRecursion (λ (turn : Turn). TellNoDamage turn.added) turns
