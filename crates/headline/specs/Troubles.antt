-- No false trouble: what lines answer of faults and of damage, and the device that each of them worked on.
use Rattle.std.specs.Prelude.{◌≡◌, ℕ, ◌≤◌, false, List}
use Rattle.logged_disk.specs.Device.{DeviceState as Device, TellsAll}
use Rattle.script_grammar.specs.declared.step.Step.{Step}
use Rattle.script_grammar.specs.declared.answer.StepAnswer.{StepAnswer}
use Rattle.script_laws.specs.Runs.{answers_damage, answers_fault}
use Rattle.run_promise.specs.Outline.{count_in}
use Rattle.headline.specs.Account.{Account, HistoryTells, IsDeviceBehind, IsDeviceOf, RunAnswers, RunLogs}

-- no line answers a count of faults above that with which its device came back; also behind a pair
abbrev pub CountsAreReached : Type 0
CountsAreReached = (l : RunLogs) (a : Account l) (lines : List (List ℕ)) (asks : Step) (said : StepAnswer) (device : Device)
    → RunAnswers a lines asks said → IsDeviceOf l lines asks device → count_in said ≤ device.faults

-- where a device came back with the count 0, no line on it answers a device fault, or names one as a cause
abbrev pub NoFalseFaults : Type 0
NoFalseFaults = (l : RunLogs) (a : Account l) (lines : List (List ℕ)) (asks : Step) (said : StepAnswer) (device : Device)
    → HistoryTells a lines asks said → IsDeviceOf l lines asks device → device.faults ≡ 0 → answers_fault said ≡ false

-- where a device told its content to the end and no flip hit it, no line on it answers damage
abbrev pub NoFalseDamage : Type 0
NoFalseDamage = (l : RunLogs) (a : Account l) (lines : List (List ℕ)) (asks : Step) (said : StepAnswer) (device : Device)
    → HistoryTells a lines asks said → IsDeviceBehind l lines device → TellsAll device → answers_damage said ≡ false
