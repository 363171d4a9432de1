-- What each command of the program concludes.
use Rattle.std.specs.Prelude.{◌≢◌, List, Option, Some}
use Rattle.device_log.specs.Streams.{SourceRead, SinkWrite}
use Rattle.script_run.specs.Ledger.{Ledger}
use Rattle.command_words.specs.Words.{Wish, work}
use Rattle.run_promise.specs.declared.status.Status.{Status}
use Rattle.run_promise.specs.declared.status.Status.TheVariants as status
use Rattle.run_promise.specs.Story.{Refusals}
use Rattle.run_script.specs.Commands.{ConcludesAs, IsUsageBy}
use Rattle.work_script.specs.Ending.{ConcludesWork}

-- What a status says, by what the words ask for: of `work` as `ConcludesWork` has it.
abbrev pub ConcludesAll : Option Wish → (first read : List SourceRead) → (old new : List SinkWrite) → (bay : Refusals) → (before now : Ledger) → Status → Type 0
ConcludesAll (Some (work workers)) first read old new bay before now s = ConcludesWork workers first read old new bay before now s
ConcludesAll wish first read old new bay before now s = ConcludesAs wish first read old new bay before now s

-- the status is Usage where the words are no command that the program runs, or else that of want of memory; and nowhere else
abbrev pub IsUsageOf : Option Wish → Status → Type 0
IsUsageOf (Some (work workers)) s = s ≢ status.Usage
IsUsageOf wish s = IsUsageBy wish s
