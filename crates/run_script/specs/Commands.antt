-- What each command concludes.
use Rattle.std.specs.Prelude.{◌≡◌, ◌≢◌, ◌⊎◌, ℕ, List, [], Option, Some, None}
use Rattle.device_log.specs.Streams.{SourceRead, SinkWrite}
use Rattle.script_grammar.specs.declared.last_line.LastLine.TheVariants as last
use Rattle.script_grammar.specs.Texts.{last_line}
use Rattle.script_run.specs.Ledger.{Ledger}
use Rattle.command_words.specs.Words.{Wish, help, version, replay, work, inspect, check}
use Rattle.command_words.specs.Texts.{help_text, version_text}
use Rattle.run_promise.specs.declared.status.Status.{Status}
use Rattle.run_promise.specs.declared.status.Status.TheVariants as status
use Rattle.run_promise.specs.Story.{Refusals, SendsFront, SinkTook}
use Rattle.run_promise.specs.Top.{AttachesRefused, Concludes, RefusedOne, WentOut}
use Rattle.device_bay.specs.Calls.{AttachRefusal}
use Rattle.run_script.specs.Inspects.{Checks, Inspects}

-- a text of the program itself went out; or its write failed, and a front of it did
abbrev pub PrintsText : (old new : List SinkWrite) → (text : List ℕ) → Status → Type 0
PrintsText old new text s = ((s ≡ status.Done) × SinkTook old new text) ⊎ ((s ≡ status.WriteFault) × SendsFront old new [] text)

-- the last line for words that the program does not run went out, or a front of it; or memory was wanting to read them, and nothing did
abbrev pub RefusesWords : (old new : List SinkWrite) → Status → Type 0
RefusesWords old new s = ((s ≡ status.Usage) × WentOut old new [] (last_line last.Usage)) ⊎ ((s ≡ status.OutOfMemory) × (new ≡ old))

-- the source was not read, and no device was attached
abbrev pub LeavesAlone : (first read : List SourceRead) → (before now : Ledger) → Type 0
LeavesAlone first read before now = (read ≡ first) × (now ≡ before)

-- What a status says, by what the words ask for: `replay` as `Concludes` has it, an inspection as `Inspects` does, and a check
-- as `Checks`. Of `work` it says what it does of no command: `work_script` runs that.
abbrev pub ConcludesAs : Option Wish → (first read : List SourceRead) → (old new : List SinkWrite) → (bay : Refusals) → (before now : Ledger) → Status → Type 0
ConcludesAs None first read old new bay before now s = RefusesWords old new s × LeavesAlone first read before now
ConcludesAs (Some help) first read old new bay before now s = PrintsText old new help_text s × LeavesAlone first read before now
ConcludesAs (Some version) first read old new bay before now s = PrintsText old new version_text s × LeavesAlone first read before now
ConcludesAs (Some replay) first read old new bay before now s = Concludes first read old new bay before now s
ConcludesAs (Some (work workers)) first read old new bay before now s = RefusesWords old new s × LeavesAlone first read before now
ConcludesAs (Some (check name)) first read old new bay before now s = (read ≡ first) × Checks name old new bay before now s
ConcludesAs (Some (inspect name)) first read old new bay before now s = (read ≡ first) × Inspects name old new bay before now s

-- the status is Usage, or that of want of memory, where the words are no command, or `work`; and nowhere else is it Usage
abbrev pub IsUsageBy : Option Wish → Status → Type 0
IsUsageBy None s = (s ≡ status.Usage) ⊎ (s ≡ status.OutOfMemory)
IsUsageBy (Some (work workers)) s = (s ≡ status.Usage) ⊎ (s ≡ status.OutOfMemory)
IsUsageBy (Some wish) s = s ≢ status.Usage

-- Which attaches were refused where a device is looked at: with BayFault its attach was, or a read of it was.
abbrev pub RefusesLook : (before now : List AttachRefusal) → Status → Type 0
RefusesLook before now status.BayFault = (now ≡ before) ⊎ RefusedOne before now
RefusesLook before now s = AttachesRefused before now s

-- so by what the words ask for
abbrev pub RefusesAs : Option Wish → (before now : List AttachRefusal) → Status → Type 0
RefusesAs (Some (inspect name)) before now s = RefusesLook before now s
RefusesAs (Some (check name)) before now s = RefusesLook before now s
RefusesAs wish before now s = AttachesRefused before now s
