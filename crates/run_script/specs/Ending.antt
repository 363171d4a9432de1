-- How a run of lines ends, before its last line is written.
use Rattle.std.specs.Prelude.{ℕ, Bool, true, false, List, ⊤}
use Rattle.device_log.specs.Streams.{SourceRead, SinkWrite}
use Rattle.edge_io.specs.Source.{LastReadFailed, NoReadFailed}
use Rattle.script_grammar.specs.declared.last_line.LastLine.TheVariants as last
use Rattle.run_script.specs.declared.run.Ending.{Ending}
use Rattle.run_script.specs.declared.run.Ending.TheVariants.{Done, Stopped, WriteFault, OutOfMemory}
use Rattle.run_promise.specs.Story.{StoryUpTo, DevicesTold, Because, IsReadThrough, Refusals, SendsAll, CutsLast, WantsMemory}

-- what holds of the devices, and what does where memory was wanting for the next line
abbrev pub EndsRun : (first now : List SourceRead) (taken_old taken_new : List SinkWrite) (bay : Refusals) (Devices : DevicesTold → Type 0) (Wanting : (held : List ℕ) → ℕ → DevicesTold → Type 0) → Ending → Type 0
EndsRun first now old new bay Devices Wanting Done = StoryUpTo first now (SendsAll old new) (λ held given. Devices) (λ held given o. IsReadThrough now held)
EndsRun first now old new bay Devices Wanting (Stopped why) = StoryUpTo first now (SendsAll old new) (λ held given. Devices) (λ held given o. Because bay held given o why)
EndsRun first now old new bay Devices Wanting WriteFault =
    StoryUpTo first now (CutsLast old new) (λ held given. Devices) (λ held given o. ⊤)
EndsRun first now old new bay Devices Wanting OutOfMemory = WantsMemory first now old new Devices Wanting

-- which reads failed in a run that ends so: with a read fault the last one alone, by the next count, and else none
abbrev pub FailedReads : (old new : List SourceRead) → Ending → Type 0
FailedReads old new (Stopped last.ReadFault) = (count : ℕ) × LastReadFailed old new count
FailedReads old new _ = NoReadFailed old new

-- a run that was begun does not end with the last line for words that are no command
abbrev pub IsOfRun : Ending → Type 0
IsOfRun (Stopped last.Usage) = ⊥
IsOfRun _ = ⊤

-- an attach was refused, which ends a run
abbrev pub is_bay_ending : Ending → Bool
is_bay_ending (Stopped last.BayFault) = true
is_bay_ending _ = false
