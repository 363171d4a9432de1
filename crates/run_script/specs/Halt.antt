-- What a step of a run does to its session and its sink, and why it may end the run.
use Rattle.std.specs.Prelude.{◌≡◌, ℕ, List, [], Bool, false}
use Rattle.device_log.specs.Streams.{SinkWrite}
use Rattle.edge_io.specs.declared.reader.LineFault.{LineFault}
use Rattle.edge_io.specs.declared.reader.LineFault.TheVariants as fault
use Rattle.cache_calls.specs.declared.calls.Calls.{Ghosts as CallsGhosts}
use Rattle.device_bay.specs.Calls.{BayCall}
use Rattle.script_grammar.specs.declared.step.Step.{Step}
use Rattle.script_grammar.specs.declared.answer.StepAnswer.{StepAnswer}
use Rattle.script_grammar.specs.declared.last_line.LastLine.{LastLine}
use Rattle.script_grammar.specs.declared.last_line.LastLine.TheVariants as last
use Rattle.script_grammar.specs.Texts.{answer_line}
use Rattle.script_run.specs.Run.{Harm, Run}
use Rattle.logged_disk.specs.declared.device.Disk.{Ghosts as DiskGhosts}
use Rattle.cache_replay.specs.declared.session.Replay.{Replay}
use Rattle.cache_replay.specs.declared.stop.Stop.TheVariants as stop
use Rattle.cache_replay.specs.declared.stop.Stop.{Stop as Reason}
use Rattle.run_promise.specs.Outline.{Outline}
use Rattle.cache_replay.specs.Replay.{DeviceEnds, IsLeftAtEnd, IsOutlined, Outlines, PlaysOn, returns_in}
use Rattle.script_run.specs.Ledger.{AreReached, Ledger}
use Rattle.cache_replay.specs.Stop.{StopsStep, is_bay_stop}
use Rattle.run_script.specs.declared.run.Ending.{Ending}
use Rattle.run_script.specs.declared.run.Ending.TheVariants as ending
use Rattle.run_script.specs.declared.run.Halt.{Halt}
use Rattle.run_script.specs.declared.run.Halt.TheVariants.{Stop, WriteFault, Memory}
use Rattle.run_promise.specs.Story.{SendsFront}

module _ {D S W R : Type 0} {d : DiskGhosts D} {c : CallsGhosts S W R} where
  -- A step was answered so: each outline goes on by the answer, and each run that the replay plays, or two documents of one
  -- SHA-256 are shown; and this became of the text.
  pub record AnswerIsWritten (old : Replay D S W R d c) (step : Step) (new : Replay D S W R d c) (before now : Ledger) (Text : List ℕ → Type 0) : Type 0 where
    pub said : StepAnswer
    pub outlines : (o : Outline) → IsOutlined o old → Outlines o step new said before now
    pub ends : (run : Run) → PlaysOn run old → DeviceEnds run step new said before now
    pub text : Text (answer_line said)

  -- what a step leaves that was not done, whatever was told of the session's device
  abbrev pub StepLeaves : (old : Replay D S W R d c) → Step → (new : Replay D S W R d c) → (before now : Ledger) → Reason → Type 0
  StepLeaves old step new before now why =
      (harms : List Harm) → AreReached harms (returns_in old) → IsLeftAtEnd harms step new before now why

  -- what a step that ends the run leaves
  abbrev pub StepHalts : (old : Replay D S W R d c) → Step → (new : Replay D S W R d c) → (before now : Ledger) → (taken_old taken_new : List SinkWrite) → (bay_old bay_new : List BayCall) → Halt → Type 0
  StepHalts old step new before now taken_old taken_new bay_old bay_new (Stop why) = StepLeaves old step new before now why × (taken_new ≡ taken_old) × StopsStep old step bay_old bay_new why
  StepHalts old step new before now taken_old taken_new bay_old bay_new WriteFault = AnswerIsWritten old step new before now (SendsFront taken_old taken_new [])
  StepHalts old step new before now taken_old taken_new bay_old bay_new Memory =
      AnswerIsWritten old step new before now (λ text. taken_new ≡ taken_old)

-- how the run then ends, at this line
abbrev pub ending_of : ℕ → Halt → Ending
ending_of number (Stop stop.NoCache) = ending.Stopped (last.NoCache number)
ending_of number (Stop stop.BayFault) = ending.Stopped last.BayFault
ending_of number (Stop stop.Memory) = ending.OutOfMemory
ending_of number WriteFault = ending.WriteFault
ending_of number Memory = ending.OutOfMemory

-- the last line that a fault of the reader asks for
abbrev pub last_of : LineFault → LastLine
last_of (fault.LineTooLong number) = last.LineTooLong number
last_of fault.TooManyLines = last.TooManyLines
last_of (fault.ReadFault count) = last.ReadFault

-- why an answer was not written
abbrev pub AnswerIsUnwritten : (old new : List SinkWrite) → List ℕ → Halt → Type 0
AnswerIsUnwritten old new text WriteFault = SendsFront old new [] text
AnswerIsUnwritten old new text Memory = new ≡ old
AnswerIsUnwritten old new text (Stop why) = ⊥

-- an attach was refused, which ends a run
abbrev pub is_bay_halt : Halt → Bool
is_bay_halt (Stop why) = is_bay_stop why
is_bay_halt _ = false
