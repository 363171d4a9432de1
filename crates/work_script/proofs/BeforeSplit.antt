-- How a line before the jobs is read beside a run of `replay`, and what ends a run there.
use Rattle.std.proofs.Common.{◌≡◌, ℕ, ◌+◌, List, Option, Some, None, Result, Ok, Err, ap}
use Rattle.device_log.specs.Streams.{SourceRead, SinkWrite}
use Rattle.edge_io.specs.Lines.{GivesLine}
use Rattle.edge_io.specs.declared.reader.LineFault.{LineFault}
use Rattle.edge_io.specs.declared.reader.LineFault.TheVariants as fault
use Rattle.script_grammar.specs.declared.line.BadLine.{BadLine}
use Rattle.script_grammar.specs.declared.line.LineAnswer.{LineAnswer}
use Rattle.script_grammar.specs.declared.line.LineAnswer.TheVariants as line
use Rattle.script_grammar.specs.declared.last_line.LastLine.TheVariants as last
use Rattle.script_grammar.specs.declared.step.Step.{Step}
use Rattle.script_grammar.specs.Grammar.{reading_of}
use Rattle.script_lang.specs.Jobs.{split_of}
use Rattle.script_run.specs.Run.{Harm, Run}
use Rattle.script_run.specs.Behind.{own_harm}
use Rattle.script_run.specs.Ledger.{Ledger}
use Rattle.cache_replay.specs.declared.stop.Stop.TheVariants as stop
use Rattle.run_promise.specs.Outline.{Outline, told_of}
use Rattle.run_promise.specs.Story.{DevicesTold, GoesOn, Owes, OwesOrGave, Refusals, SendsAll}
use Rattle.run_script.specs.declared.run.Ending.{Ending}
use Rattle.run_script.specs.declared.run.Ending.TheVariants as ending
use Rattle.run_script.specs.declared.run.Halt.{Halt}
use Rattle.run_script.specs.declared.run.Halt.TheVariants.{Stop, WriteFault, Memory}
use Rattle.run_script.specs.Ending.{EndsRun}
use Rattle.run_script.specs.Halt.{ending_of, last_of}
use Rattle.run_script.proofs.Ends.{owes, still}
use Rattle.work_script.specs.Before.{BeforeBecause, EndsBy, reading_before, unless_split}

-- ---- readings

nothing_by : (o : Option (Result Unit BadLine)) (a : LineAnswer) → unless_split o a ≡ Some line.Nothing → a ≡ line.Nothing
nothing_by None a e = ap (λ (x : Option LineAnswer). answer_in x) e
  where
    answer_in : Option LineAnswer → LineAnswer
    answer_in (Some x) = x
    answer_in None = a
nothing_by (Some (Ok done)) a e = absurd cc
nothing_by (Some (Err bad)) a e = absurd cc

pub nothing_before : (bytes : List ℕ) → reading_before bytes ≡ Some line.Nothing → reading_of bytes ≡ line.Nothing
nothing_before bytes e = nothing_by (split_of bytes) (reading_of bytes) e

step_by : (o : Option (Result Unit BadLine)) (a : LineAnswer) (s : Step) → unless_split o a ≡ Some (line.Step s) → a ≡ line.Step s
step_by None a s e = ap (λ (x : Option LineAnswer). answer_in x) e
  where
    answer_in : Option LineAnswer → LineAnswer
    answer_in (Some x) = x
    answer_in None = a
step_by (Some (Ok done)) a s e = absurd cc
step_by (Some (Err bad)) a s e = absurd cc

pub step_before : (bytes : List ℕ) (s : Step) → reading_before bytes ≡ Some (line.Step s) → reading_of bytes ≡ line.Step s
step_before bytes s e = step_by (split_of bytes) (reading_of bytes) s e

-- ---- ends that are those of `replay`

-- it is no bad line
abbrev IsOther : Ending → Type 0
IsOther (ending.Stopped (last.BadScript number bad)) = ⊥
IsOther _ = Unit {0}

fault_other : (f : LineFault) → IsOther (ending.Stopped (last_of f))
fault_other (fault.LineTooLong number) = tt
fault_other fault.TooManyLines = tt
fault_other (fault.ReadFault count) = tt

halt_other : (number : ℕ) (halt : Halt) → IsOther (ending_of number halt)
halt_other number (Stop stop.NoCache) = tt
halt_other number (Stop stop.BayFault) = tt
halt_other number (Stop stop.Memory) = tt
halt_other number WriteFault = tt
halt_other number Memory = tt

module _ (bay : Refusals) (first now : List SourceRead) (old new : List SinkWrite) (Devices : DevicesTold → Type 0) (Wanting : List ℕ → ℕ → DevicesTold → Type 0) where
  ends_as : (e : Ending) → IsOther e → EndsRun first now old new bay Devices Wanting e → EndsBy (BeforeBecause bay) first now old new Devices Wanting e
  ends_as ending.Done other h = h
  ends_as (ending.Stopped last.Usage) other h = h
  ends_as (ending.Stopped (last.BadScript number bad)) other h = absurd other
  ends_as (ending.Stopped last.ReadFault) other h = h
  ends_as (ending.Stopped last.BayFault) other h = h
  ends_as (ending.Stopped (last.LineTooLong number)) other h = h
  ends_as (ending.Stopped last.TooManyLines) other h = h
  ends_as (ending.Stopped (last.NoCache number)) other h = h
  ends_as ending.WriteFault other h = h
  ends_as ending.OutOfMemory other h = h

  pub fault_as : (f : LineFault) → EndsRun first now old new bay Devices Wanting (ending.Stopped (last_of f)) → EndsBy (BeforeBecause bay) first now old new Devices Wanting (ending.Stopped (last_of f))
  fault_as f h = ends_as (ending.Stopped (last_of f)) (fault_other f) h

  pub halt_as : (number : ℕ) (halt : Halt) → EndsRun first now old new bay Devices Wanting (ending_of number halt) → EndsBy (BeforeBecause bay) first now old new Devices Wanting (ending_of number halt)
  halt_as number halt h = ends_as (ending_of number halt) (halt_other number halt) h

-- a line that is not in the grammar
module _ (first now : List SourceRead) (taken_first taken : List SinkWrite) (ledger_first ledger : Ledger) (unread : List ℕ) (given : ℕ) (Outlined : Outline → Type 0) (Plays' : Run → Type 0)
    (Reached : List Harm → Type 0) (devices : ℕ) (reach : (o : Outline) → Outlined o → Reached (told_of o.session)) (reach_run : (run : Run) → Plays' run → Reached (own_harm run))
    (story : GoesOn first taken_first ledger_first now unread given taken ledger Outlined Plays') where
  pub bad_before : (bytes unread' : List ℕ) (given' : ℕ) → GivesLine given unread bytes unread' → given' ≡ given + 1 → (bay : Refusals) (bad : BadLine) → reading_before bytes ≡ Some (line.Bad bad)
      → EndsBy (BeforeBecause bay) first now taken_first taken (Owes ledger_first ledger Reached) (OwesOrGave ledger_first ledger devices Reached) (ending.Stopped (last.BadScript given' bad))
  bad_before bytes unread' given' known counted bay bad e = record {
    held = unread;
    given = given;
    story = still first now taken_first taken ledger_first ledger unread given Outlined Plays' Reached devices reach reach_run story (SendsAll taken_first taken) _ _ story.text
        (owes first now taken_first taken ledger_first ledger unread given Outlined Plays' Reached devices reach reach_run story)
        (λ o out. (counted, record { bytes = bytes; next = (unread', known); bad = e }));
  }
