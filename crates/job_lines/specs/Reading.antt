-- How the lines behind `split` are read, and what ends that.
use Rattle.std.specs.Prelude.{◌≡◌, ℕ, ◌+◌, ◌≤◌, List, ◌++◌, length, Option, Some, None, Ok, Err}
use Rattle.device_log.specs.Streams.{SourceRead}
use Rattle.edge_io.specs.declared.reader.LineReader.{LineReader}
use Rattle.edge_io.specs.declared.reader.TheConstants.{MAX_LINES}
use Rattle.edge_io.specs.LineReader.{GivesNextLine}
use Rattle.edge_io.specs.Lines.{AreLines, IsTooLong, IsTooMany}
use Rattle.edge_io.specs.Text.{spelled, text_after}
use Rattle.script_grammar.specs.declared.line.BadLine.{BadLine}
use Rattle.script_grammar.specs.declared.last_line.LastLine.{LastLine}
use Rattle.script_grammar.specs.declared.last_line.LastLine.TheVariants as last
use Rattle.script_lang.specs.declared.jobs.JobLine.TheVariants as job
use Rattle.script_lang.specs.Jobs.{job_reading}
use Rattle.run_promise.specs.Story.{HoldsNoLine, IsNextLine}
use Rattle.run_script.specs.declared.run.Ending.{Ending}
use Rattle.run_script.specs.declared.run.Ending.TheVariants as ending
use Rattle.job_lines.specs.declared.asked.Asked.{Asked}
use Rattle.job_lines.specs.declared.reading.Reading.{Reading}
use Rattle.job_lines.specs.declared.reading.Reading.TheVariants.{Line, End, Fault, Memory}
use Rattle.job_lines.specs.Lanes.{AreJobLines, AreLanes, first_job}
use Rattle.job_lines.specs.Asked.{lanes_in}

-- the next line was read as a worker's, or the reader's answer is passed on
abbrev pub ReadsNextJob : {S : Type 0} → (S → List SourceRead) → (S → Option (List ℕ)) → (workers : ℕ) → LineReader S → LineReader S → Reading → Type 0
ReadsNextJob reads left workers old new (Line answer) = (line : List ℕ) × (answer ≡ job_reading workers line) × GivesNextLine reads left old new (Ok (Some line))
ReadsNextJob reads left workers old new End = GivesNextLine reads left old new (Ok None)
ReadsNextJob reads left workers old new (Fault fault) = GivesNextLine reads left old new (Err fault)
ReadsNextJob reads left workers old new Memory = (line : List ℕ) × GivesNextLine reads left old new (Ok (Some line))

-- Behind so many lines, and bytes that were in none, these lines were read, each in the grammar of jobs; and these bytes are in
-- no line.
pub record ReadsJobs (workers given : ℕ) (before : List ℕ) (old now : List SourceRead) (lines : List (List ℕ)) (unread : List ℕ) : Type 0 where
  pub more : List SourceRead
  pub grew : now ≡ more ++ old
  pub text : text_after before more ≡ spelled lines ++ unread
  pub each : AreLines lines
  pub within : given + length lines ≤ MAX_LINES
  pub jobs : AreJobLines workers lines

-- so far they were, and this is what they ask for
pub record AreAsked (workers given : ℕ) (before : List ℕ) (old now : List SourceRead) (unread : List ℕ) (given' : ℕ) (asked : Asked) : Type 0 where
  pub lines : List (List ℕ)
  pub read : ReadsJobs workers given before old now lines unread
  pub counted : given' ≡ given + length lines
  pub lanes : AreLanes workers 1 lines (lanes_in asked)
  pub first : asked.first ≡ first_job workers given lines

-- a line is no job
pub record IsBadJob (workers given : ℕ) (unread : List ℕ) (fault : BadLine) : Type 0 where
  pub bytes : List ℕ
  pub next : IsNextLine given unread bytes
  pub bad : job_reading workers bytes ≡ job.Bad fault

-- why the run ends with this last line, where so many lines were read and these bytes are in none
abbrev pub JobsBecause : (workers : ℕ) → (unread : List ℕ) → (given : ℕ) → LastLine → Type 0
JobsBecause workers unread given (last.BadScript number fault) = (number ≡ given + 1) × IsBadJob workers given unread fault
JobsBecause workers unread given last.ReadFault = HoldsNoLine given unread
JobsBecause workers unread given (last.LineTooLong number) = (number ≡ given + 1) × IsTooLong given unread
JobsBecause workers unread given last.TooManyLines = IsTooMany given unread
JobsBecause workers unread given _ = ⊥

-- these lines were read, and then this ended the run
pub record StopsBecause (workers given : ℕ) (before : List ℕ) (old now : List SourceRead) (why : LastLine) : Type 0 where
  pub lines : List (List ℕ)
  pub unread : List ℕ
  pub read : ReadsJobs workers given before old now lines unread
  pub because : JobsBecause workers unread (given + length lines) why

-- how reading them ends the run
abbrev pub StopsJobs : (workers given : ℕ) → (before : List ℕ) → (old now : List SourceRead) → Ending → Type 0
StopsJobs workers given before old now (ending.Stopped why) = StopsBecause workers given before old now why
StopsJobs workers given before old now ending.OutOfMemory = (more : List SourceRead) × (now ≡ more ++ old)
StopsJobs workers given before old now _ = ⊥
