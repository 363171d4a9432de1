-- The lines before the jobs, which end at `split`.
use Rattle.std.specs.Prelude.{◌≡◌, ℕ, ◌+◌, List, Option, Some, None, Result, Ok, Err, ⊤}
use Rattle.device_log.specs.Streams.{SourceRead, SinkWrite}
use Rattle.edge_io.specs.declared.reader.LineReader.{LineReader}
use Rattle.edge_io.specs.LineReader.{GivesNextLine}
use Rattle.edge_io.specs.Lines.{GivesLine}
use Rattle.script_grammar.specs.declared.line.BadLine.{BadLine}
use Rattle.script_grammar.specs.declared.line.LineAnswer.{LineAnswer}
use Rattle.script_grammar.specs.declared.line.LineAnswer.TheVariants as line
use Rattle.script_grammar.specs.declared.last_line.LastLine.{LastLine}
use Rattle.script_grammar.specs.declared.last_line.LastLine.TheVariants as last
use Rattle.script_grammar.specs.Grammar.{reading_of}
use Rattle.script_lang.specs.Jobs.{split_of}
use Rattle.script_run.specs.Run.{Run}
use Rattle.script_run.specs.Ledger.{Ledger}
use Rattle.run_promise.specs.Outline.{Outline}
use Rattle.run_promise.specs.Story.{Because, DevicesTold, GoesOn, IsNextLine, IsReadThrough, Refusals, SendsAll, CutsLast, StoryUpTo, WantsMemory}
use Rattle.run_script.specs.declared.run.Ending.{Ending}
use Rattle.run_script.specs.declared.run.Ending.TheVariants.{Done, Stopped, WriteFault, OutOfMemory}
use Rattle.work_script.specs.declared.lines.Reading.{Reading}
use Rattle.work_script.specs.declared.lines.Reading.TheVariants.{Line, Split, End, Fault, Memory}

-- a line whose first word is `split` ends them, and no word may follow
abbrev pub unless_split : Option (Result Unit BadLine) → LineAnswer → Option LineAnswer
unless_split None answer = Some answer
unless_split (Some (Ok done)) answer = None
unless_split (Some (Err fault)) answer = Some (line.Bad fault)

-- how a line before the jobs is read; none is `split`
abbrev pub reading_before : List ℕ → Option LineAnswer
reading_before bytes = unless_split (split_of bytes) (reading_of bytes)

-- the next line was read, or the reader's answer is passed on
abbrev pub ReadsBefore : {S : Type 0} → (S → List SourceRead) → (S → Option (List ℕ)) → LineReader S → LineReader S → Reading → Type 0
ReadsBefore reads left old new (Line answer) = (bytes : List ℕ) × (reading_before bytes ≡ Some answer) × GivesNextLine reads left old new (Ok (Some bytes))
ReadsBefore reads left old new Split = (bytes : List ℕ) × (reading_before bytes ≡ None) × GivesNextLine reads left old new (Ok (Some bytes))
ReadsBefore reads left old new End = GivesNextLine reads left old new (Ok None)
ReadsBefore reads left old new (Fault fault) = GivesNextLine reads left old new (Err fault)
ReadsBefore reads left old new Memory = (bytes : List ℕ) × GivesNextLine reads left old new (Ok (Some bytes))

-- a line before the jobs is not in the grammar
pub record IsBadBefore (given : ℕ) (held : List ℕ) (fault : BadLine) : Type 0 where
  pub bytes : List ℕ
  pub next : IsNextLine given held bytes
  pub bad : reading_before bytes ≡ Some (line.Bad fault)

-- Why a run ends with this last line before its jobs: as a run of `replay` does, but that `split` is no bad line.
abbrev pub BeforeBecause : (bay : Refusals) → (held : List ℕ) → ℕ → Outline → LastLine → Type 0
BeforeBecause bay held given o (last.BadScript number fault) = (number ≡ given + 1) × IsBadBefore given held fault
BeforeBecause bay held given o why = Because bay held given o why

-- how a run ends, where this is why it may end with a last line
abbrev pub EndsBy : (Why : (held : List ℕ) → ℕ → Outline → LastLine → Type 0) (first now : List SourceRead) (old new : List SinkWrite) (Devices : DevicesTold → Type 0) (Wanting : (held : List ℕ) → ℕ → DevicesTold → Type 0) → Ending → Type 0
EndsBy Why first now old new Devices Wanting Done = StoryUpTo first now (SendsAll old new) (λ held given. Devices) (λ held given o. IsReadThrough now held)
EndsBy Why first now old new Devices Wanting (Stopped last) = StoryUpTo first now (SendsAll old new) (λ held given. Devices) (λ held given o. Why held given o last)
EndsBy Why first now old new Devices Wanting WriteFault = StoryUpTo first now (CutsLast old new) (λ held given. Devices) (λ held given o. ⊤)
EndsBy Why first now old new Devices Wanting OutOfMemory = WantsMemory first now old new Devices Wanting

-- The run has come to its line `split`, behind which are these bytes; all before it went on as in a run of `replay`.
pub record ComesToSplit (first : List SourceRead) (taken_first : List SinkWrite) (ledger_first : Ledger) (now : List SourceRead) (unread : List ℕ) (given : ℕ) (taken : List SinkWrite) (ledger : Ledger) (Outlined : Outline → Type 0) (Plays : Run → Type 0) : Type 0 where
  pub held : List ℕ
  pub behind : ℕ
  pub goes : GoesOn first taken_first ledger_first now held behind taken ledger Outlined Plays
  pub bytes : List ℕ
  pub splits : reading_before bytes ≡ None
  pub next : GivesLine behind held bytes unread
  pub counted : given ≡ behind + 1
