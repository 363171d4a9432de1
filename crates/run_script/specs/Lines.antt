-- What reading the next line of a script gives.
use Rattle.std.specs.Prelude.{◌≡◌, ℕ, List, Option, Some, None, Ok, Err}
use Rattle.device_log.specs.Streams.{SourceRead}
use Rattle.edge_io.specs.declared.reader.LineReader.{LineReader}
use Rattle.edge_io.specs.LineReader.{GivesNextLine}
use Rattle.script_grammar.specs.Grammar.{reading_of}
use Rattle.run_script.specs.declared.lines.Reading.{Reading}
use Rattle.run_script.specs.declared.lines.Reading.TheVariants.{Line, End, Fault, Memory}

-- the next line was read, or the reader's answer is passed on
abbrev pub ReadsNextLine : {S : Type 0} → (S → List SourceRead) → (S → Option (List ℕ)) → LineReader S → LineReader S → Reading → Type 0
ReadsNextLine reads left old new (Line answer) = (line : List ℕ) × (answer ≡ reading_of line) × GivesNextLine reads left old new (Ok (Some line))
ReadsNextLine reads left old new End = GivesNextLine reads left old new (Ok None)
ReadsNextLine reads left old new (Fault fault) = GivesNextLine reads left old new (Err fault)
ReadsNextLine reads left old new Memory = (line : List ℕ) × GivesNextLine reads left old new (Ok (Some line))
