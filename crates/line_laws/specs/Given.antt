-- The bytes that lines give to a reader.
use Rattle.std.specs.Prelude.{ℕ, ◌-◌, ◌*◌, ◌==◌, if◌then◌else◌, List, [], ◌∷◌, ◌++◌, take, drop, Option, Some, None}
use Rattle.script_grammar.specs.declared.step.Step.{Step}
use Rattle.script_grammar.specs.declared.step.Step.TheVariants as step
use Rattle.script_grammar.specs.declared.line.LineAnswer.{LineAnswer}
use Rattle.script_grammar.specs.declared.line.LineAnswer.TheVariants as line
use Rattle.script_grammar.specs.Grammar.{reading_of}
use Rattle.script_run.specs.Run.{Run, reader_by}
use Rattle.script_run.specs.Turn.{Turn}
use Rattle.script_run.specs.Behind.{after_line}

-- what is given to a reader, where this one is asked or none
abbrev pub given_where : ℕ → List ℕ → Option ℕ → List ℕ
given_where reader given None = []
given_where reader given (Some asked) = if asked == reader then given else []

-- what a step gives to the reader of this number
abbrev pub given_by_step : ℕ → Run → Turn → Step → List ℕ
given_by_step reader run turn (step.Next actor) = given_where reader turn.given (reader_by run actor)
given_by_step reader run turn _ = []

-- and what a line gives to it that is read so
abbrev pub given_by_line : ℕ → Run → Turn → LineAnswer → List ℕ
given_by_line reader run turn (line.Step s) = given_by_step reader run turn s
given_by_line reader run turn line.Nothing = []
given_by_line reader run turn (line.Bad fault) = []

-- all that lines give to it, one after the other
abbrev pub given_to : ℕ → Run → List (List ℕ) → List Turn → List ℕ
given_to reader run [] turns = []
given_to reader run (bytes ∷ lines) [] = []
given_to reader run (bytes ∷ lines) (turn ∷ turns) = given_by_line reader run turn (reading_of bytes) ++ given_to reader (after_line run turn bytes) lines turns

-- the fragments of a body from one index on, up to another and without that
abbrev pub fragments_between : ℕ → List ℕ → ℕ → ℕ → List ℕ
fragments_between fragment body from to = drop ((from - 1) * fragment) (take ((to - 1) * fragment) body)
