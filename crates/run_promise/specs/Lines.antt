-- What the lines of a script answer.
use Rattle.std.specs.Prelude.{ℕ, ◌≡◌, ◌-◌, List, [], ◌∷◌, ◌++◌, All, length, take, Option, Some, None, ⊤}
use Rattle.script_grammar.specs.declared.line.LineAnswer.{LineAnswer}
use Rattle.script_grammar.specs.declared.line.LineAnswer.TheVariants as line
use Rattle.script_grammar.specs.declared.answer.StepAnswer.{StepAnswer}
use Rattle.script_grammar.specs.Grammar.{reading_of}
use Rattle.script_grammar.specs.Texts.{answer_line}
use Rattle.script_run.specs.Run.{Harm, Run}
use Rattle.script_run.specs.Turn.{Turn}
use Rattle.script_run.specs.Answers.{step_answer}
use Rattle.script_run.specs.Behind.{after_line}
use Rattle.script_run.specs.Takes.{output_of}
use Rattle.run_promise.specs.Outline.{IsAnswered, Outline, all_told, count_in, outline_after}

-- ---- one answer a line

-- what is no step has no answer, and changes nothing
abbrev pub outline_read : Outline → LineAnswer → Option StepAnswer → Outline
outline_read o (line.Step step) (Some said) = outline_after o step said
outline_read o _ _ = o

-- the outline behind these lines, by the answer of each
abbrev pub outline_of : Outline → List (List ℕ) → List (Option StepAnswer) → Outline
outline_of o [] answers = o
outline_of o (bytes ∷ lines) [] = o
outline_of o (bytes ∷ lines) (said ∷ answers) = outline_of (outline_read o (reading_of bytes) said) lines answers

-- a step has one answer; what is passed over has none; no run goes on behind a line that is not in the grammar
abbrev pub IsReadAs : Outline → LineAnswer → Option StepAnswer → Type 0
IsReadAs o (line.Step step) (Some said) = IsAnswered o step said
IsReadAs o line.Nothing None = ⊤
IsReadAs o _ _ = ⊥

-- so it is of each line
abbrev pub AreAnswered : Outline → List (List ℕ) → List (Option StepAnswer) → Type 0
AreAnswered o [] [] = ⊤
AreAnswered o [] (said ∷ answers) = ⊥
AreAnswered o (bytes ∷ lines) [] = ⊥
AreAnswered o (bytes ∷ lines) (said ∷ answers) = IsReadAs o (reading_of bytes) said × AreAnswered (outline_read o (reading_of bytes) said) lines answers

-- what is printed for a line, the newline included
abbrev pub text_of : Option StepAnswer → List ℕ
text_of None = []
text_of (Some said) = answer_line said

-- what is printed for all of them
abbrev pub texts_of : List (Option StepAnswer) → List ℕ
texts_of [] = []
texts_of (said ∷ answers) = text_of said ++ texts_of answers

-- what is printed for all of them but the last
abbrev pub texts_before : List (Option StepAnswer) → List ℕ
texts_before answers = texts_of (take (length answers - 1) answers)

-- ---- the answers of a run

-- a step is answered as it must be
abbrev pub reading_answer : Run → Turn → LineAnswer → Option StepAnswer
reading_answer run turn (line.Step step) = Some (step_answer run turn step)
reading_answer run turn line.Nothing = None
reading_answer run turn (line.Bad fault) = None

-- the answer of each line, in the run that the lines before it left
abbrev pub answers_of : Run → List (List ℕ) → List Turn → List (Option StepAnswer)
answers_of run [] turns = []
answers_of run (bytes ∷ lines) [] = []
answers_of run (bytes ∷ lines) (turn ∷ turns) = reading_answer run turn (reading_of bytes) ∷ answers_of (after_line run turn bytes) lines turns

-- ---- laws

-- what is printed for the answers of a run is its output
abbrev pub TextsAreOutput : Type 0
TextsAreOutput = (run : Run) (lines : List (List ℕ)) (turns : List Turn) → texts_of (answers_of run lines turns) ≡ output_of run lines turns

-- no fault is told in an answer
abbrev pub TellsNone : Option StepAnswer → Type 0
TellsNone None = ⊤
TellsNone (Some said) = count_in said ≡ 0

-- where the outline behind the lines has no count above 0, none of their answers tells a fault
abbrev pub CountsAreKept : Type 0
CountsAreKept = (o : Outline) (lines : List (List ℕ)) (answers : List (Option StepAnswer)) → AreAnswered o lines answers
    → All (λ (harm : Harm). harm.fault ≡ 0) (all_told (outline_of o lines answers)) → All TellsNone answers
