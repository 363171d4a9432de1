-- Each answer is one line, and so is the last line of a run that ends early.
use Rattle.std.specs.Prelude.{ℕ, ◌≡◌, ◌==◌, Bool, true, false, not, ◌&&◌, List, [], ◌∷◌}
use Rattle.script_grammar.specs.declared.answer.StepAnswer.{StepAnswer}
use Rattle.script_grammar.specs.declared.last_line.LastLine.{LastLine}
use Rattle.script_grammar.specs.Texts.{answer_line, last_line}

-- a newline at the end and nowhere else
abbrev pub is_line : List ℕ → Bool
is_line [] = false
is_line (byte ∷ []) = byte == 10
is_line (byte ∷ next ∷ rest) = not (byte == 10) && is_line (next ∷ rest)

-- whatever an answer shows, no newline stands within it
abbrev pub AnswersAreLines : Type 0
AnswersAreLines = (answer : StepAnswer) → is_line (answer_line answer) ≡ true

-- so it is for each cause that ends a run early and has a last line
abbrev pub LastLinesAreLines : Type 0
LastLinesAreLines = (last : LastLine) → is_line (last_line last) ≡ true
