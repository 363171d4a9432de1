-- What no line of a whole script answers, by what was told of its devices.
use Rattle.std.specs.Prelude.{ℕ, ◌≡◌, ⊤, Bool, true, false, List, [], ◌∷◌, All, option_map, unwrap_or}
use Rattle.cache_model.specs.declared.cause.Cause.{Cause}
use Rattle.cache_model.specs.Damage.{is_damage}
use Rattle.script_grammar.specs.declared.line.LineAnswer.{LineAnswer}
use Rattle.script_grammar.specs.declared.line.LineAnswer.TheVariants as line
use Rattle.script_grammar.specs.declared.answer.StepAnswer.{StepAnswer}
use Rattle.script_grammar.specs.declared.answer.StepAnswer.TheVariants as answer
use Rattle.script_grammar.specs.Grammar.{reading_of}
use Rattle.script_run.specs.Run.{Harm, Run, fresh}
use Rattle.script_run.specs.Turn.{Turn}
use Rattle.script_run.specs.Answers.{step_answer}
use Rattle.script_run.specs.Behind.{after_line, harms_of}
use Rattle.script_run.specs.Takes.{IsRun, run_after}
use Rattle.script_laws.specs.Causes.{cause_answered}
use Rattle.script_run.specs.Losses.{is_fault}

-- the answer names such a cause
abbrev pub names_cause : (Cause → Bool) → StepAnswer → Bool
names_cause test a = unwrap_or (option_map test (cause_answered a)) false

-- the answer is a device fault, or names one as its cause
abbrev pub answers_fault : StepAnswer → Bool
answers_fault (answer.DeviceFault count took) = true
answers_fault a = names_cause is_fault a

-- the answer names damage as its cause
abbrev pub answers_damage : StepAnswer → Bool
answers_damage a = names_cause is_damage a

-- the line is not answered so; a line with no step has no answer
abbrev pub ReadsWithout : (StepAnswer → Bool) → Run → Turn → LineAnswer → Type 0
ReadsWithout test run turn (line.Step s) = test (step_answer run turn s) ≡ false
ReadsWithout test run turn line.Nothing = ⊤
ReadsWithout test run turn (line.Bad fault) = ⊤

-- none of the lines is answered so
abbrev pub NoneAnswers : (StepAnswer → Bool) → Run → List (List ℕ) → List Turn → Type 0
NoneAnswers test run [] turns = ⊤
NoneAnswers test run (bytes ∷ lines) [] = ⊤
NoneAnswers test run (bytes ∷ lines) (turn ∷ turns) = ReadsWithout test run turn (reading_of bytes) × NoneAnswers test (after_line run turn bytes) lines turns

-- where no fault was told of any device, no line answered one or named one
abbrev pub FaultlessRuns : Type 0
FaultlessRuns = (lines : List (List ℕ)) (turns : List Turn) → IsRun fresh lines turns
    → All (λ (harm : Harm). harm.fault ≡ 0) (harms_of (run_after fresh lines turns)) → NoneAnswers answers_fault fresh lines turns

-- where no piece of any device was told as damaged, no line answered damage
abbrev pub UndamagedRuns : Type 0
UndamagedRuns = (lines : List (List ℕ)) (turns : List Turn) → IsRun fresh lines turns
    → All (λ (harm : Harm). harm.damaged ≡ false) (harms_of (run_after fresh lines turns)) → NoneAnswers answers_damage fresh lines turns
