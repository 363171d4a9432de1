-- The script as a whole: its lines have a legal history, and what they answer.
use Rattle.std.specs.Prelude.{◌≡◌, ℕ, List, [], ◌∷◌, ◌++◌, codes, take, Option, Some}
use Rattle.cache_model.specs.declared.cause.Cause.TheVariants as cause
use Rattle.script_grammar.specs.declared.answer.StepAnswer.{StepAnswer}
use Rattle.script_grammar.specs.declared.answer.StepAnswer.TheVariants as answer
use Rattle.script_run.specs.Run.{fresh}
use Rattle.script_run.specs.Takes.{IsRun, output_of}
use Rattle.run_promise.specs.Lines.{answers_of}
use Rattle.worked_runs.specs.Script.{body_of_a, get_records, key_of_a, script_lines, script_turns, silent_turn}

-- each line does all that it must, and no more
abbrev pub TheScriptIsARun : Type 0
TheScriptIsARun = IsRun fresh script_lines script_turns

-- the answer of each line
abbrev pub script_answers : List (Option StepAnswer)
script_answers =
    Some (answer.Formatted 1 64 8)
    ∷ Some (answer.Miss cause.NeverPut)
    ∷ Some (answer.Put 1 1 1)
    ∷ Some (answer.Hit 1 1)
    ∷ Some (answer.Piece 1 1 body_of_a)
    ∷ Some (answer.End 1)
    ∷ Some (answer.Got 1 1 body_of_a)
    ∷ Some (answer.Removed 1)
    ∷ Some (answer.Miss cause.Removed)
    ∷ []

-- by the turns the lines are answered so
abbrev pub TheScriptIsAnswered : Type 0
TheScriptIsAnswered = answers_of fresh script_lines script_turns ≡ script_answers

-- the text of these answers
abbrev pub script_output : List ℕ
script_output =
    codes "formatted serial 1 cursor 64 floor 8\n"
    ++ (codes "miss never-put\n"
    ++ (codes "put 1 length 1 fragments 1\n"
    ++ (codes "hit 1 length 1\n"
    ++ (codes "piece 1 1 61\n"
    ++ (codes "end 1\n"
    ++ (codes "got 1 length 1 61\n"
    ++ (codes "removed 1\n"
    ++ codes "miss removed\n")))))))

-- and that is printed
abbrev pub TheScriptPrints : Type 0
TheScriptPrints = output_of fresh script_lines script_turns ≡ script_output

-- behind these lines the get gives the body of the put and no other bytes
abbrev pub OnlyTheBodyIsGiven : Type 0
OnlyTheBodyIsGiven = (bytes : List ℕ)
    → IsRun fresh (take 7 script_lines) (take 6 script_turns ++ silent_turn (get_records key_of_a) bytes ∷ []) → bytes ≡ body_of_a
