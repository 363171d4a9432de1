-- What is said of lines is said of the steps as which they are read.
use Rattle.std.proofs.Common.{◌≡◌, ◌∙◌, ℕ, zero, suc, ◌+◌, ◌<◌, List, [], ◌∷◌, ◌++◌, refl, sym, ap, subst}
use Rattle.std.specs.Prelude.{take, if◌then◌else◌, false, Option, Some, ⊤}
use Rattle.std.specs.List.{AllByRecursion}
use Rattle.script_grammar.specs.declared.line.LineAnswer.{LineAnswer}
use Rattle.script_grammar.specs.declared.line.LineAnswer.TheVariants as line
use Rattle.script_grammar.specs.declared.answer.StepAnswer.{StepAnswer}
use Rattle.script_grammar.specs.declared.step.Step.{Step}
use Rattle.script_grammar.specs.Grammar.{reading_of}
use Rattle.script_run.specs.Run.{Run}
use Rattle.script_run.specs.Turn.{Turn}
use Rattle.script_run.specs.Behind.{after_reading, after_step}
use Rattle.script_run.specs.Answers.{step_answer}
use Rattle.script_run.specs.Takes.{IsRun, ReadingTakes, StepTakes, run_after}
use Rattle.run_promise.specs.Lines.{AreAnswered, IsReadAs, answers_of, outline_of, outline_read, reading_answer}
use Rattle.run_promise.specs.Needs.{NeedsSession}
use Rattle.run_promise.specs.Outline.{IsAnswered, Outline, outline_after}
use Rattle.script_run.specs.Goes.{begins_session}
use Rattle.script_run.specs.Switch.{is_of_switch}
use Rattle.line_laws.specs.Along.{AreOfSession, KeepsSession}
use Rattle.headline.specs.Account.{begun_in}
use Rattle.headline.specs.Endings.{AreTakeable, MayBeTaken}

-- each line is read as this step
abbrev pub AreRead : List (List ℕ) → List Step → Type 0
AreRead [] [] = ⊤
AreRead (bytes ∷ lines) (asks ∷ steps) = (reading_of bytes ≡ line.Step asks) × AreRead lines steps
AreRead _ _ = ⊥

-- so it is of the first ones
pub reads_front : (n : ℕ) (lines : List (List ℕ)) (steps : List Step) → AreRead lines steps → AreRead (take n lines) (take n steps)
reads_front zero lines steps reads = tt
reads_front (suc n) [] [] reads = tt
reads_front (suc n) [] (asks ∷ steps) reads = absurd reads
reads_front (suc n) (bytes ∷ lines) [] reads = absurd reads
reads_front (suc n) (bytes ∷ lines) (asks ∷ steps) reads = (reads.0, reads_front n lines steps reads.1)

abbrev pub StepsTake : Run → List Step → List Turn → Type 0
StepsTake run [] [] = ⊤
StepsTake run (asks ∷ steps) (turn ∷ turns) = StepTakes run turn asks × StepsTake (after_step run turn asks) steps turns
StepsTake run _ _ = ⊥

pub takes_front : (n : ℕ) (run : Run) (steps : List Step) (turns : List Turn) → StepsTake run steps turns
    → StepsTake run (take n steps) (take n turns)
takes_front zero run steps turns takes = tt
takes_front (suc n) run [] [] takes = tt
takes_front (suc n) run [] (turn ∷ turns) takes = absurd takes
takes_front (suc n) run (asks ∷ steps) [] takes = absurd takes
takes_front (suc n) run (asks ∷ steps) (turn ∷ turns) takes = (takes.0, takes_front n (after_step run turn asks) steps turns takes.1)

pub are_run : (run : Run) (lines : List (List ℕ)) (steps : List Step) (turns : List Turn) → AreRead lines steps
    → StepsTake run steps turns → IsRun run lines turns
are_run run [] [] [] reads takes = tt
are_run run [] [] (turn ∷ turns) reads takes = absurd takes
are_run run [] (asks ∷ steps) turns reads takes = absurd reads
are_run run (bytes ∷ lines) [] turns reads takes = absurd reads
are_run run (bytes ∷ lines) (asks ∷ steps) [] reads takes = absurd takes
are_run run (bytes ∷ lines) (asks ∷ steps) (turn ∷ turns) reads takes =
    let rest : IsRun (after_step run turn asks) lines turns = are_run (after_step run turn asks) lines steps turns reads.1 takes.1 in (
      subst (λ (r : LineAnswer). ReadingTakes run turn r) (sym reads.0) takes.0,
      subst (λ (r : LineAnswer). IsRun (after_reading run turn r) lines turns) (sym reads.0) rest,
    )

-- and the other way
pub steps_take : (run : Run) (lines : List (List ℕ)) (steps : List Step) (turns : List Turn) → AreRead lines steps
    → IsRun run lines turns → StepsTake run steps turns
steps_take run [] [] [] reads is = tt
steps_take run [] [] (turn ∷ turns) reads is = absurd is
steps_take run [] (asks ∷ steps) turns reads is = absurd reads
steps_take run (bytes ∷ lines) [] turns reads is = absurd reads
steps_take run (bytes ∷ lines) (asks ∷ steps) [] reads is = absurd is
steps_take run (bytes ∷ lines) (asks ∷ steps) (turn ∷ turns) reads is =
    let rest : IsRun (after_step run turn asks) lines turns =
    subst (λ (r : LineAnswer). IsRun (after_reading run turn r) lines turns) reads.0 is.1 in
    (subst (λ (r : LineAnswer). ReadingTakes run turn r) reads.0 is.0, steps_take (after_step run turn asks) lines steps turns reads.1 rest)

abbrev pub run_by : Run → List Step → List Turn → Run
run_by run [] turns = run
run_by run (asks ∷ steps) [] = run
run_by run (asks ∷ steps) (turn ∷ turns) = run_by (after_step run turn asks) steps turns

pub run_is : (run : Run) (lines : List (List ℕ)) (steps : List Step) (turns : List Turn) → AreRead lines steps
    → run_after run lines turns ≡ run_by run steps turns
run_is run [] [] turns reads = refl
run_is run [] (asks ∷ steps) turns reads = absurd reads
run_is run (bytes ∷ lines) [] turns reads = absurd reads
run_is run (bytes ∷ lines) (asks ∷ steps) [] reads = refl
run_is run (bytes ∷ lines) (asks ∷ steps) (turn ∷ turns) reads =
    ap (λ (r : LineAnswer). run_after (after_reading run turn r) lines turns) reads.0
    ∙ run_is (after_step run turn asks) lines steps turns reads.1

abbrev pub answers_by : Run → List Step → List Turn → List (Option StepAnswer)
answers_by run [] turns = []
answers_by run (asks ∷ steps) [] = []
answers_by run (asks ∷ steps) (turn ∷ turns) = Some (step_answer run turn asks) ∷ answers_by (after_step run turn asks) steps turns

pub answers_are : (run : Run) (lines : List (List ℕ)) (steps : List Step) (turns : List Turn) → AreRead lines steps
    → answers_of run lines turns ≡ answers_by run steps turns
answers_are run [] [] turns reads = refl
answers_are run [] (asks ∷ steps) turns reads = absurd reads
answers_are run (bytes ∷ lines) [] turns reads = absurd reads
answers_are run (bytes ∷ lines) (asks ∷ steps) [] reads = refl
answers_are run (bytes ∷ lines) (asks ∷ steps) (turn ∷ turns) reads =
    ap (λ (r : LineAnswer). reading_answer run turn r ∷ answers_of (after_reading run turn r) lines turns) reads.0
    ∙ ap (λ (rest : List (Option StepAnswer)). Some (step_answer run turn asks) ∷ rest)
    (answers_are (after_step run turn asks) lines steps turns reads.1)

abbrev pub AreAnsweredBy : Outline → List Step → List StepAnswer → Type 0
AreAnsweredBy o [] [] = ⊤
AreAnsweredBy o (asks ∷ steps) (said ∷ answers) = IsAnswered o asks said × AreAnsweredBy (outline_after o asks said) steps answers
AreAnsweredBy o _ _ = ⊥

abbrev pub each_said : List StepAnswer → List (Option StepAnswer)
each_said [] = []
each_said (said ∷ answers) = Some said ∷ each_said answers

pub are_answered : (o : Outline) (lines : List (List ℕ)) (steps : List Step) (answers : List StepAnswer) → AreRead lines steps
    → AreAnsweredBy o steps answers → AreAnswered o lines (each_said answers)
are_answered o [] [] [] reads are = tt
are_answered o [] [] (said ∷ answers) reads are = absurd are
are_answered o [] (asks ∷ steps) answers reads are = absurd reads
are_answered o (bytes ∷ lines) [] answers reads are = absurd reads
are_answered o (bytes ∷ lines) (asks ∷ steps) [] reads are = absurd are
are_answered o (bytes ∷ lines) (asks ∷ steps) (said ∷ answers) reads are =
    let rest : AreAnswered (outline_after o asks said) lines (each_said answers) =
    are_answered (outline_after o asks said) lines steps answers reads.1 are.1 in (
      subst (λ (r : LineAnswer). IsReadAs o r (Some said)) (sym reads.0) are.0,
      subst (λ (r : LineAnswer). AreAnswered (outline_read o r (Some said)) lines (each_said answers)) (sym reads.0) rest,
    )

abbrev pub outline_by : Outline → List Step → List StepAnswer → Outline
outline_by o [] answers = o
outline_by o (asks ∷ steps) [] = o
outline_by o (asks ∷ steps) (said ∷ answers) = outline_by (outline_after o asks said) steps answers

pub outline_is : (o : Outline) (lines : List (List ℕ)) (steps : List Step) (answers : List StepAnswer) → AreRead lines steps
    → outline_of o lines (each_said answers) ≡ outline_by o steps answers
outline_is o [] [] answers reads = refl
outline_is o [] (asks ∷ steps) answers reads = absurd reads
outline_is o (bytes ∷ lines) [] answers reads = absurd reads
outline_is o (bytes ∷ lines) (asks ∷ steps) [] reads = refl
outline_is o (bytes ∷ lines) (asks ∷ steps) (said ∷ answers) reads =
    ap (λ (r : LineAnswer). outline_of (outline_read o r (Some said)) lines (each_said answers)) reads.0
    ∙ outline_is (outline_after o asks said) lines steps answers reads.1

-- how many sessions a step begins
abbrev pub begun_by_step : Step → ℕ
begun_by_step asks = if begins_session asks then 1 else 0

abbrev pub AreTakeableBy : ℕ → List Step → Type 0
AreTakeableBy sessions [] = ⊤
AreTakeableBy sessions (asks ∷ steps) = (NeedsSession asks → 0 < sessions) × AreTakeableBy (sessions + begun_by_step asks) steps

pub are_takeable : (sessions : ℕ) (lines : List (List ℕ)) (steps : List Step) → AreRead lines steps
    → AreTakeableBy sessions steps → AreTakeable sessions lines
are_takeable sessions [] [] reads are = tt
are_takeable sessions [] (asks ∷ steps) reads are = absurd reads
are_takeable sessions (bytes ∷ lines) [] reads are = absurd reads
are_takeable sessions (bytes ∷ lines) (asks ∷ steps) reads are =
    let rest : AreTakeable (sessions + begun_by_step asks) lines =
    are_takeable (sessions + begun_by_step asks) lines steps reads.1 are.1 in (
      subst (λ (r : LineAnswer). MayBeTaken sessions r) (sym reads.0) are.0,
      subst (λ (r : LineAnswer). AreTakeable (sessions + begun_in r) lines) (sym reads.0) rest,
    )

-- lines that are read as steps which begin no session
pub are_of_session : (lines : List (List ℕ)) (steps : List Step) → AreRead lines steps
    → AllByRecursion (λ (asks : Step). begins_session asks ≡ false) steps → AreOfSession lines
are_of_session [] [] reads none = tt
are_of_session [] (asks ∷ steps) reads none = absurd reads
are_of_session (bytes ∷ lines) [] reads none = absurd reads
are_of_session (bytes ∷ lines) (asks ∷ steps) reads none =
    (subst KeepsSession (sym reads.0) none.0, are_of_session lines steps reads.1 none.1)

-- ---- no line is for a switch

abbrev pub HasNoSwitch : LineAnswer → Type 0
HasNoSwitch (line.Step asks) = is_of_switch asks ≡ false
HasNoSwitch _ = ⊤

-- lines that are read as such steps
pub are_switchless : (lines : List (List ℕ)) (steps : List Step) → AreRead lines steps
    → AllByRecursion (λ (asks : Step). is_of_switch asks ≡ false) steps
    → AllByRecursion (λ (bytes : List ℕ). HasNoSwitch (reading_of bytes)) lines
are_switchless [] [] reads none = tt
are_switchless [] (asks ∷ steps) reads none = absurd reads
are_switchless (bytes ∷ lines) [] reads none = absurd reads
are_switchless (bytes ∷ lines) (asks ∷ steps) reads none =
    (subst HasNoSwitch (sym reads.0) none.0, are_switchless lines steps reads.1 none.1)

-- and so is each one of them
pub switchless_at : (before : List (List ℕ)) (bytes : List ℕ) (later : List (List ℕ))
    → AllByRecursion (λ (bytes : List ℕ). HasNoSwitch (reading_of bytes)) (before ++ bytes ∷ later) → HasNoSwitch (reading_of bytes)
switchless_at [] bytes later none = none.0
switchless_at (first ∷ before) bytes later none = switchless_at before bytes later none.1
