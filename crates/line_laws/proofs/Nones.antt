-- Where no session stands none does behind lines that begin none.
use Rattle.std.proofs.Common.{◌≡◌, ℕ, List, [], ◌∷◌, false, refl, sym, ◌∙◌}
use Rattle.std.specs.Prelude.{None}
use Rattle.cache_model.proofs.Found.{no_truth}
use Rattle.script_grammar.specs.declared.answer.StepAnswer.{StepAnswer}
use Rattle.script_grammar.specs.declared.line.LineAnswer.{LineAnswer}
use Rattle.script_grammar.specs.declared.line.LineAnswer.TheVariants as line
use Rattle.script_grammar.specs.declared.step.Step.{Step}
use Rattle.script_grammar.specs.Grammar.{reading_of}
use Rattle.script_run.specs.Run.{Run}
use Rattle.script_run.specs.Turn.{Turn}
use Rattle.script_run.specs.Behind.{after_line, after_reading}
use Rattle.script_run.specs.Takes.{IsRun, ReadingTakes, run_after}
use Rattle.script_run.specs.Goes.{StepGoes, begins, begins_session, cuts_off, fails, stays, tells_bare, waits, works}
use Rattle.script_run.proofs.Lift.{goes}
use Rattle.line_laws.specs.Along.{AreOfSession, KeepsSession}

none_step : (run : Run) (turn : Turn) {st : Step} {said : StepAnswer} {after : Run} → StepGoes run turn st said after → begins_session st ≡ false → run.state ≡ None → after.state ≡ None
none_step run turn (stays bad same none) keeps e = e
none_step run turn (waits at same none) keeps e = e
none_step run turn (works s same some takes) keeps e = absurd cc
none_step run turn (cuts_off choice s some cut) keeps e = refl
none_step run turn (tells_bare t same none last takes only) keeps e = e
none_step run turn (begins name g same is) keeps e = no_truth (sym same ∙ keeps)
none_step run turn (fails name count same is refuses) keeps e = refl

none_line : (run : Run) (turn : Turn) (l : LineAnswer) → ReadingTakes run turn l → KeepsSession l → run.state ≡ None → (after_reading run turn l).state ≡ None
none_line run turn (line.Step st) takes keeps e = none_step run turn (goes run turn st takes) keeps e
none_line run turn line.Nothing takes keeps e = e
none_line run turn (line.Bad fault) takes keeps e = absurd takes

pub none_along : (run : Run) (lines : List (List ℕ)) (turns : List Turn) → run.state ≡ None → IsRun run lines turns → AreOfSession lines → (run_after run lines turns).state ≡ None
none_along run [] turns e takes keeps = e
none_along run (bytes ∷ lines) [] e takes keeps = absurd takes
none_along run (bytes ∷ lines) (turn ∷ turns) e takes keeps =
    none_along (after_line run turn bytes) lines turns (none_line run turn (reading_of bytes) takes.0 keeps.0 e) takes.1 keeps.1
