-- What a line comes to, whatever it answers.
use Rattle.std.specs.Prelude.{ℕ, ◌≡◌, ◌⊎◌, ◌+◌, ◌≤◌, length, Option, Some, Result, IfOk, IfErr}
use Rattle.cache_model.specs.Vectors.{AreTold}
use Rattle.cache_calls.specs.declared.calls.Calls.{Ghosts as CallsGhosts}
use Rattle.cache_calls.specs.Keeping.{Goes, StaysUnharmed}
use Rattle.cache_calls.specs.Standing.{StaysStanding}
use Rattle.actor_table.specs.Table.{TableSeen}
use Rattle.script_grammar.specs.declared.step.Step.{Step}
use Rattle.script_grammar.specs.declared.answer.StepAnswer.{StepAnswer}
use Rattle.script_run.specs.Own.{AreOwn}
use Rattle.script_run.specs.Run.{Run}
use Rattle.cache_replay.specs.declared.session.ActorHolding.{ActorHolding}
use Rattle.cache_replay.specs.declared.session.Part.{Part}
use Rattle.cache_replay.specs.declared.session.Session.{Session}
use Rattle.cache_replay.specs.declared.stop.Stop.{Stop}
use Rattle.cache_replay.specs.declared.stop.Stop.TheVariants.{Memory}
use Rattle.cache_replay.specs.Session.{AnswerTellsCount, AreLater, IsActive, IsPart, IsSession, LeavesBut, at_in, devices_of, names_in, return_in, slots_of, state_in_part}
use Rattle.line_calls.specs.Moves.{MovesOrShows, ShowsIn}
use Rattle.cache_replay.specs.Plays.{PartEnds, Plays, PlaysPart, StepEnds}
use Rattle.line_calls.specs.Standing.{IsToldPlainly, OwnStands}
use Rattle.cache_replay.specs.Stop.{IsSessionStop}

module _ {S W R : Type 0} {c : CallsGhosts S W R} where
  -- a line on a session: it did what it must beside each run, or shows a pair, or it ended the run
  pub record AnswersLine (step : Step) (old new : Session S W R c) (result : Result StepAnswer Stop) : Type 0 where
    pub session : IsSession new
    pub ends : IfOk result (λ said. (run : Run) → Plays run old → StepEnds run step new said)
    pub counts : IfOk result (AnswerTellsCount new.part)
    pub device : AreLater (return_in old) (return_in new)
    pub stop : IfErr result (IsSessionStop old)
    pub devices : devices_of new ≡ devices_of old
    pub names : length (names_in new) ≤ length (names_in old) + 1

  -- the same of a line of an actor, on a part with what the actors have, at a moment
  pub record AnswersActor (now : ℕ) (step : Step) (old new : Part S W R c) (actors later : TableSeen (ActorHolding W R)) (result : Result StepAnswer Stop) : Type 0 where
    pub active : IsActive new (slots_of c later)
    pub goes : Goes c.at c.holds old.cache new.cache
    pub ends : IfOk result (λ said. (run : Run) → run.now ≡ now → PlaysPart run old actors → PartEnds run step old new later said)
    pub unharmed : (run : Run) → PlaysPart run old actors → StaysUnharmed (at_in old) (at_in new)
    pub counts : IfOk result (AnswerTellsCount (Some new))
    pub stop : IfErr result (λ why. why ≡ Memory)
    pub names : length later.names ≤ length actors.names + 1

  -- and of a line without an actor, which leaves all puts but one and all readers but one
  pub record AnswersPlainly (now : ℕ) (step : Step) (put reader : Option ℕ) (old new : Part S W R c) (result : Result StepAnswer Stop) : Type 0 where
    pub part : IsPart new
    pub goes : Goes c.at c.holds old.cache new.cache
    pub leaves : LeavesBut put reader (state_in_part old) (state_in_part new)
    pub stands : StaysStanding c.stands (IsToldPlainly (state_in_part new) put step) old.cache new.cache
    pub ends : IfOk result (λ said. (run : Run) → run.now ≡ now → AreTold (state_in_part old) → AreOwn (state_in_part old) run.streams
        → OwnStands run.streams (state_in_part old) (c.stands old.cache)
        → MovesOrShows run step (at_in old) (at_in new) said)
    pub unharmed : (run : Run) → run.now ≡ now → AreTold (state_in_part old) → AreOwn (state_in_part old) run.streams
        → OwnStands run.streams (state_in_part old) (c.stands old.cache)
        → StaysUnharmed (at_in old) (at_in new) ⊎ ShowsIn run step (at_in old) (at_in new)
    pub counts : IfOk result (AnswerTellsCount (Some new))
    pub stop : IfErr result (λ why. why ≡ Memory)
