-- A line on a part and its actors, as a line on a session.
use Rattle.std.proofs.Common.{◌≡◌, ◌≤◌, ◌++◌, inl, inr, refl, sym, ◌∙◌, ap, subst, length, Result, Ok, Err}
use Rattle.std.specs.Prelude.{Some, IfErr, IfOk}
use Rattle.cache_model.specs.State.{State, after_all}
use Rattle.logged_disk.specs.Device.{DeviceState as Device, IsAfter}
use Rattle.logged_disk.proofs.GoingOn.{told_before}
use Rattle.cache_calls.specs.declared.calls.Calls.{Ghosts as CallsGhosts}
use Rattle.cache_calls.specs.Keeping.{Goes, IsUnharmed, StaysUnharmed}
use Rattle.actor_table.specs.Table.{TableSeen}
use Rattle.script_grammar.specs.declared.step.Step.{Step}
use Rattle.script_grammar.specs.declared.step.Step.TheVariants as step
use Rattle.script_grammar.specs.declared.answer.StepAnswer.{StepAnswer}
use Rattle.script_run.specs.Run.{Run}
use Rattle.script_run.specs.Turn.{Turn, calls_in}
use Rattle.script_run.specs.Answers.{session_said, step_said}
use Rattle.script_run.specs.Behind as then
use Rattle.script_run.specs.Behind.{in_session}
use Rattle.script_run.specs.Takes.{SessionTakes, ShowsBehind, StepShows, Takes, TakesBehind}
use Rattle.cache_replay.specs.declared.session.ActorHolding.{ActorHolding}
use Rattle.cache_replay.specs.declared.session.Part.{Part}
use Rattle.cache_replay.specs.declared.session.Session.{Session}
use Rattle.cache_replay.specs.declared.stop.Stop.{Stop}
use Rattle.cache_replay.specs.declared.stop.Stop.TheVariants.{Memory}
use Rattle.cache_replay.specs.Session.{AreLater, IsLaterDevice, IsActive, IsAt, IsSession, at_in, past_of, return_of, slots_in, state_in_part}
use Rattle.line_calls.specs.Moves.{ShowsIn}
use Rattle.cache_replay.specs.Plays.{CallsAt, IsUnharmedAt, OwnStandsAt, PartEnds, PartMoves, Plays, PlaysAt, PlaysPart}
use Rattle.cache_replay.specs.Plays.{StepEnds, StepMoves, StepPair}
use Rattle.cache_replay.specs.OneLine.{AnswersActor, AnswersLine}
use Rattle.cache_replay.specs.Stop.{IsSessionStop}

-- ---- lines that need a session

-- a line that works on a session, and neither begins nor ends one
abbrev pub WorksOn : Step → Type 0
WorksOn (step.Format name segments buckets content agg reach fragment generation alternates) = ⊥
WorksOn (step.Now moment) = ⊥
WorksOn (step.Cut choice) = ⊥
WorksOn _ = Unit {0}

-- where there is one a line is as its records say
pub record IsOnSession (step : Step) : Type 0 where
  pub takes : (run : Run) (s : State) (turn : Turn) → SessionTakes run s turn step → Takes run turn (Some s) step
  pub says : (run : Run) (s : State) (turn : Turn) → step_said run turn (Some s) step ≡ session_said run s (after_all s turn.added) turn step
  pub behind : (run : Run) (s : State) (turn : Turn) → then.behind run turn (Some s) step ≡ in_session run s (after_all s turn.added) turn step

pub on_session : (step : Step) → WorksOn step → IsOnSession step
on_session (step.Format name segments buckets content agg reach fragment generation alternates) needs = absurd needs
on_session (step.Now moment) needs = absurd needs
on_session (step.Cut choice) needs = absurd needs
on_session _ needs = record { takes = λ run s turn h. h; says = λ run s turn. refl; behind = λ run s turn. refl }

-- a device that goes on is a later one
pub later_device : {old new : Device} → old.faults ≤ new.faults → IsAfter old new → IsLaterDevice old new
later_device {old} {new} faults goes = record {
  faults = faults;
  number = goes.number;
  switch = goes.switch;
  made = record { later = goes.made; is = goes.past };
  tells = told_before old new goes;
}

module _ {S W R : Type 0} {c : CallsGhosts S W R} where
  -- ---- a session that has a part

  pub active : (session : Session S W R c) (part : Part S W R c) → session.part ≡ Some part → IsSession session → IsActive part (slots_in session)
  active session part is h = subst (λ p. IsAt p (slots_in session)) is h

  pub part_plays : (run : Run) (session : Session S W R c) (part : Part S W R c) → session.part ≡ Some part → Plays run session → PlaysPart run part session.actors
  part_plays run session part is plays = record {
    names = plays.names;
    at = subst (λ p. PlaysAt run p (slots_in session)) is plays.at;
    stands = subst (λ p. OwnStandsAt run p) is plays.stands;
  }

  part_unharmed : (session : Session S W R c) (part : Part S W R c) → session.part ≡ Some part → IsUnharmedAt session.part → IsUnharmed (at_in part)
  part_unharmed session part is h = subst (λ p. IsUnharmedAt p) is h

  part_calls : (run : Run) (session : Session S W R c) (part : Part S W R c) → session.part ≡ Some part → CallsAt run session.part → past_of part ≡ run.calls
  part_calls run session part is h = subst (λ p. CallsAt run p) is h

  -- ---- a line on it

  module _ (session : Session S W R c) (before after : Part S W R c) (actors : TableSeen (ActorHolding W R))
      (was : session.part ≡ Some before) where
    -- the session behind it
    abbrev behind_it : Session S W R c
    behind_it = record session { part = Some after; actors = actors }

    -- it did what it must, and no more pieces were told as damaged
    moved : (run : Run) (step : Step) (said : StepAnswer) → WorksOn step → Plays run session → StaysUnharmed (at_in before) (at_in after)
        → PartMoves run step before after actors said → StepMoves run step behind_it said
    moved run step said needs plays stays m =
        let s : State = state_in_part before in
        let turn : Turn = m.moves.turn in
        let on = on_session step needs in
        let state : run.state ≡ Some s = (part_plays run session before was plays).at.state in
        let later : then.behind run turn (Some s) step ≡ in_session run s (state_in_part after) turn step =
        on.behind run s turn ∙ ap (λ t. in_session run s t turn step) (sym m.moves.state) in
        record {
          turn = turn;
          takes = subst (λ o. Takes run turn o step) (sym state) (on.takes run s turn (subst (λ calls. TakesBehind calls run s turn step) (part_calls run session before was plays.calls) m.moves.takes));
          plays = subst (λ o. Plays (then.behind run turn o step) behind_it) (sym state)
              (subst (λ r. Plays r behind_it) (sym later) (record {
                names = m.plays.names;
                now = plays.now;
                at = m.plays.at;
                unharmed = stays (part_unharmed session before was plays.unharmed);
                stands = m.plays.stands;
                calls = m.moves.calls ∙ ap (λ older. calls_in turn ++ older) (part_calls run session before was plays.calls);
              }));
          says = subst (λ o. step_said run turn o step ≡ said) (sym state)
              (on.says run s turn ∙ (ap (λ t. session_said run s t turn step) (sym m.moves.state) ∙ m.moves.says));
        }

    -- or it showed a pair
    pub shown : (run : Run) (step : Step) → Plays run session → ShowsIn run step (at_in before) (at_in after) → StepPair run step behind_it
    shown run step plays h = record {
      turn = h.turn;
      shows = subst (λ o. StepShows run h.turn o step) (sym (part_plays run session before was plays).at.state)
          (subst (λ calls. ShowsBehind calls run (state_in_part before) h.turn step) (part_calls run session before was plays.calls) h.shows);
      calls = h.calls ∙ ap (λ older. calls_in h.turn ++ older) (part_calls run session before was plays.calls);
      untold = h.untold;
    }

    pub part_ends : (run : Run) (step : Step) (said : StepAnswer) → WorksOn step → Plays run session → StaysUnharmed (at_in before) (at_in after)
        → PartEnds run step before after actors said → StepEnds run step behind_it said
    part_ends run step said needs plays stays (inl m) = inl (moved run step said needs plays stays m)
    part_ends run step said needs plays stays (inr h) = inr (shown run step plays h)

    -- its device goes on
    pub device_goes : Goes c.at c.holds before.cache after.cache → AreLater (return_of session.part) (return_of (Some after))
    device_goes goes = subst (λ o. AreLater (return_of o) (return_of (Some after))) (sym was) (later_device goes.later goes.goes, tt)

    -- a session with a part has one device
    pub same_devices : length (return_of behind_it.part) ≡ length (return_of session.part)
    same_devices = sym (ap (λ o. length (return_of o)) was)

    -- only memory was wanting
    pub wanting_stops : (result : Result StepAnswer Stop) → IfErr result (λ why. why ≡ Memory) → IfErr result (IsSessionStop session)
    wanting_stops (Ok said) wanting = tt
    wanting_stops (Err why) wanting = subst (IsSessionStop session) (sym wanting) tt

    actor_ends : (step : Step) (result : Result StepAnswer Stop) → WorksOn step → AnswersActor session.now step before after session.actors actors result
        → IfOk result (λ said. (run : Run) → Plays run session → StepEnds run step behind_it said)
    actor_ends step (Ok said) needs h = λ run plays.
        let there = part_plays run session before was plays in
        part_ends run step said needs plays (h.unharmed run there) (h.ends run plays.now there)
    actor_ends step (Err why) needs h = tt

    -- a line of an actor
    pub actor_line : (step : Step) (result : Result StepAnswer Stop) → WorksOn step → AnswersActor session.now step before after session.actors actors result
        → AnswersLine step session behind_it result
    actor_line step result needs h = record {
      session = h.active;
      ends = actor_ends step result needs h;
      counts = h.counts;
      device = device_goes h.goes;
      stop = wanting_stops result h.stop;
      devices = same_devices;
      names = h.names;
    }
