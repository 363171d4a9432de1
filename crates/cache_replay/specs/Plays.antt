-- What a session is for the run that it serves, and what a line makes of it.
use Rattle.std.specs.Prelude.{ℕ, ◌≡◌, ◌≤◌, ◌⊎◌, length, drop, Option, Some, None}
use Rattle.fragment_table.specs.Table.{total_length}
use Rattle.logged_disk.specs.Device.{TellsAll}
use Rattle.cache_model.specs.State.{State}
use Rattle.cache_model.specs.Vectors.{AreTold}
use Rattle.cache_calls.specs.declared.calls.Calls.{Ghosts as CallsGhosts}
use Rattle.cache_calls.specs.Actors.{IsReaderOf, WriterSeen}
use Rattle.cache_calls.specs.Keeping.{IsUnharmed}
use Rattle.actor_table.specs.Table.{TableSeen}
use Rattle.script_grammar.specs.declared.answer.StepAnswer.{StepAnswer}
use Rattle.script_grammar.specs.declared.step.Step.{Step}
use Rattle.script_run.specs.Run.{Run, Stream, HoldsWriter, HoldsReader}
use Rattle.script_run.specs.Turn.{Turn}
use Rattle.script_run.specs.Answers.{step_answer}
use Rattle.script_run.specs.Behind.{after_step, in_session, with_calls_of}
use Rattle.script_run.specs.Own.{AreOwn}
use Rattle.script_run.specs.Takes.{StepShows, StepTakes}
use Rattle.cache_replay.specs.declared.session.ActorHolding.{ActorHolding}
use Rattle.cache_replay.specs.declared.session.Part.{Part}
use Rattle.cache_replay.specs.declared.session.Session.{Session}
use Rattle.cache_replay.specs.Session.{HoldingSeen, ReaderHeld, WriterHeld, at_in, names_in, past_of, slots_in, slots_of, state_in_part}
use Rattle.line_calls.specs.Moves.{Moves, ShowsIn}
use Rattle.line_calls.specs.Standing.{OwnStands}

-- ---- a session beside a run

-- a writer cut and gathered what it took, and is sealed where it is to be
pub record IsStreamOf (stream : Stream) (w : WriterSeen) : Type 0 where
  pub gathered : w.gathered ≡ drop (total_length w.cuts) stream.bytes
  pub within : total_length w.cuts ≤ length stream.bytes
  pub sealed : w.sealed ≡ stream.sealed

-- an actor has what the run says
abbrev pub IsHeldAs : Run → State → ℕ → Option HoldingSeen → Type 0
IsHeldAs run s n None = run.held n ≡ None
IsHeldAs run s n (Some (WriterHeld w)) = (run.held n ≡ Some (HoldsWriter w.put)) × IsStreamOf (run.streams w.put) w
IsHeldAs run s n (Some (ReaderHeld r)) = (run.held n ≡ Some (HoldsReader r.reader)) × IsReaderOf s r

-- the records are those of a legal history, and what stands belongs to what writers took
pub record PlaysIn (run : Run) (s : State) (slots : ℕ → Option HoldingSeen) : Type 0 where
  pub state : run.state ≡ Some s
  pub told : AreTold s
  pub own : AreOwn s run.streams
  pub held : (n : ℕ) → IsHeldAs run s n (slots n)

-- there is no session, and no actor has anything
pub record PlaysNone (run : Run) : Type 0 where
  pub state : run.state ≡ None
  pub held : (n : ℕ) → run.held n ≡ None

module _ {S W R : Type 0} {c : CallsGhosts S W R} where
  -- the run beside a session's part, or beside a session that has none
  abbrev pub PlaysAt : Run → Option (Part S W R c) → (ℕ → Option HoldingSeen) → Type 0
  PlaysAt run None slots = PlaysNone run
  PlaysAt run (Some part) slots = PlaysIn run (state_in_part part) slots

  -- no piece of its part was told as damaged, where the device of that tells its content
  abbrev pub IsUnharmedAt : Option (Part S W R c) → Type 0
  IsUnharmedAt None = Unit {0}
  IsUnharmedAt (Some part) = IsUnharmed (at_in part)

  -- its device made the calls of the run, and no others
  abbrev pub CallsAt : Run → Option (Part S W R c) → Type 0
  CallsAt run None = Unit {0}
  CallsAt run (Some part) = past_of part ≡ run.calls

  -- what is told of its pieces, by what writers took, stands
  abbrev pub OwnStandsAt : Run → Option (Part S W R c) → Type 0
  OwnStandsAt run None = Unit {0}
  OwnStandsAt run (Some part) = OwnStands run.streams (state_in_part part) (c.stands part.cache)

  -- its device did not tell its content
  abbrev pub IsUntoldAt : Option (Part S W R c) → Type 0
  IsUntoldAt None = Unit {0}
  IsUntoldAt (Some part) = TellsAll (at_in part).device → ⊥

  -- a session as the run has it, as long as no two documents of one SHA-256 were shown
  pub record Plays (run : Run) (session : Session S W R c) : Type 0 where
    pub names : run.actors ≡ names_in session
    pub now : run.now ≡ session.now
    pub at : PlaysAt run session.part (slots_in session)
    -- of a device that tells its content no piece was told as damaged
    pub unharmed : IsUnharmedAt session.part
    pub stands : OwnStandsAt run session.part
    -- all calls of its device are those of the lines since its attach
    pub calls : CallsAt run session.part

  -- ---- a line

  -- a step did what it must, and this is its answer
  pub record StepMoves (run : Run) (step : Step) (new : Session S W R c) (said : StepAnswer) : Type 0 where
    pub turn : Turn
    pub takes : StepTakes run turn step
    pub plays : Plays (after_step run turn step) new
    pub says : step_answer run turn step ≡ said

  -- a step shows two documents of one SHA-256 in its turn, whose calls the session's device made, behind those of the run; that
  -- device did not tell its content
  pub record StepPair (run : Run) (step : Step) (new : Session S W R c) : Type 0 where
    pub turn : Turn
    pub shows : StepShows run turn run.state step
    pub calls : CallsAt (with_calls_of run turn) new.part
    pub untold : IsUntoldAt new.part

  -- it did what it must, or shows such a pair
  abbrev pub StepEnds : Run → Step → Session S W R c → StepAnswer → Type 0
  StepEnds run step new said = StepMoves run step new said ⊎ StepPair run step new

-- ---- a line on a part

module _ {S W R : Type 0} {c : CallsGhosts S W R} where
  -- a part and the actors as the run has them
  pub record PlaysPart (run : Run) (part : Part S W R c) (actors : TableSeen (ActorHolding W R)) : Type 0 where
    pub names : run.actors ≡ actors.names
    pub at : PlaysIn run (state_in_part part) (slots_of c actors)
    pub stands : OwnStands run.streams (state_in_part part) (c.stands part.cache)

  -- a line on a part did what it must, this is its answer, and the part and the actors are what the run behind it says
  pub record PartMoves (run : Run) (step : Step) (old new : Part S W R c) (actors : TableSeen (ActorHolding W R))
      (said : StepAnswer) : Type 0 where
    pub moves : Moves run step (at_in old) (at_in new) said
    pub plays : PlaysPart (in_session run (state_in_part old) (state_in_part new) moves.turn step) new actors

  -- so it is, or two documents of one SHA-256 are shown
  abbrev pub PartEnds : Run → Step → (old new : Part S W R c) → TableSeen (ActorHolding W R) → StepAnswer → Type 0
  PartEnds run step old new actors said = PartMoves run step old new actors said ⊎ ShowsIn run step (at_in old) (at_in new)
