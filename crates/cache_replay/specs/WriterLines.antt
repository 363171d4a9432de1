-- What a line makes of an actor's writer.
use Rattle.std.specs.Prelude.{ℕ, ◌≡◌, ◌==◌, ◌⊎◌, ◌≤◌, if◌then◌else◌, List, Option, Some, None, IfSome, option_map}
use Rattle.tape_base.specs.declared.keys.Key.{Key}
use Rattle.alternate_vector.specs.Field.{Field}
use Rattle.cache_model.specs.State.{State}
use Rattle.cache_model.specs.Vectors.{AreTold}
use Rattle.call_laws.specs.Moments.{At}
use Rattle.cache_calls.specs.declared.calls.Calls.{Ghosts as CallsGhosts}
use Rattle.cache_calls.specs.Actors.{WriterSeen}
use Rattle.cache_model.specs.Subjects.{IsOfPut}
use Rattle.cache_calls.specs.Adds.{AddsOnly}
use Rattle.cache_calls.specs.Keeping.{KeepsUnharmed, state_at}
use Rattle.actor_table.specs.Table.{TableSeen, number_of_name}
use Rattle.script_grammar.specs.declared.step.Step.{Step}
use Rattle.script_grammar.specs.declared.step.Step.TheVariants as step
use Rattle.script_grammar.specs.declared.answer.StepAnswer.{StepAnswer}
use Rattle.script_run.specs.Run.{Run, HoldsWriter, held_by}
use Rattle.script_run.specs.Behind.{holds_behind, streams_behind}
use Rattle.script_run.specs.Losses.{NoLossIsAFault}
use Rattle.cache_replay.specs.declared.session.ActorHolding.{ActorHolding}
use Rattle.line_calls.specs.Moves.{Moves, ShowsIn}
use Rattle.run_promise.specs.Outline.{count_in}
use Rattle.cache_replay.specs.Plays.{IsStreamOf}
use Rattle.cache_replay.specs.Session.{HoldingSeen, IsOpenWriter, ReaderHeld, WriterHeld, slots_of}

-- ---- lines

-- what is asked of a writer, or for one
pub data WriterLine : Type 0 where
  FeedsLine : (body : List ℕ) → WriterLine
  ClosesLine : WriterLine
  GivesUpLine : WriterLine
  OpensLine : (key : Key) (pin : ℕ) (request response : List Field) → WriterLine

-- the step of the script that asks so of the actor of this name
abbrev pub step_of_writer : WriterLine → List ℕ → Step
step_of_writer (FeedsLine body) name = step.Feed name body
step_of_writer ClosesLine name = step.Close name
step_of_writer GivesUpLine name = step.Abort name
step_of_writer (OpensLine key pin request response) name = step.OpenWrite name key pin request response

-- ---- a writer

-- it is what the run says that the actor has
pub record IsPlayed (run : Run) (name : List ℕ) (s : State) (w : WriterSeen) : Type 0 where
  pub held : held_by run name ≡ Some (HoldsWriter w.put)
  pub stream : IsStreamOf (run.streams w.put) w
  pub told : AreTold s

-- what the actor is left with
abbrev pub held_in : Option WriterSeen → Option HoldingSeen
held_in left = option_map (λ (w : WriterSeen). WriterHeld w) left

-- the same as a run tells it: by the number of the put
abbrev pub writes_in : Option WriterSeen → Option Rattle.script_run.specs.Run.Holding
writes_in None = None
writes_in (Some w) = Some (HoldsWriter w.put)

-- a writer that is left writes the same put, which is open
abbrev pub IsWriterLeft : State → ℕ → Option WriterSeen → Type 0
IsWriterLeft t put left = IfSome left (λ w. (w.put ≡ put) × IsOpenWriter t w)

-- a line did what it must, this writer is left, and this is its answer
pub record WriterMoves (run : Run) (name : List ℕ) (old new : At) (line : WriterLine) (left : Option WriterSeen) (said : StepAnswer) : Type 0 where
  pub moves : Moves run (step_of_writer line name) old new said
  pub held : holds_behind run (state_at old) (state_at new) (step_of_writer line name) name ≡ writes_in left
  pub stream : IfSome left
      (λ w. IsStreamOf (streams_behind run (state_at old) (state_at new) moves.turn (step_of_writer line name) w.put) w)

-- so it is, or two documents of one SHA-256 are shown
abbrev pub WriterEnds : Run → List ℕ → (old new : At) → WriterLine → Option WriterSeen → StepAnswer → Type 0
WriterEnds run name old new line left said = WriterMoves run name old new line left said ⊎ ShowsIn run (step_of_writer line name) old new

-- at a moment; where memory is wanting nothing is answered
abbrev pub WriterDoes : ℕ → (old new : At) → WriterLine → WriterSeen → Option WriterSeen → Option StepAnswer → Type 0
WriterDoes now old new line w left answer = IfSome answer (λ said.
    (run : Run) (name : List ℕ) → run.now ≡ now → IsPlayed run name (state_at old) w → WriterEnds run name old new line left said)

-- the same, at any moment, of a line that asks for a writer, of an actor that has nothing
abbrev pub OpenDoes : (old new : At) → ℕ → WriterLine → Option WriterSeen → Option StepAnswer → Type 0
OpenDoes old new n line left answer = IfSome answer (λ said.
    (run : Run) (name : List ℕ) → held_by run name ≡ None → n ≡ number_of_name run.actors name → AreTold (state_at old)
    → WriterEnds run name old new line left said)

-- an actor has no writer
abbrev pub HasNoWriter : Option HoldingSeen → Type 0
HasNoWriter None = Unit {0}
HasNoWriter (Some (WriterHeld w)) = ⊥
HasNoWriter (Some (ReaderHeld r)) = Unit {0}

module _ {S W R : Type 0} (c : CallsGhosts S W R) where
  -- what a line on the writer of a put leaves of the cache, and of that writer, and what its answer tells of the device
  pub record LeavesWriter (old new : S) (put : ℕ) (left : Option W) (answer : Option StepAnswer) : Type 0 where
    pub keeps : KeepsUnharmed c.at c.holds old new
    pub own : AddsOnly (IsOfPut put) (c.at old) (c.at new)
    pub left_is : IsWriterLeft (state_at (c.at new)) put (option_map c.written left)
    pub counts : IfSome answer (λ said. NoLossIsAFault (state_at (c.at old)) → count_in said ≤ (c.at new).device.faults)

  -- ---- what an actor has

  -- the writer that an actor had is taken; where it had none, it has what it had
  abbrev pub TakesWriter : TableSeen (ActorHolding W R) → TableSeen (ActorHolding W R) → ℕ → Option W → Type 0
  TakesWriter old new n None = HasNoWriter (slots_of c old n) × ((m : ℕ) → slots_of c new m ≡ slots_of c old m)
  TakesWriter old new n (Some w) =
      (slots_of c old n ≡ Some (WriterHeld (c.written w))) × ((m : ℕ) → slots_of c new m ≡ (if m == n then None else slots_of c old m))
