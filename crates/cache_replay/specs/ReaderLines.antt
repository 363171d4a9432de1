-- What the lines of readers make of a cache, and of what the actors have.
use Rattle.std.specs.Prelude.{ℕ, ◌≡◌, ◌⊎◌, ◌*◌, ◌≤◌, List, length, take, Option, Some, None, option_map, Result, IfOk}
use Rattle.tape_base.specs.Geometry.{budget_of}
use Rattle.cache_model.specs.State.{State}
use Rattle.cache_model.specs.Vectors.{AreTold}
use Rattle.cache_model.specs.Contents.{AnyContents}
use Rattle.call_laws.specs.Moments.{At}
use Rattle.cache_calls.specs.declared.calls.Calls.{Ghosts as CallsGhosts}
use Rattle.cache_answers.specs.declared.answers.NextPiece.{NextPiece}
use Rattle.cache_answers.specs.declared.answers.NextPiece.TheVariants as piece
use Rattle.cache_answers.specs.declared.answers.Opened.{Opened}
use Rattle.cache_answers.specs.declared.answers.Opened.TheVariants as opened
use Rattle.cache_calls.specs.Actors.{IsOpenReader, IsReaderOf, ReaderSeen}
use Rattle.cache_model.specs.Subjects.{IsOfReader}
use Rattle.cache_calls.specs.Adds.{AddsOnly}
use Rattle.cache_calls.specs.Keeping.{Goes, StaysUnharmed, state_at}
use Rattle.cache_calls.specs.Standing.{StaysStanding}
use Rattle.script_grammar.specs.declared.answer.StepAnswer.{StepAnswer}
use Rattle.script_grammar.specs.declared.answer.StepAnswer.TheVariants as answer
use Rattle.script_grammar.specs.declared.step.Step.TheVariants as step
use Rattle.script_run.specs.Run.{Run, Stream, reader_by}
use Rattle.script_run.specs.Answers.{broken_said, miss_said}
use Rattle.script_run.specs.Losses.{NoLossIsAFault}
use Rattle.script_run.specs.Own.{AreOwn}
use Rattle.cache_replay.specs.declared.stop.Stop.{Stop}
use Rattle.line_calls.specs.Moves.{Moves, ShowsIn}
use Rattle.line_calls.specs.Standing.{OwnStands}
use Rattle.run_promise.specs.Outline.{count_in}
use Rattle.cache_replay.specs.Session.{HoldingSeen, ReaderHeld, WriterHeld}

-- ---- what an actor has

-- what an actor has that has a reader
abbrev pub as_held : Option ReaderSeen → Option HoldingSeen
as_held reader = option_map (λ (r : ReaderSeen). ReaderHeld r) reader

-- the reader that an actor has
abbrev pub reader_held : Option HoldingSeen → Option ReaderSeen
reader_held None = None
reader_held (Some (WriterHeld w)) = None
reader_held (Some (ReaderHeld r)) = Some r

-- what is left where its reader is taken
abbrev pub left_without_reader : Option HoldingSeen → Option HoldingSeen
left_without_reader None = None
left_without_reader (Some (WriterHeld w)) = Some (WriterHeld w)
left_without_reader (Some (ReaderHeld r)) = None

-- ---- answers

-- the reader that was opened
abbrev pub reader_opened : {R : Type 0} → Opened R → Option R
reader_opened (opened.Hit reader put length) = Some reader
reader_opened (opened.Follow reader put) = Some reader
reader_opened (opened.Miss why) = None

-- what a lookup answers; the length is told of a hit alone, since a put that is followed may grow
abbrev pub opened_answer : {R : Type 0} → Opened R → StepAnswer
opened_answer (opened.Hit reader put length) = answer.Hit put length
opened_answer (opened.Follow reader put) = answer.Follow put
opened_answer (opened.Miss why) = miss_said why

-- of a piece that was read to the front of these bytes
abbrev pub next_answer : NextPiece → List ℕ → StepAnswer
next_answer (piece.Piece index size) into = answer.Piece index size (take size into)
next_answer (piece.End length) into = answer.End length
next_answer (piece.NotYet cut) into = answer.NotYet cut
next_answer (piece.Broken why) into = broken_said why

-- a piece is no longer than what it was read to
abbrev pub IsWithin : NextPiece → List ℕ → Type 0
IsWithin (piece.Piece index size) into = size ≤ length into
IsWithin _ into = Unit {0}

-- ---- a reader that reads on

module _ {S W R : Type 0} (c : CallsGhosts S W R) where
  -- a cache between calls, and a page that takes any piece
  pub record IsReadyToRead (cache : S) (page : List ℕ) : Type 0 where
    pub holds : c.holds cache
    pub page_is : length page ≡ 512 * budget_of (state_at (c.at cache)).geometry

  -- what was read left a cache that goes on, and its records are of this reader alone
  pub record LeavesReader (old new : S) (number : ℕ) : Type 0 where
    pub goes : Goes c.at c.holds old new
    pub stands : StaysStanding c.stands AnyContents old new
    pub own : AddsOnly (IsOfReader number) (c.at old) (c.at new)

-- it is the reader that the run says that the actor has, and what stands belongs to what writers took
pub record IsReadBy (run : Run) (name : List ℕ) (s : State) (r : ReaderSeen) : Type 0 where
  pub held : reader_by run name ≡ Some r.reader
  pub told : AreTold s
  pub own : AreOwn s run.streams
  pub reader : IsReaderOf s r

-- a line gave the reader what it must, which still has the fragments of the records
pub record NextMoves (run : Run) (name : List ℕ) (old new : At) (later : ReaderSeen) (said : StepAnswer) : Type 0 where
  pub moves : Moves run (step.Next name) old new said
  pub keeps : IsReaderOf (state_at new) later

-- so it is, or two documents of one SHA-256 are shown
abbrev pub NextEnds : Run → List ℕ → (old new : At) → ReaderSeen → StepAnswer → Type 0
NextEnds run name old new later said = NextMoves run name old new later said ⊎ ShowsIn run (step.Next name) old new

module _ {S W R : Type 0} (c : CallsGhosts S W R) where
  -- what a line made of a reader that is open
  pub record ReadsOnLine (old new : S) (r later : ReaderSeen) (result : Result StepAnswer Stop) : Type 0 where
    pub reader : IsOpenReader (state_at (c.at new)) later
    pub same : later.reader ≡ r.reader
    pub ends : IfOk result (λ said. (run : Run) (name : List ℕ) → IsReadBy run name (state_at (c.at old)) r
        → OwnStands run.streams (state_at (c.at old)) (c.stands old) → NextEnds run name (c.at old) (c.at new) later said)
    pub unharmed : (streams : ℕ → Stream) → AreOwn (state_at (c.at old)) streams → IsReaderOf (state_at (c.at old)) r → StaysUnharmed (c.at old) (c.at new)
    pub counts : IfOk result (λ said. NoLossIsAFault (state_at (c.at old)) → count_in said ≤ (c.at new).device.faults)
