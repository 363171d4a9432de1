-- Which line opened the reader that an actor has, and what the lines of that actor were given since.
use Rattle.std.specs.Prelude.{ℕ, ◌≡◌, if◌then◌else◌, List, [], ◌∷◌, ◌++◌, Option, Some}
use Rattle.actor_table.specs.Table.{same_name}
use Rattle.tape_base.specs.declared.keys.Key.{Key}
use Rattle.alternate_vector.specs.Field.{Field}
use Rattle.cache_model.specs.State.{State, ReaderRow}
use Rattle.script_grammar.specs.declared.step.Step.TheVariants as step
use Rattle.script_grammar.specs.declared.answer.StepAnswer.{StepAnswer}
use Rattle.script_grammar.specs.declared.answer.StepAnswer.TheVariants as answer
use Rattle.script_grammar.specs.declared.line.LineAnswer.{LineAnswer}
use Rattle.script_grammar.specs.declared.line.LineAnswer.TheVariants as line
use Rattle.script_grammar.specs.Grammar.{reading_of}
use Rattle.script_run.specs.Run.{Run, fresh, reader_by}
use Rattle.script_run.specs.Turn.{Turn}
use Rattle.script_run.specs.Answers.{step_answer}
use Rattle.script_run.specs.Behind.{after_line}
use Rattle.script_run.specs.Takes.{IsRun, run_after}
use Rattle.line_laws.specs.Along.{AreOfSession, LineOpens}
use Rattle.line_laws.specs.Given.{given_to}
use Rattle.line_laws.specs.Laws.{WasPutFor}

-- ---- what the lines of an actor are given

-- what a line gives where the actor of this name asks it for the next fragment
abbrev pub asked_by : List ℕ → LineAnswer → List ℕ → List ℕ
asked_by name (line.Step (step.Next actor)) given = if same_name actor name then given else []
asked_by name _ given = []

-- all that such lines give, one after the other
abbrev pub given_by_name : List ℕ → List (List ℕ) → List Turn → List ℕ
given_by_name name [] turns = []
given_by_name name (bytes ∷ lines) [] = []
given_by_name name (bytes ∷ lines) (turn ∷ turns) = asked_by name (reading_of bytes) turn.given ++ given_by_name name lines turns

-- the bytes of a piece; another answer has none
abbrev pub piece_said : Option StepAnswer → List ℕ
piece_said (Some (answer.Piece index size bytes)) = bytes
piece_said _ = []

-- the bytes of all pieces that these lines, answered so, tell the actor of this name
abbrev pub pieces_told : List ℕ → List (List ℕ) → List (Option StepAnswer) → List ℕ
pieces_told name [] answers = []
pieces_told name (bytes ∷ lines) [] = []
pieces_told name (bytes ∷ lines) (said ∷ answers) = asked_by name (reading_of bytes) (piece_said said) ++ pieces_told name lines answers

-- ---- the line that opened a reader

-- a line that opens a reader is answered that it hit this put, or that it follows it
pub data IsSaidToOpen (run : Run) (turn : Turn) (name : List ℕ) (key : Key) (request : List Field) (put : ℕ) : Type 0 where
  hits : (size : ℕ) → step_answer run turn (step.OpenRead name key request) ≡ answer.Hit put size → IsSaidToOpen run turn name key request put
  follows : step_answer run turn (step.OpenRead name key request) ≡ answer.Follow put → IsSaidToOpen run turn name key request put

-- one of these lines opened the reader, for the actor of this name, and none since began another session. It was answered
-- that it hit the put of the reader, or follows it; and an earlier line opened that put under the asked key, with lines that
-- fit the request. All that the reader was given since are what the lines of the actor were given
pub record IsOpenedBy (lines : List (List ℕ)) (turns : List Turn) (name : List ℕ) (reader : ℕ) : Type 0 where
  pub before : List (List ℕ)
  pub earlier : List Turn
  pub bytes : List ℕ
  pub turn : Turn
  pub later : List (List ℕ)
  pub rest : List Turn
  pub lines_are : lines ≡ before ++ bytes ∷ later
  pub turns_are : turns ≡ earlier ++ turn ∷ rest
  pub legal : IsRun fresh before earlier
  pub s : State
  pub r : ReaderRow
  pub opens : LineOpens (run_after fresh before earlier) s turn bytes r
  pub actor_is : opens.actor ≡ name
  pub number : s.next_reader ≡ reader
  pub same_session : AreOfSession later
  pub goes : IsRun (after_line (run_after fresh before earlier) turn bytes) later rest
  pub ends : run_after fresh lines turns ≡ run_after (after_line (run_after fresh before earlier) turn bytes) later rest
  pub said : IsSaidToOpen (run_after fresh before earlier) turn opens.actor opens.key opens.request r.put
  pub put_for : WasPutFor before earlier opens.key opens.request r.put
  pub given : given_to reader (after_line (run_after fresh before earlier) turn bytes) later rest ≡ given_by_name name later rest

-- behind each legal script the reader that an actor has was opened so
abbrev pub ReaderIsOpened : Type 0
ReaderIsOpened = (lines : List (List ℕ)) (turns : List Turn) (name : List ℕ) (reader : ℕ) → IsRun fresh lines turns
    → reader_by (run_after fresh lines turns) name ≡ Some reader → IsOpenedBy lines turns name reader
