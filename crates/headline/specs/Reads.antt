-- Complete reads: what they gave is what the writer of one put took.
use Rattle.std.specs.Prelude.{◌≡◌, ◌<◌, ℕ, List, ◌∷◌, ◌++◌, length, Some}
use Rattle.tape_base.specs.declared.keys.Key.{Key}
use Rattle.alternate_vector.specs.Field.{Field}
use Rattle.alternate_vector.specs.Alternates.{Stored}
use Rattle.cache_model.specs.State.{State, ReaderRow, Row, fragment_piece, live_row_of, reader_of}
use Rattle.cache_model.specs.Verdict.{hit}
use Rattle.script_grammar.specs.declared.step.Step.{Step}
use Rattle.script_grammar.specs.declared.step.Step.TheVariants as step
use Rattle.script_grammar.specs.declared.answer.StepAnswer.TheVariants as answer
use Rattle.script_run.specs.Run.{Run, fresh, reader_by}
use Rattle.script_run.specs.Turn.{Turn}
use Rattle.script_run.specs.Takes.{IsRun, run_after}
use Rattle.line_laws.specs.Laws.{WasPutFor}
use Rattle.headline.specs.Account.{Account, HistoryTells, RunLogs}

-- what these lines did, and then the line behind them
pub record DidBefore (turns : List Turn) (lines : List (List ℕ)) : Type 0 where
  pub earlier : List Turn
  pub turn : Turn
  pub later : List Turn
  pub turns_are : turns ≡ earlier ++ turn ∷ later
  pub legal : IsRun fresh lines earlier

-- the reader of the actor, behind these lines
pub record ReadsOnBehind (turns : List Turn) (lines : List (List ℕ)) (name : List ℕ) : Type 0 where
  pub did : DidBefore turns lines
  pub s : State
  pub state : (run_after fresh lines did.earlier).state ≡ Some s
  pub number : ℕ
  pub held : reader_by (run_after fresh lines did.earlier) name ≡ Some number
  pub reader : ReaderRow
  pub reading : reader_of s number ≡ Some reader

-- in the records of the lines before, the put is the one that answers the request: of those that the key's live vector lists
-- the last one that fits
pub record IsChosenPut (run : Run) (key : Key) (request : List Field) (put : ℕ) : Type 0 where
  pub s : State
  pub state : run.state ≡ Some s
  pub alternate : Stored
  pub found : hit s key request ≡ Some alternate
  pub put_is : alternate.put ≡ put

-- the fragments of the put before this one may be read
abbrev pub AreLiveBefore : State → Key → (put last : ℕ) → Type 0
AreLiveBefore s key put last = (index : ℕ) → 0 < index → index < last → (row : Row) × (live_row_of s (fragment_piece key put index) ≡ Some row)

-- the bytes are all that the writer of the put took, and so many; an earlier line of the session opened the put under this
-- key, with lines that fit the request; and it is the one that answers it
pub record IsWholePut (turns : List Turn) (lines : List (List ℕ)) (key : Key) (request : List Field)
    (put size : ℕ) (bytes : List ℕ) : Type 0 where
  pub did : DidBefore turns lines
  pub taken : bytes ≡ ((run_after fresh lines did.earlier).streams put).bytes
  pub sized : size ≡ length bytes
  pub put_for : WasPutFor lines did.earlier key request put
  pub chosen : IsChosenPut (run_after fresh lines did.earlier) key request put

-- each line answered `got` gave such bytes
abbrev pub GotIsWhole : Type 0
GotIsWhole = (l : RunLogs) (a : Account l) (lines : List (List ℕ)) (key : Key) (request : List Field) (put size : ℕ) (bytes : List ℕ)
    → HistoryTells a lines (step.Get key request) (answer.Got put size bytes) → IsWholePut a.turns lines key request put size bytes

-- the writer of the put took so many bytes; an earlier line of the session opened the put under this key, with lines that
-- fit the request; and it is the one that answers it
pub record IsStoredPut (turns : List Turn) (lines : List (List ℕ)) (key : Key) (request : List Field) (put size : ℕ) : Type 0 where
  pub did : DidBefore turns lines
  pub sized : size ≡ length ((run_after fresh lines did.earlier).streams put).bytes
  pub put_for : WasPutFor lines did.earlier key request put
  pub chosen : IsChosenPut (run_after fresh lines did.earlier) key request put

-- each line answered `hit` tells of such a put
abbrev pub HitIsWhole : Type 0
HitIsWhole = (l : RunLogs) (a : Account l) (lines : List (List ℕ)) (name : List ℕ) (key : Key) (request : List Field) (put size : ℕ)
    → HistoryTells a lines (step.OpenRead name key request) (answer.Hit put size) → IsStoredPut a.turns lines key request put size

-- an earlier line of the session opened the put under this key, with lines that fit the request
pub record IsFollowed (turns : List Turn) (lines : List (List ℕ)) (key : Key) (request : List Field) (put : ℕ) : Type 0 where
  pub did : DidBefore turns lines
  pub put_for : WasPutFor lines did.earlier key request put

-- a `get`, or a line that opens a reader, of this key with this request
pub data AsksFor (key : Key) (request : List Field) : Step → Type 0 where
  gets : AsksFor key request (step.Get key request)
  opens : (name : List ℕ) → AsksFor key request (step.OpenRead name key request)

-- each line answered `follow` tells of such a put
abbrev pub FollowWasPut : Type 0
FollowWasPut = (l : RunLogs) (a : Account l) (lines : List (List ℕ)) (asks : Step) (key : Key) (request : List Field) (put : ℕ)
    → AsksFor key request asks → HistoryTells a lines asks (answer.Follow put) → IsFollowed a.turns lines key request put
