-- Lines of one session, along which what stands is what writers took.
use Rattle.std.specs.Prelude.{ℕ, ◌≡◌, ◌-◌, ◌<◌, ◌≤◌, Bool, false, is_none, List, [], ◌∷◌, ◌++◌, length, Option, Some, None}
use Rattle.tape_base.specs.declared.actors.Actor.{Actor}
use Rattle.tape_base.specs.declared.keys.Key.{Key}
use Rattle.tape_base.specs.Limits.{first_refusal}
use Rattle.alternate_vector.specs.Field.{Field}
use Rattle.cache_model.specs.declared.record.Rec.TheVariants as rec
use Rattle.cache_model.specs.State.{State, ReaderRow, after_all, reader_of}
use Rattle.cache_model.specs.Verdict.{table_of}
use Rattle.cache_model.specs.Permit.{IsAmong}
use Rattle.cache_model.specs.Legal.{IsQuiet}
use Rattle.script_grammar.specs.declared.step.Step.{Step}
use Rattle.script_grammar.specs.declared.step.Step.TheVariants as step
use Rattle.script_grammar.specs.declared.line.LineAnswer.{LineAnswer}
use Rattle.script_grammar.specs.declared.line.LineAnswer.TheVariants as line
use Rattle.script_grammar.specs.Grammar.{reading_of}
use Rattle.script_run.specs.Run.{Run, fresh}
use Rattle.script_run.specs.Turn.{Turn}
use Rattle.script_run.specs.Behind.{after_line}
use Rattle.script_run.specs.Own.{AreOwn, ArePayloadsOwn, AreWriting}
use Rattle.script_run.specs.Takes.{IsRun, LineShows, LineTakes, run_after}
use Rattle.script_run.specs.Goes.{begins_session}

-- a line that is read so begins none
abbrev pub KeepsSession : LineAnswer → Type 0
KeepsSession (line.Step s) = begins_session s ≡ false
KeepsSession line.Nothing = Unit {0}
KeepsSession (line.Bad fault) = Unit {0}

-- lines that begin no other session
abbrev pub AreOfSession : List (List ℕ) → Type 0
AreOfSession [] = Unit {0}
AreOfSession (bytes ∷ lines) = KeepsSession (reading_of bytes) × AreOfSession lines

-- what stands is what writers took, and each put that an actor writes is open
pub record StandsOwn (run : Run) (s : State) : Type 0 where
  pub own : AreOwn s run.streams
  pub writing : AreWriting run s

-- the same, but for the documents of fragments
pub record StandsKept (run : Run) (s : State) : Type 0 where
  pub kept : ArePayloadsOwn s run.streams
  pub writing : AreWriting run s

-- so it stands, where there is a session
abbrev pub StandsWhere : (Run → State → Type 0) → Run → Option State → Type 0
StandsWhere stands run None = Unit {0}
StandsWhere stands run (Some s) = stands run s

-- no line begins another session, and so it stands before each line and behind the last one
abbrev pub StandsAlong : (Run → State → Type 0) → Run → List (List ℕ) → List Turn → Type 0
StandsAlong stands run [] turns = StandsWhere stands run run.state
StandsAlong stands run (bytes ∷ lines) [] = StandsWhere stands run run.state
StandsAlong stands run (bytes ∷ lines) (turn ∷ turns) =
    KeepsSession (reading_of bytes) × StandsWhere stands run run.state × StandsAlong stands (after_line run turn bytes) lines turns

-- what stands is what writers took, before each line and behind the last one
abbrev pub OwnAlong : Run → List (List ℕ) → List Turn → Type 0
OwnAlong = StandsAlong StandsOwn

-- the same, but for the documents of fragments
abbrev pub KeptAlong : Run → List (List ℕ) → List Turn → Type 0
KeptAlong = StandsAlong StandsKept

-- no vector is pending, where there is a session
abbrev pub QuietWhere : Option State → Type 0
QuietWhere None = Unit {0}
QuietWhere (Some s) = IsQuiet s

-- a reader is open, its put has begun, and it was given no more fragments than are cut
pub record IsOpenAt (s : State) (reader : ℕ) (r : ReaderRow) : Type 0 where
  pub found : reader_of s reader ≡ Some r
  pub begun : r.put < s.next_put
  pub first : 0 < r.next
  pub within : r.next - 1 ≤ length (table_of s r)

-- the run is that behind a legal script
pub record IsOfScript (run : Run) : Type 0 where
  pub lines : List (List ℕ)
  pub turns : List Turn
  pub legal : IsRun fresh lines turns
  pub is : run ≡ run_after fresh lines turns

-- the line opens the reader of the next number
pub record LineOpens (run : Run) (s : State) (turn : Turn) (bytes : List ℕ) (r : ReaderRow) : Type 0 where
  pub actor : List ℕ
  pub key : Key
  pub request : List Field
  pub state : run.state ≡ Some s
  pub reading : reading_of bytes ≡ line.Step (step.OpenRead actor key request)
  pub takes : LineTakes run turn bytes
  pub found : reader_of (after_all s turn.added) s.next_reader ≡ Some r

-- a line of these opened the put under this key, with these lines and this pin, and no line behind it begins
-- another session
pub record OpenedAlong (run : Run) (lines : List (List ℕ)) (turns : List Turn) (put : ℕ) (key : Key) (request response : List Field) (pin : ℕ) : Type 0 where
  pub before : List (List ℕ)
  pub earlier : List Turn
  pub bytes : List ℕ
  pub turn : Turn
  pub later : List (List ℕ)
  pub rest : List Turn
  pub lines_are : lines ≡ before ++ bytes ∷ later
  pub turns_are : turns ≡ earlier ++ turn ∷ rest
  pub legal : IsRun run before earlier
  pub who : Actor
  pub opened : IsAmong (rec.WriteOpened who put key request response pin) turn.added
  pub same_session : AreOfSession later

-- a line of these shows two documents of one SHA-256, in the run that the lines before it left, by bytes
-- that the device gave in the turn of that line
pub record ShowsAlong (run : Run) (lines : List (List ℕ)) (turns : List Turn) : Type 0 where
  pub before : List (List ℕ)
  pub earlier : List Turn
  pub bytes : List ℕ
  pub turn : Turn
  pub later : List (List ℕ)
  pub rest : List Turn
  pub lines_are : lines ≡ before ++ bytes ∷ later
  pub turns_are : turns ≡ earlier ++ turn ∷ rest
  pub legal : IsRun run before earlier
  pub shows : LineShows (run_after run before earlier) turn bytes
