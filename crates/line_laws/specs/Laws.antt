-- All that a reader is given, line after line, is in order what the writer of its put took.
use Rattle.std.specs.Prelude.{ℕ, ◌≡◌, ◌≢◌, ◌-◌, ◌*◌, ◌<◌, ◌≤◌, ◌⊎◌, true, List, ◌++◌, length, drop, take, Some}
use Rattle.std.specs.List.{AllByRecursion}
use Rattle.tape_base.specs.declared.keys.Key.{Key}
use Rattle.alternate_vector.specs.Field.{Field}
use Rattle.alternate_vector.specs.Vary.{request_matches}
use Rattle.cache_model.specs.declared.record.Rec.{Rec}
use Rattle.cache_model.specs.declared.record.Rec.TheVariants as rec
use Rattle.cache_model.specs.State.{State, ReaderRow, after_all, reader_of}
use Rattle.cache_model.specs.Permit.{Permit}
use Rattle.cache_model.specs.Legal.{IsQuiet}
use Rattle.step_laws.specs.StepLaws.{IsOfGiven}
use Rattle.script_grammar.specs.declared.step.Step.{Step}
use Rattle.script_grammar.specs.declared.step.Step.TheVariants as step
use Rattle.script_grammar.specs.declared.answer.StepAnswer.TheVariants as answer
use Rattle.script_run.specs.Run.{Run, fresh, reader_by}
use Rattle.script_run.specs.Turn.{Turn}
use Rattle.script_run.specs.Behind.{after_line, after_step}
use Rattle.script_run.specs.Answers.{step_answer}
use Rattle.script_run.specs.Own.{ArePayloadsOwn}
use Rattle.script_run.specs.Takes.{IsRun, SessionTakes, StepTakes, run_after}
use Rattle.line_laws.specs.Along.{AreOfSession, IsOfScript, IsOpenAt, KeptAlong, LineOpens, OpenedAlong, OwnAlong, QuietWhere, ShowsAlong}
use Rattle.line_laws.specs.Given.{fragments_between, given_to}

-- along lines of a legal script that begin no other session what stands is what writers took, each put
-- that an actor writes is open, and no vector is pending before them; or a line of the script shows two
-- documents of one SHA-256, by bytes that the device gave in its turn
abbrev pub LegalIsOwn : Type 0
LegalIsOwn = (before lines : List (List ℕ)) (earlier turns : List Turn) → IsRun fresh before earlier → IsRun (run_after fresh before earlier) lines turns → AreOfSession lines
    → (OwnAlong (run_after fresh before earlier) lines turns × QuietWhere (run_after fresh before earlier).state)
    ⊎ ShowsAlong fresh (before ++ lines) (earlier ++ turns)

-- and whatever a line shows, what stands is what writers took but for the documents of fragments, each put that an
-- actor writes is open, and no vector is pending before them
abbrev pub LegalIsKept : Type 0
LegalIsKept = (before lines : List (List ℕ)) (earlier turns : List Turn) → IsRun fresh before earlier → IsRun (run_after fresh before earlier) lines turns → AreOfSession lines
    → KeptAlong (run_after fresh before earlier) lines turns × QuietWhere (run_after fresh before earlier).state

-- the one follows from the other, along any lines
abbrev pub OwnIsKeptAlong : Type 0
OwnIsKeptAlong = (run : Run) (lines : List (List ℕ)) (turns : List Turn) → OwnAlong run lines turns → KeptAlong run lines turns

-- a reader that a line opens is at its first fragment
abbrev pub OpensFirst : Type 0
OpensFirst = (run : Run) (s : State) (turn : Turn) (actor : List ℕ) (key : Key) (request : List Field) (r : ReaderRow) → ArePayloadsOwn s run.streams
    → SessionTakes run s turn (step.OpenRead actor key request) → reader_of (after_all s turn.added) s.next_reader ≡ Some r
    → IsOpenAt (after_all s turn.added) s.next_reader r × (r.next ≡ 1)

-- a reader that went on from r to u was given those fragments of a body that lie between
pub record HasGiven (fragment : ℕ) (body given : List ℕ) (r u : ReaderRow) : Type 0 where
  pub put : u.put ≡ r.put
  pub on : r.next ≤ u.next
  pub is : given ≡ fragments_between fragment body r.next u.next

-- what lines give to a reader that stays open are, in order, the fragments that follow of what the writer
-- of its put took
abbrev pub FragmentsGiven : Type 0
FragmentsGiven = (run : Run) (lines : List (List ℕ)) (turns : List Turn) (s t : State) (reader : ℕ) (r u : ReaderRow)
    → IsRun run lines turns → KeptAlong run lines turns → run.state ≡ Some s → IsQuiet s → IsOpenAt s reader r
    → (run_after run lines turns).state ≡ Some t → reader_of t reader ≡ Some u
    → HasGiven s.geometry.fragment ((run_after run lines turns).streams r.put).bytes (given_to reader run lines turns) r u

-- all of a body was given from a place on, and its size was told
pub record HasGivenAll (from : ℕ) (body given : List ℕ) (size : ℕ) : Type 0 where
  pub is : given ≡ drop from body
  pub told : size ≡ length body

-- where the reader is then answered the end, they are all that follow
abbrev pub EndIsAll : Type 0
EndIsAll = (run : Run) (lines : List (List ℕ)) (turns : List Turn) (s : State) (reader : ℕ) (r : ReaderRow) (actor : List ℕ) (turn : Turn) (size : ℕ)
    → IsRun run lines turns → KeptAlong run lines turns → run.state ≡ Some s → IsQuiet s → IsOpenAt s reader r
    → reader_by (run_after run lines turns) actor ≡ Some reader → StepTakes (run_after run lines turns) turn (step.Next actor)
    → step_answer (run_after run lines turns) turn (step.Next actor) ≡ answer.End size
    → HasGivenAll ((r.next - 1) * s.geometry.fragment) ((run_after run lines turns).streams r.put).bytes (given_to reader run lines turns) size

-- ---- from the line that opens a reader

-- in each legal script all that lines give to a reader that a line opened are the first fragments of what
-- the writer of its put took
abbrev pub FirstGiven : Type 0
FirstGiven = (run : Run) (s t : State) (turn : Turn) (bytes : List ℕ) (lines : List (List ℕ)) (turns : List Turn) (r u : ReaderRow) → IsOfScript run → LineOpens run s turn bytes r
    → IsRun (after_line run turn bytes) lines turns → AreOfSession lines
    → (run_after (after_line run turn bytes) lines turns).state ≡ Some t → reader_of t s.next_reader ≡ Some u
    → given_to s.next_reader (after_line run turn bytes) lines turns
    ≡ take ((u.next - 1) * t.geometry.fragment) ((run_after (after_line run turn bytes) lines turns).streams r.put).bytes

-- and where the reader is then answered the end, they are all of it
abbrev pub AllGiven : Type 0
AllGiven = (run : Run) (s : State) (turn : Turn) (bytes : List ℕ) (lines : List (List ℕ)) (turns : List Turn) (r : ReaderRow) (actor : List ℕ) (last : Turn) (size : ℕ) → IsOfScript run
    → LineOpens run s turn bytes r → IsRun (after_line run turn bytes) lines turns → AreOfSession lines
    → reader_by (run_after (after_line run turn bytes) lines turns) actor ≡ Some s.next_reader
    → StepTakes (run_after (after_line run turn bytes) lines turns) last (step.Next actor)
    → step_answer (run_after (after_line run turn bytes) lines turns) last (step.Next actor) ≡ answer.End size
    → HasGivenAll 0 ((run_after (after_line run turn bytes) lines turns).streams r.put).bytes (given_to s.next_reader (after_line run turn bytes) lines turns) size

-- ---- what is hit

-- the step is answered that it hit this put, of so many bytes: all of it is read, or a reader opens
pub data AnswersHit (run : Run) (turn : Turn) (key : Key) (request : List Field) (put size : ℕ) : Step → Type 0 where
  got : (bytes : List ℕ) → step_answer run turn (step.Get key request) ≡ answer.Got put size bytes → AnswersHit run turn key request put size (step.Get key request)
  opens : (actor : List ℕ) → step_answer run turn (step.OpenRead actor key request) ≡ answer.Hit put size
      → AnswersHit run turn key request put size (step.OpenRead actor key request)

-- an earlier line of the same session opened the put under this key, with lines that fit the request (RFC
-- 9111, section 4.1)
pub record WasPutFor (lines : List (List ℕ)) (turns : List Turn) (key : Key) (request : List Field) (put : ℕ) : Type 0 where
  pub asked : List Field
  pub response : List Field
  pub pin : ℕ
  pub opened : OpenedAlong fresh lines turns put key asked response pin
  pub fits : request_matches request asked response ≡ true

-- behind each legal script what a step is answered that it hit was put under the asked key, by a put whose
-- lines fit the request
abbrev pub HitIsAsked : Type 0
HitIsAsked = (lines : List (List ℕ)) (turns : List Turn) (turn : Turn) (asks : Step) (key : Key) (request : List Field) (put size : ℕ) → IsRun fresh lines turns
    → StepTakes (run_after fresh lines turns) turn asks → AnswersHit (run_after fresh lines turns) turn key request put size asks → WasPutFor lines turns key request put

-- the step is answered that its reader follows the writer of this put
pub data AnswersFollow (run : Run) (turn : Turn) (key : Key) (request : List Field) (put : ℕ) : Step → Type 0 where
  gets : step_answer run turn (step.Get key request) ≡ answer.Follow put → AnswersFollow run turn key request put (step.Get key request)
  opens : (actor : List ℕ) → step_answer run turn (step.OpenRead actor key request) ≡ answer.Follow put → AnswersFollow run turn key request put (step.OpenRead actor key request)

-- and so was what a step is answered that its reader follows
abbrev pub FollowIsAsked : Type 0
FollowIsAsked = (lines : List (List ℕ)) (turns : List Turn) (turn : Turn) (asks : Step) (key : Key) (request : List Field) (put : ℕ) → IsRun fresh lines turns
    → StepTakes (run_after fresh lines turns) turn asks → AnswersFollow (run_after fresh lines turns) turn key request put asks → WasPutFor lines turns key request put

-- the reader that opens with a hit reads that put
abbrev pub HitOpens : Type 0
HitOpens = (run : Run) (s : State) (turn : Turn) (actor : List ℕ) (key : Key) (request : List Field) (put size : ℕ) (r : ReaderRow) → run.state ≡ Some s
    → StepTakes run turn (step.OpenRead actor key request) → step_answer run turn (step.OpenRead actor key request) ≡ answer.Hit put size
    → reader_of (after_all s turn.added) s.next_reader ≡ Some r → r.put ≡ put

-- all that a whole read gives is what the put's writer took
abbrev pub GotIsPut : Type 0
GotIsPut = (run : Run) (turn : Turn) (key : Key) (request : List Field) (put size : ℕ) (bytes : List ℕ) → StepTakes run turn (step.Get key request)
    → step_answer run turn (step.Get key request) ≡ answer.Got put size bytes → bytes ≡ (run.streams put).bytes

-- ---- what is told of lengths

-- behind each legal script the length that is told of what a step hit is that of all that the put's writer
-- took; what is got are those bytes (`GotIsPut`), so that it is their number
abbrev pub LengthIsTold : Type 0
LengthIsTold = (lines : List (List ℕ)) (turns : List Turn) (turn : Turn) (asks : Step) (key : Key) (request : List Field) (put size : ℕ) → IsRun fresh lines turns
    → StepTakes (run_after fresh lines turns) turn asks → AnswersHit (run_after fresh lines turns) turn key request put size asks
    → size ≡ length ((run_after fresh lines turns).streams put).bytes

-- the step is answered that this put is complete, with so many bytes in so many fragments
pub data AnswersPutComplete (run : Run) (turn : Turn) (put size fragments : ℕ) : Step → Type 0 where
  puts : (key : Key) (body : List ℕ) (request response : List Field) → step_answer run turn (step.Put key body request response) ≡ answer.Put put size fragments
      → AnswersPutComplete run turn put size fragments (step.Put key body request response)
  closes : (actor : List ℕ) → step_answer run turn (step.Close actor) ≡ answer.Put put size fragments → AnswersPutComplete run turn put size fragments (step.Close actor)

-- so many bytes are all that the put's writer took, and so many fragments are the fewest that have room for
-- them
pub record IsMeasured (run : Run) (put size fragments : ℕ) : Type 0 where
  pub s : State
  pub state : run.state ≡ Some s
  pub told : size ≡ length (run.streams put).bytes
  pub enough : size ≤ fragments * s.geometry.fragment
  pub needed : 0 < fragments → (fragments - 1) * s.geometry.fragment < size

-- in each legal script the put of a `put` or a `close` that is answered so is measured so behind it; of a `put`
-- the writer took the whole body
abbrev pub PutIsMeasured : Type 0
PutIsMeasured = (lines : List (List ℕ)) (turns : List Turn) (turn : Turn) (asks : Step) (put size fragments : ℕ) → IsRun fresh lines turns
    → StepTakes (run_after fresh lines turns) turn asks → AnswersPutComplete (run_after fresh lines turns) turn put size fragments asks
    → IsMeasured (after_step (run_after fresh lines turns) turn asks) put size fragments

-- ---- what is told as damaged

-- a piece that this record tells as damaged is one for which the device gave, in the step, a document of another digest than
-- the one that was kept
abbrev pub IsOfOtherBytes : Permit → State → Rec → Type 0
IsOfOtherBytes p s (rec.Damaged piece place kept found) = IsOfGiven p s place found × (kept ≢ found)
IsOfOtherBytes p s _ = Unit {0}

-- behind each legal script so it is with all that a line tells as damaged, whatever a copy shows: of a session no fragment is
-- told so because its payload is not the one that is listed
abbrev pub DamageIsGiven : Type 0
DamageIsGiven = (lines : List (List ℕ)) (turns : List Turn) (s : State) (turn : Turn) (asks : Step) → IsRun fresh lines turns
    → (run_after fresh lines turns).state ≡ Some s → SessionTakes (run_after fresh lines turns) s turn asks
    → AllByRecursion (IsOfOtherBytes turn.device s) turn.added
