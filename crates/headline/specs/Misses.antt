-- Causes of misses, in lines: never-put and displaced.
use Rattle.std.specs.Prelude.{◌≡◌, ℕ, List, ◌∷◌, ◌++◌, Some}
use Rattle.tape_base.specs.declared.keys.Key.{Key}
use Rattle.tape_base.specs.declared.pieces.PieceId.{PieceId}
use Rattle.alternate_vector.specs.Field.{Field}
use Rattle.cache_model.specs.declared.cause.Cause.{Cause}
use Rattle.cache_model.specs.declared.cause.Cause.TheVariants as cause
use Rattle.cache_model.specs.declared.record.Rec.{Rec}
use Rattle.cache_model.specs.declared.record.Rec.TheVariants as rec
use Rattle.cache_model.specs.State.{State, Complete, last_vector, vector_piece}
use Rattle.cache_model.specs.Permit.{IsAmong}
use Rattle.script_grammar.specs.declared.step.Step.{Step}
use Rattle.script_grammar.specs.declared.step.Step.TheVariants as step
use Rattle.script_grammar.specs.declared.answer.StepAnswer.{StepAnswer}
use Rattle.script_grammar.specs.declared.answer.StepAnswer.TheVariants as answer
use Rattle.script_run.specs.Run.{fresh}
use Rattle.script_run.specs.Turn.{Turn}
use Rattle.script_run.specs.Takes.{IsRun, run_after}
use Rattle.script_laws.specs.Causes.{cause_answered}
use Rattle.line_laws.specs.Along.{AreOfSession}
use Rattle.headline.specs.Account.{Account, HistoryTells, RunLogs}
use Rattle.headline.specs.Reads.{DidBefore}

-- there is nothing under the key, for this cause: so a `get`, a line that opens a reader, and a removal are answered
pub data MissesKey (key : Key) (why : Cause) : Step → StepAnswer → Type 0 where
  gets : (request : List Field) → MissesKey key why (step.Get key request) (answer.Miss why)
  opens : (name : List ℕ) (request : List Field) → MissesKey key why (step.OpenRead name key request) (answer.Miss why)
  removes : MissesKey key why (step.Remove key) (answer.Absent why)

-- ---- never-put

-- the record tells that a put of the key was completed, or given up, or removed
abbrev pub EndsPut : Key → Rec → Type 0
EndsPut key (rec.Committed put k bytes alternates) = k ≡ key
EndsPut key (rec.Aborted put k) = k ≡ key
EndsPut key (rec.Removed put k) = k ≡ key
EndsPut key _ = ⊥

-- one of these lines recorded that, and no line since began another session
pub record HasEnded (key : Key) (lines : List (List ℕ)) (turns : List Turn) : Type 0 where
  pub before : List (List ℕ)
  pub bytes : List ℕ
  pub later : List (List ℕ)
  pub lines_are : lines ≡ before ++ bytes ∷ later
  pub earlier : List Turn
  pub turn : Turn
  pub rest : List Turn
  pub turns_are : turns ≡ earlier ++ turn ∷ rest
  pub legal : IsRun fresh before earlier
  pub told : Rec
  pub among : IsAmong told turn.added
  pub ends : EndsPut key told
  pub same_session : AreOfSession later

-- none of these lines did
pub record HasEndedNone (turns : List Turn) (lines : List (List ℕ)) (key : Key) : Type 0 where
  pub did : DidBefore turns lines
  pub none : HasEnded key lines did.earlier → ⊥

-- where a line is answered never-put, no earlier line of its session completed, gave up or removed a put of the key
abbrev pub NeverPutWasNone : Type 0
NeverPutWasNone = (l : RunLogs) (a : Account l) (lines : List (List ℕ)) (asks : Step) (said : StepAnswer) (key : Key)
    → MissesKey key cause.NeverPut asks said → HistoryTells a lines asks said → HasEndedNone a.turns lines key

-- ---- displaced

-- in the line behind these, where none were since, or in an earlier one of its session, this was recorded
pub record WasRecorded (turns : List Turn) (lines : List (List ℕ)) (told : Rec) : Type 0 where
  pub earlier : List (List ℕ)
  pub since : List (List ℕ)
  pub are : lines ≡ earlier ++ since
  pub same_session : AreOfSession since
  pub did : DidBefore turns earlier
  pub recorded : IsAmong told did.turn.added

-- where a line tells a displacement as a cause, it was recorded: of which piece, with its segment, and how many pieces were
-- live there
abbrev pub DisplacedWasTold : Type 0
DisplacedWasTold = (l : RunLogs) (a : Account l) (lines : List (List ℕ)) (asks : Step) (said : StepAnswer) (segment live : ℕ)
    → HistoryTells a lines asks said → cause_answered said ≡ Some (cause.Displaced segment live)
    → (piece : PieceId) × WasRecorded a.turns lines (rec.Displaced piece segment live)

-- the vector of the key's last commit, which no line removed since, was displaced
pub record VectorWasDisplaced (turns : List Turn) (lines : List (List ℕ)) (key : Key) (segment live : ℕ) : Type 0 where
  pub did : DidBefore turns lines
  pub s : State
  pub state : (run_after fresh lines did.earlier).state ≡ Some s
  pub put : ℕ
  pub last : last_vector s key ≡ Some (Complete put)
  pub told : WasRecorded turns lines (rec.Displaced (vector_piece key put) segment live)

-- and where it is why there is nothing under a key, the piece was the vector of the key's last commit
abbrev pub VectorWasLost : Type 0
VectorWasLost = (l : RunLogs) (a : Account l) (lines : List (List ℕ)) (asks : Step) (said : StepAnswer) (key : Key) (segment live : ℕ)
    → MissesKey key (cause.Displaced segment live) asks said → HistoryTells a lines asks said
    → VectorWasDisplaced a.turns lines key segment live
