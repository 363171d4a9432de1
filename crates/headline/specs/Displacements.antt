-- Displacements, in lines: which piece it was of that a break tells, or a refusal.
use Rattle.std.specs.Prelude.{◌≡◌, ◌<◌, ◌≤◌, ℕ, List, length, Option, Some}
use Rattle.tape_base.specs.declared.keys.Key.{Key}
use Rattle.tape_base.specs.declared.pieces.PieceId.{PieceId}
use Rattle.alternate_vector.specs.Field.{Field}
use Rattle.cache_model.specs.declared.cause.Cause.TheVariants as cause
use Rattle.cache_model.specs.declared.record.Rec.{Rec}
use Rattle.cache_model.specs.declared.record.Rec.TheVariants as rec
use Rattle.cache_model.specs.State.{State, PutRow, after_all, fragment_piece, put_of}
use Rattle.cache_model.specs.Verdict.{next_piece}
use Rattle.script_grammar.specs.declared.step.Step.{Step}
use Rattle.script_grammar.specs.declared.step.Step.TheVariants as step
use Rattle.script_grammar.specs.declared.answer.Refused.TheVariants as refused
use Rattle.script_grammar.specs.declared.answer.StepAnswer.TheVariants as answer
use Rattle.script_run.specs.Run.{Run, fresh, put_written_by}
use Rattle.script_run.specs.Turn.{Turn}
use Rattle.script_run.specs.Takes.{run_after}
use Rattle.headline.specs.Account.{Account, HistoryTells, RunLogs}
use Rattle.headline.specs.Misses.{WasRecorded}
use Rattle.headline.specs.Reads.{AreLiveBefore, DidBefore, IsChosenPut, ReadsOnBehind}
use Rattle.headline.specs.Standing.{HasRecordedLast}

-- the record tells that the piece was lost
abbrev pub LosesPiece : PieceId → Rec → Type 0
LosesPiece id (rec.Displaced piece segment live) = piece ≡ id
LosesPiece id (rec.Damaged piece place kept found) = piece ≡ id
LosesPiece id _ = ⊥

-- an earlier line of the session recorded that the piece was displaced so, and no record since is of a loss of it
abbrev pub IsDisplaced : List (List ℕ) → List Turn → PieceId → (segment live : ℕ) → Type 0
IsDisplaced lines turns id segment live = HasRecordedLast (λ told. told ≡ rec.Displaced id segment live) (LosesPiece id) lines turns

-- the piece that the reader is to be given next was displaced so
pub record BrokeDisplaced (turns : List Turn) (lines : List (List ℕ)) (name : List ℕ) (segment live : ℕ) : Type 0 where
  pub at : ReadsOnBehind turns lines name
  pub told : IsDisplaced lines at.did.earlier (next_piece at.reader) segment live

-- so it is where a line that reads on is answered displaced
abbrev pub BreakWasDisplaced : Type 0
BreakWasDisplaced = (l : RunLogs) (a : Account l) (lines : List (List ℕ)) (name : List ℕ) (segment live : ℕ)
    → HistoryTells a lines (step.Next name) (answer.Broken (cause.Displaced segment live)) → BrokeDisplaced a.turns lines name segment live

-- in the state before the line a fragment was displaced so of those that the alternate lists which is hit, and all before it
-- may be read
pub record GetDisplaced (turns : List Turn) (lines : List (List ℕ)) (key : Key) (request : List Field) (segment live : ℕ) : Type 0 where
  pub did : DidBefore turns lines
  pub s : State
  pub state : (run_after fresh lines did.earlier).state ≡ Some s
  pub piece : PieceId
  pub key_is : piece.first ≡ key
  pub chosen : IsChosenPut (run_after fresh lines did.earlier) key request piece.put
  pub listed : (0 < piece.index) × (piece.index ≤ length chosen.alternate.table)
  pub before : AreLiveBefore s key piece.put piece.index
  pub told : IsDisplaced lines did.earlier piece segment live

-- so it is where a whole read is answered displaced
abbrev pub GetWasDisplaced : Type 0
GetWasDisplaced = (l : RunLogs) (a : Account l) (lines : List (List ℕ)) (key : Key) (request : List Field) (segment live : ℕ)
    → HistoryTells a lines (step.Get key request) (answer.Broken (cause.Displaced segment live)) → GetDisplaced a.turns lines key request segment live

-- ---- a fragment that is lost to its writer

-- the put that a line closes: the next one where it puts a whole body, else that of the actor's writer
pub data AsksToClose (run : Run) (s : State) (put : ℕ) : Step → Type 0 where
  puts : (key : Key) (body : List ℕ) (request response : List Field) → s.next_put ≡ put → AsksToClose run s put (step.Put key body request response)
  closes : (name : List ℕ) → put_written_by run name ≡ Some put → AsksToClose run s put (step.Close name)

-- the line closes this put, of which the records have this row behind it
pub record ClosesHere (turns : List Turn) (lines : List (List ℕ)) (asks : Step) : Type 0 where
  pub did : DidBefore turns lines
  pub s : State
  pub state : (run_after fresh lines did.earlier).state ≡ Some s
  pub put : ℕ
  pub closes : AsksToClose (run_after fresh lines did.earlier) s put asks
  pub w : PutRow
  pub found : put_of (after_all s did.turn.added) put ≡ Some w

-- its fragment of this index was displaced so
pub record LostDisplaced (turns : List Turn) (lines : List (List ℕ)) (asks : Step) (index segment live : ℕ) : Type 0 where
  pub at : ClosesHere turns lines asks
  pub told : WasRecorded turns lines (rec.Displaced (fragment_piece at.w.key at.put index) segment live)

-- so it is where a line is refused for a fragment that was displaced; it is one that closes a put
abbrev pub LostWasDisplaced : Type 0
LostWasDisplaced = (l : RunLogs) (a : Account l) (lines : List (List ℕ)) (asks : Step) (index segment live : ℕ) (took : Option ℕ)
    → HistoryTells a lines asks (answer.Refused (refused.Lost index (cause.Displaced segment live)) took) → LostDisplaced a.turns lines asks index segment live
