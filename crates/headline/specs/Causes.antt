-- Causes, in lines: the calls of devices on which faults and damage rest, and the records by which a digest was kept.
use Rattle.std.specs.Prelude.{◌≡◌, ◌≢◌, ℕ, if◌then◌else◌, List, [], ◌∷◌, ◌++◌, ◌⊎◌, Option, Some}
use Rattle.device_log.specs.Calls.{Asked, Call, RefusedCall}
use Rattle.tape_base.specs.declared.digests.Digest.{Digest}
use Rattle.tape_base.specs.declared.pieces.PieceId.{PieceId}
use Rattle.logged_disk.specs.Device.{DeviceState as Device}
use Rattle.cache_model.specs.Permit.{IsAmong}
use Rattle.cache_model.specs.State.{State}
use Rattle.cache_model.specs.declared.cause.Cause.TheVariants as cause
use Rattle.cache_model.specs.declared.record.Rec.{Rec}
use Rattle.cache_model.specs.declared.record.Rec.TheVariants as rec
use Rattle.step_laws.specs.StepLaws.{IsOfGiven}
use Rattle.script_grammar.specs.declared.step.Step.{Step}
use Rattle.script_grammar.specs.declared.answer.StepAnswer.{StepAnswer}
use Rattle.script_grammar.specs.declared.answer.StepAnswer.TheVariants as answer
use Rattle.script_run.specs.Goes.{begins_session}
use Rattle.script_run.specs.Run.{Run, fresh}
use Rattle.script_run.specs.Turn.{Turn}
use Rattle.script_run.specs.Takes.{run_after}
use Rattle.script_laws.specs.Causes.{cause_answered}
use Rattle.line_laws.specs.Along.{AreOfSession}
use Rattle.headline.specs.Account.{Account, HistoryTells, IsDeviceBehind, IsDeviceOf, RunLogs}
use Rattle.headline.specs.Reads.{DidBefore}
use Rattle.headline.specs.Standing.{HasRecorded}

-- the log of a device has these calls in one stretch, behind those older ones
pub record LogHasCalls (made older : List Call) (device : Device) : Type 0 where
  pub newer : List Call
  pub is : device.past ≡ newer ++ (made ++ older)

-- the calls of a step's device before it: an accepted format attaches a new one
abbrev pub calls_before : Run → Step → List Call
calls_before run asks = if begins_session asks then [] else run.calls

-- a call of the line behind these was refused, with this count behind it; the log of the device has the calls of that
-- line, behind those of the earlier lines of its session
pub record WasRefusedInLine (turns : List Turn) (lines : List (List ℕ)) (asks : Step) (device : Device) (count : ℕ) : Type 0 where
  pub did : DidBefore turns lines
  pub made : LogHasCalls did.turn.device.events (calls_before (run_after fresh lines did.earlier) asks) device
  pub asked : Asked
  pub refused : IsAmong (RefusedCall asked count) did.turn.device.events

-- where a line answers a device fault, its device refused a call in that line, with that count behind it
abbrev pub FaultsWereRefused : Type 0
FaultsWereRefused = (l : RunLogs) (a : Account l) (lines : List (List ℕ)) (asks : Step) (count : ℕ) (took : Option ℕ) (device : Device)
    → HistoryTells a lines asks (answer.DeviceFault count took) → IsDeviceOf l lines asks device → WasRefusedInLine a.turns lines asks device count

-- in the line behind these, where none were since, or in an earlier one of its session, the device gave a document of this
-- digest from the block of the place on; the log of the device has the calls of that line
pub record WasGiven (turns : List Turn) (lines : List (List ℕ)) (device : Device) (place : ℕ) (found : Digest) : Type 0 where
  pub earlier : List (List ℕ)
  pub since : List (List ℕ)
  pub are : lines ≡ earlier ++ since
  pub same_session : AreOfSession since
  pub did : DidBefore turns earlier
  pub made : LogHasCalls did.turn.device.events (run_after fresh earlier did.earlier).calls device
  pub s : State
  pub session : (run_after fresh earlier did.earlier).state ≡ Some s
  pub given : IsOfGiven did.turn.device s place found

-- the piece was placed there, or copied, as a document of this digest
abbrev pub BringsAs : PieceId → ℕ → Digest → Rec → Type 0
BringsAs id there kept (rec.Placed piece place blocks digest pin) = (piece ≡ id) × (place ≡ there) × (digest ≡ kept)
BringsAs id there kept (rec.Moved piece from place digest) = (piece ≡ id) × (place ≡ there) × (digest ≡ kept)
BringsAs id there kept _ = ⊥

-- one of these records is such
abbrev pub SomeAmong : (Rec → Type 0) → List Rec → Type 0
SomeAmong Says recs = (told : Rec) × IsAmong told recs × Says told

-- the line behind these recorded that a piece at the place is damaged; it was placed there, or copied, with the digest that
-- was kept, by a record of that line before this one, or of an earlier line of the session
pub record WasKept (lines : List (List ℕ)) (earlier : List Turn) (turn : Turn) (place : ℕ) (kept found : Digest) : Type 0 where
  pub piece : PieceId
  pub front : List Rec
  pub back : List Rec
  pub added_are : turn.added ≡ front ++ rec.Damaged piece place kept found ∷ back
  pub brought : SomeAmong (BringsAs piece place kept) front ⊎ HasRecorded (BringsAs piece place kept) lines earlier

-- where a line answers damage, its device gave a document of another digest than the one that was kept: with this one the
-- piece had been placed there, or copied
abbrev pub DamageWasGiven : Type 0
DamageWasGiven = (l : RunLogs) (a : Account l) (lines : List (List ℕ)) (asks : Step) (said : StepAnswer)
    (place : ℕ) (kept found : Digest) (device : Device)
    → HistoryTells a lines asks said → cause_answered said ≡ Some (cause.Damaged place kept found) → IsDeviceBehind l lines device
    → (given : WasGiven a.turns lines device place found) × (kept ≢ found)
    × WasKept given.earlier given.did.earlier given.did.turn place kept found
