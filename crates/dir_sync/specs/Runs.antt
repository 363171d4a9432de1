-- What the calls of a `SyncRun` make of it, and what they keep.
use Rattle.std.specs.Prelude.{◌≡◌, ◌<◌, ℕ, ◌-◌, ◌==◌, if◌then◌else◌, Bool, true, false, List, length}
use Rattle.device_log.specs.Calls.{Call}
use Rattle.device_log.specs.Along.{ButFor}
use Rattle.logged_disk.specs.Device.{DeviceState, CutLeaves, Elapses, seen}
use Rattle.stripe_header.specs.declared.area.Area.{Area}
use Rattle.stripe_header.specs.declared.area.Side.{Side}
use Rattle.stripe_header.specs.declared.states.CopyState.{CopyState}
use Rattle.stripe_header.specs.Layout.{gate_of, body_blocks}
use Rattle.stripe_header.specs.Spelling.{numbers_of, copy_bytes}
use Rattle.stripe_header.specs.Reading.{block_bytes}
use Rattle.dir_sync.specs.declared.run.SyncState.{SyncState}
use Rattle.dir_sync.specs.declared.run.SyncState.TheVariants as answers
use Rattle.dir_sync.specs.Moments.{IsShut, IsReplaced}
use Rattle.dir_sync.specs.Laws.{past_done, begun_pass, pass_behind, given_up, Halts}
use Rattle.dir_sync.specs.Passes.{StandsOn, SparesBeside, OpenedOn}
use Rattle.dir_sync.specs.RunState.{RunState}

-- how many blocks of the body are left
abbrev pub left_of : RunState → ℕ
left_of run = body_blocks run.area - run.progress.written

-- what a step answers where the run is here
abbrev pub answer_of_run : RunState → SyncState
answer_of_run run =
    if left_of run == 0 then answers.Done run.state.serial else answers.Running (left_of run)

-- so many blocks are left, where some are
abbrev pub IfRunning : SyncState → (ℕ → Type 0) → Type 0
IfRunning (answers.Running left) P = P left
IfRunning (answers.Done serial) P = Unit {0}

-- what the run has done stands on this device
abbrev pub RunStands : RunState → DeviceState → Type 0
RunStands run s = StandsOn run.area run.side run.body run.progress s

-- the directory that stands in a body
abbrev pub directory_in : List ℕ → List ℕ
directory_in body = block_bytes 512 (length body - 1024) body

-- the body of the copy that says this, with the directory that stands in these bytes
abbrev pub spelled_body : Area → CopyState → List ℕ → List ℕ
spelled_body a s body = copy_bytes 2 (numbers_of a.geometry) s (directory_in body)

-- the run is at the start of a pass over the copy that says this, with the directory of this body
pub record IsBegun (a : Area) (target : Side) (s : CopyState) (body : List ℕ) (run : RunState)
    : Type 0 where
  pub area : run.area ≡ a
  pub side : run.side ≡ target
  pub state : run.state ≡ s
  pub spelled : run.body ≡ spelled_body a s body
  pub progress : run.progress ≡ begun_pass

-- the body that came back spells the copy that says this, and a run can begin again with it
pub record ComesBack (a : Area) (s : CopyState) (body back : List ℕ) : Type 0 where
  pub spelled : back ≡ spelled_body a s body
  pub whole : length back ≡ length body
  pub directory : directory_in back ≡ directory_in body

-- a gate that is told to be shut is seen shut
abbrev pub IsToldRight : Side → Bool → DeviceState → Type 0
IsToldRight side shut s = shut ≡ true → IsShut side (seen s)

-- What the beginning of a run keeps, whatever it answers.
pub record BeginKeeps (a : Area) (side : Side) (shut : Bool) (before after : DeviceState) : Type 0 where
  -- meanwhile a cut leaves what it could, but for any bytes in the gate
  pub moments : Elapses (ButFor (gate_of side) 1 (CutLeaves before)) before after
  -- beside the copy what is seen stays, and what was not pending is not
  pub spares : SparesBeside a side before after
  -- what was told of the gate may be told again
  pub told : IsToldRight side shut before → IsToldRight side shut after

-- the same copy under the same serial
pub record IsSameSync (old new : RunState) : Type 0 where
  pub area : new.area ≡ old.area
  pub side : new.side ≡ old.side
  pub state : new.state ≡ old.state
  pub body : new.body ≡ old.body

-- What each call of a run keeps, whatever it answers. The first two need that what the run has done
-- stands on the device.
pub record RunKeeps (old new : RunState) (before after : DeviceState) : Type 0 where
  -- meanwhile a cut leaves the copy shut or whole, and all beside it as it could
  pub moments : RunStands old before
      → Elapses (IsReplaced old.area old.side old.body (CutLeaves before)) before after
  -- what the run has done then stands
  pub stands : RunStands old before → RunStands new after
  -- beside the copy what is seen stays, and what was not pending is not
  pub spares : SparesBeside old.area old.side before after
  -- where no block is left the gate is open, and nothing is pending
  pub opens : left_of new ≡ 0 → OpenedOn old.side after
  pub same : IsSameSync old new

-- the next blocks were written
pub record WentOn (old new : RunState) (n : ℕ) (past later : List Call) : Type 0 where
  pub calls : later ≡ past_done old.area old.side old.body old.progress n past
  pub progress : new.progress ≡ pass_behind old.area old.progress n

-- a call failed, with that count, and the run is at its start
pub record Halted (old new : RunState) (n count : ℕ) (past later : List Call) : Type 0 where
  pub calls : Halts old.area old.side old.body old.progress n count new.progress.shut past later
  pub progress : new.progress ≡ given_up new.progress.shut

-- the run can begin again under the same serial: the whole body is left
pub record CanBeginAgain (old new : RunState) : Type 0 where
  pub serial : new.state.serial ≡ old.state.serial
  pub begun : new.progress.begun ≡ false
  pub left : left_of new ≡ body_blocks old.area
  pub some : 0 < left_of new
