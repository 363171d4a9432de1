-- Laws of runs: what the calls of others leave of them, and that their bodies are accepted.
use Rattle.std.specs.Prelude.{◌≡◌, ◌⊎◌, ◌≤◌, ◌<◌, ℕ, ◌+◌, ◌/◌, IsTrue, List, ◌++◌, length, None}
use Rattle.std.specs.List.{slice_index, AllByRecursion}
use Rattle.device_log.specs.Calls.{ToRead, ToWrite, ToSync, Call, Read, Wrote, Synced, RefusedCall, Told, PowerCut, Flipped}
use Rattle.logged_disk.specs.Device.{DeviceState}
use Rattle.stripe_header.specs.declared.area.Area.{Area}
use Rattle.stripe_header.specs.declared.area.Side.{Side}
use Rattle.stripe_header.specs.declared.states.CopyState.{CopyState}
use Rattle.stripe_header.specs.Layout.{gate_of, body_of, body_blocks}
use Rattle.stripe_header.specs.Spelling.{may_say}
use Rattle.stripe_header.specs.Reading.{copy_fault, copy_told}
use Rattle.dir_sync.specs.RunState.{RunState}
use Rattle.dir_sync.specs.Runs.{RunStands, IsBegun}

-- the block is the gate of the copy, or one of its body
abbrev pub IsOfCopy : Area → Side → ℕ → Type 0
IsOfCopy a side j =
    (j ≡ gate_of side) ⊎ ((body_of a side ≤ j) × (j < body_of a side + body_blocks a))

-- none of so many blocks from one on is the copy's
abbrev pub IsOffCopy : Area → Side → ℕ → ℕ → Type 0
IsOffCopy a side at n = (j : ℕ) → at ≤ j → j < at + n → IsOfCopy a side j → ⊥

-- the call changes none of the copy's blocks, nor what a cut may leave of them; it may have failed
abbrev pub StaysOff : Area → Side → Call → Type 0
StaysOff a side (Read at bytes) = Unit {0}
StaysOff a side (Wrote at bytes) = IsOffCopy a side at (length bytes / 512)
StaysOff a side Synced = Unit {0}
StaysOff a side (RefusedCall (ToRead at n) count) = Unit {0}
StaysOff a side (RefusedCall (ToWrite at n left) count) = IsOffCopy a side at n
StaysOff a side (RefusedCall ToSync count) = Unit {0}
StaysOff a side (Told act) = Unit {0}
StaysOff a side (PowerCut choice left) = ⊥
StaysOff a side (Flipped at byte) = IsOffCopy a side at 1

-- what a run has done stands behind calls of others that stay off its copy
abbrev pub OthersSpare : Type 0
OthersSpare =
    (run : RunState) (before after : DeviceState) (calls : List Call)
    → after.settled ≡ before.settled → after.first ≡ before.first
    → after.past ≡ calls ++ before.past → AllByRecursion (StaysOff run.area run.side) calls
    → RunStands run before → RunStands run after

-- the body of a run is, behind an open gate, a copy that says its state, where a copy may say it
abbrev pub BodiesAreAccepted : Type 0
BodiesAreAccepted =
    (a : Area) (side : Side) (s : CopyState) (bytes gate : List ℕ) (run : RunState)
    → IsTrue (may_say a.geometry s) → IsBegun a side s bytes run → slice_index gate 0 ≡ 1
    → (copy_fault a.geometry gate run.body ≡ None) × (copy_told run.body ≡ s)
