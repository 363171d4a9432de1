-- What a call of a run leaves on its device.
use Rattle.std.specs.Prelude.{ℕ, List, Result, Ok, Err}
use Rattle.logged_disk.specs.Device.{DeviceState}
use Rattle.stripe_header.specs.declared.area.Area.{Area}
use Rattle.stripe_header.specs.declared.area.Side.{Side}
use Rattle.dir_sync.specs.declared.progress.SyncProgress.{SyncProgress}
use Rattle.dir_sync.specs.declared.parts.Halt.{Halt}
use Rattle.dir_sync.specs.Moments.{Spares, IsOpened, Stands}
use Rattle.dir_sync.specs.Laws.{pass_behind, given_up}

-- what a pass has done stands on this device
abbrev pub StandsOn : Area → Side → List ℕ → SyncProgress → DeviceState → Type 0
StandsOn a side body p s = Stands a side body p s.settled s.first s.past

-- beside this copy what is seen stays, and what was not pending is not
abbrev pub SparesBeside : Area → Side → DeviceState → DeviceState → Type 0
SparesBeside a side old new = Spares a side old.settled old.first old.past new.past

-- the gate is open, and nothing is pending
abbrev pub OpenedOn : Side → DeviceState → Type 0
OpenedOn side s = IsOpened side s.settled s.first s.past

-- how far a pass has come behind the next blocks, or behind a failure
abbrev pub pass_after : {T : Type 0} → Area → SyncProgress → ℕ → Result T Halt → SyncProgress
pass_after a p n (Ok done) = pass_behind a p n
pass_after a p n (Err halt) = given_up halt.shut
