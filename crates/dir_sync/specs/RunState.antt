-- What a contract sees of a `SyncRun`.
use Rattle.std.specs.Prelude.{◌≡◌, ◌≤◌, ℕ, ◌*◌, true, List, length}
use Rattle.stripe_header.specs.declared.area.Area.{Area}
use Rattle.stripe_header.specs.declared.area.Side.{Side}
use Rattle.stripe_header.specs.declared.states.CopyState.{CopyState}
use Rattle.stripe_header.specs.Layout.{body_blocks}
use Rattle.dir_sync.specs.declared.progress.SyncProgress.{SyncProgress}

-- which copy of which stripe is replaced, what it is to say, its body, and how far this has come
pub record RunState : Type 0 where
  pub area : Area
  pub side : Side
  pub state : CopyState
  pub body : List ℕ
  pub progress : SyncProgress

-- the body is that of a copy of the stripe, and a pass that began has shut the gate
pub record IsRunState (a : Area) (body : List ℕ) (p : SyncProgress) : Type 0 where
  pub whole : length body ≡ 512 * body_blocks a
  pub begun : p.begun ≡ true → p.shut ≡ true
  pub within : p.written ≤ body_blocks a
