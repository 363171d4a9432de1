-- What holds on any device on which the calls of a sync are made, as its log tells.
use Rattle.std.specs.Prelude.{◌≡◌, ◌⊎◌, ◌≤◌, ◌<◌, ℕ, ◌+◌, ◌*◌, Bool, true, false, List, length, if◌then◌else◌}
use Rattle.device_log.specs.Image.{Image, IsImage}
use Rattle.device_log.specs.Calls.{Call}
use Rattle.device_log.specs.Seen.{seen_of, MayLeave}
use Rattle.device_log.specs.Faults.{IsLog}
use Rattle.device_log.specs.Along.{Along, ButFor, Stopped}
use Rattle.stripe_header.specs.declared.area.Area.{Area}
use Rattle.stripe_header.specs.declared.area.Side.{Side}
use Rattle.stripe_header.specs.Layout.{gate_of, body_blocks}
use Rattle.dir_sync.specs.declared.progress.SyncProgress.{SyncProgress}
use Rattle.dir_sync.specs.SyncCalls.{shutting_calls, first_calls, body_calls, last_calls, is_last, past_behind, MadeSome}
use Rattle.dir_sync.specs.Moments.{IsShut, IsReplaced, IsOpened, Spares, Stands}

-- the next blocks of a whole body, in a pass whose gate is shut
pub record MayWriteCopy (a : Area) (body : List ℕ) (p : SyncProgress) (n : ℕ) : Type 0 where
  pub whole : length body ≡ 512 * body_blocks a
  pub some : 0 < n
  pub within : p.written + n ≤ body_blocks a
  pub begun : p.begun ≡ true → p.shut ≡ true

-- the pasts behind the gate, behind the blocks of the body, and behind all
abbrev pub past_shut : Side → SyncProgress → List Call → List Call
past_shut side p old = past_behind (first_calls side p) old

abbrev pub past_put : Area → Side → List ℕ → SyncProgress → ℕ → List Call → List Call
past_put a side body p n old = past_behind (body_calls a side body p n) (past_shut side p old)

abbrev pub past_done : Area → Side → List ℕ → SyncProgress → ℕ → List Call → List Call
past_done a side body p n old = past_behind (last_calls a side p n) (past_put a side body p n old)

-- the next blocks were written, or a call failed: of the gate that shuts, of the body, of the gate
-- that opens
abbrev pub IsWritingCopy : Area → Side → List ℕ → SyncProgress → ℕ → List Call → List Call → Type 0
IsWritingCopy a side body p n old new =
    MadeSome (first_calls side p) old new
    ⊎ MadeSome (body_calls a side body p n) (past_shut side p old) new
    ⊎ MadeSome (last_calls a side p n) (past_put a side body p n old) new

-- how far a pass has come that began
abbrev pub begun_pass : SyncProgress
begun_pass = record { begun = true; shut = true; written = 0 }

-- behind the next blocks; behind the last the gate is not known to be shut
abbrev pub pass_behind : Area → SyncProgress → ℕ → SyncProgress
pass_behind a p n =
    record {
      begun = if is_last a p n then false else true;
      shut = if is_last a p n then false else true;
      written = p.written + n;
    }

-- behind a failure the pass is given up, and the gate may be known to be shut
abbrev pub given_up : Bool → SyncProgress
given_up shut = record { begun = false; shut = shut; written = 0 }

-- Which call failed, with that count. The gate is known to be shut as before, where it was to be
-- shut; behind that it is, until it is to be opened.
abbrev pub Halts : Area → Side → List ℕ → SyncProgress → ℕ → ℕ → Bool → List Call → List Call → Type 0
Halts a side body p n count shut old new =
    (Stopped (first_calls side p) count old new × (shut ≡ p.shut))
    ⊎ (Stopped (body_calls a side body p n) count (past_shut side p old) new × (shut ≡ true))
    ⊎ (Stopped (last_calls a side p n) count (past_put a side body p n old) new × (shut ≡ false))

-- while a gate is shut a cut leaves what it could, but for any bytes in the gate
abbrev pub ShuttingSparesAll : Type 0
ShuttingSparesAll =
    (side : Side) (shut settled : Bool) (first : Image) (old new : List Call)
    → IsImage first → IsLog new → MadeSome (shutting_calls side shut) old new
    → Along (ButFor (gate_of side) 1 (MayLeave settled first old)) settled first old new

-- behind it a pass stands, where a gate that is known to be shut was seen shut
abbrev pub ShutStands : Type 0
ShutStands =
    (a : Area) (side : Side) (body : List ℕ) (shut settled : Bool) (first : Image) (old : List Call)
    → (shut ≡ true → IsShut side (seen_of first old))
    → Stands a side body begun_pass settled first (past_behind (shutting_calls side shut) old)

-- while the body is written and the gate opened, a cut leaves the copy shut or whole, and all
-- beside it as it could
abbrev pub WritingReplaces : Type 0
WritingReplaces =
    (a : Area) (side : Side) (body : List ℕ) (p : SyncProgress) (n : ℕ) (settled : Bool) (first : Image)
    (old new : List Call)
    → MayWriteCopy a body p n → Stands a side body p settled first old
    → IsImage first → IsLog new → IsWritingCopy a side body p n old new
    → Along (IsReplaced a side body (MayLeave settled first old)) settled first old new

-- and beside the copy what is seen stays
abbrev pub WritingSpares : Type 0
WritingSpares =
    (a : Area) (side : Side) (body : List ℕ) (p : SyncProgress) (n : ℕ) (settled : Bool) (first : Image)
    (old new : List Call)
    → MayWriteCopy a body p n → IsImage first → IsLog new → IsWritingCopy a side body p n old new
    → Spares a side settled first old new

-- what the pass has done stands behind the next blocks
abbrev pub PutStands : Type 0
PutStands =
    (a : Area) (side : Side) (body : List ℕ) (p : SyncProgress) (n : ℕ) (settled : Bool) (first : Image)
    (old : List Call)
    → MayWriteCopy a body p n → Stands a side body p settled first old
    → IsImage first → IsLog (past_done a side body p n old)
    → Stands a side body (pass_behind a p n) settled first (past_done a side body p n old)

-- and behind a failure what the next pass begins with
abbrev pub HaltStands : Type 0
HaltStands =
    (a : Area) (side : Side) (body : List ℕ) (p : SyncProgress) (n count : ℕ) (shut settled : Bool)
    (first : Image) (old new : List Call)
    → MayWriteCopy a body p n → Stands a side body p settled first old
    → IsImage first → IsLog new → Halts a side body p n count shut old new
    → Stands a side body (given_up shut) settled first new

-- behind the last blocks the gate is open, and nothing is pending
abbrev pub LastOpens : Type 0
LastOpens =
    (a : Area) (side : Side) (body : List ℕ) (p : SyncProgress) (n : ℕ) (settled : Bool) (first : Image)
    (old : List Call)
    → is_last a p n ≡ true
    → IsOpened side settled first (past_done a side body p n old)
