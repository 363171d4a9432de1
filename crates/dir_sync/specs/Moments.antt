-- What stands of a copy while it is replaced.
use Rattle.std.specs.Prelude.{◌≡◌, ◌≢◌, ◌⊎◌, ◌≤◌, ◌<◌, ℕ, ◌+◌, ◌*◌, Bool, true, false, List, take, slice_index}
use Rattle.device_log.specs.Image.{Image, span}
use Rattle.device_log.specs.Calls.{Call}
use Rattle.device_log.specs.Seen.{seen_of, is_pending}
use Rattle.stripe_header.specs.declared.area.Area.{Area}
use Rattle.stripe_header.specs.declared.area.Side.{Side}
use Rattle.stripe_header.specs.Layout.{gate_of, body_of, body_blocks}
use Rattle.dir_sync.specs.declared.progress.SyncProgress.{SyncProgress}

abbrev pub IsShut : Side → Image → Type 0
IsShut side c = slice_index (c (gate_of side)) 0 ≢ 1

abbrev pub IsOpen : Side → Image → Type 0
IsOpen side c = slice_index (c (gate_of side)) 0 ≡ 1

abbrev pub HasBody : Area → Side → List ℕ → Image → Type 0
HasBody a side body c = span c (body_of a side) (body_blocks a) ≡ body

-- the same but for this copy's gate and body
abbrev pub StandsBeside : Area → Side → Image → Image → Type 0
StandsBeside a side old new = (j : ℕ) → j ≢ gate_of side
    → (body_of a side ≤ j → j < body_of a side + body_blocks a → ⊥) → new j ≡ old j

-- the copy is shut, or whole; and all beside it is as in one of these
pub record IsReplaced (a : Area) (side : Side) (body : List ℕ) (P : Image → Type 0) (c : Image)
    : Type 0 where
  pub before : Image
  pub was : P before
  pub beside : StandsBeside a side before c
  pub copy : IsShut side c ⊎ HasBody a side body c

-- the body stands whole, and no cut can take it
pub record BodyIsKept (a : Area) (side : Side) (body : List ℕ)
    (settled : Bool) (first : Image) (past : List Call) : Type 0 where
  pub still : (j : ℕ) → body_of a side ≤ j → j < body_of a side + body_blocks a
      → is_pending settled past j ≡ false
  pub has : HasBody a side body (seen_of first past)

-- the gate is shut, and no cut can open it
pub record IsBarred (side : Side) (settled : Bool) (first : Image) (past : List Call) : Type 0 where
  pub still : is_pending settled past (gate_of side) ≡ false
  pub shut : IsShut side (seen_of first past)

-- beside this copy what is seen stays, and what was not pending is not
pub record Spares (a : Area) (side : Side) (settled : Bool) (first : Image) (old new : List Call)
    : Type 0 where
  pub seen : StandsBeside a side (seen_of first old) (seen_of first new)
  pub still : (j : ℕ) → j ≢ gate_of side
      → (body_of a side ≤ j → j < body_of a side + body_blocks a → ⊥)
      → is_pending settled old j ≡ false → is_pending settled new j ≡ false

-- the gate is open, and nothing is pending
pub record IsOpened (side : Side) (settled : Bool) (first : Image) (past : List Call) : Type 0 where
  pub still : (j : ℕ) → is_pending settled past j ≡ false
  pub opened : IsOpen side (seen_of first past)

-- What a run has done stands on the device. A gate that is not known to be shut may be open, so the
-- body behind it is whole.
pub record Stands (a : Area) (side : Side) (body : List ℕ) (p : SyncProgress)
    (settled : Bool) (first : Image) (past : List Call) : Type 0 where
  pub within : p.written ≤ body_blocks a
  pub gate : p.shut ≡ true → IsBarred side settled first past
  pub front : span (seen_of first past) (body_of a side) p.written ≡ take (512 * p.written) body
  pub whole : p.shut ≡ false → BodyIsKept a side body settled first past
