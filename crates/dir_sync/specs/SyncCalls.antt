-- The calls of a device by which a copy is replaced, in order.
use Rattle.std.specs.Prelude.{◌≡◌, ◌⊎◌, ℕ, ◌+◌, ◌*◌, ◌==◌, if◌then◌else◌, Bool, List, [], ◌∷◌, take, drop, replicate, slice_set}
use Rattle.device_log.specs.Calls.{Call, Wrote, Synced}
use Rattle.device_log.specs.Along.{WasRefused}
use Rattle.stripe_header.specs.declared.area.Area.{Area}
use Rattle.stripe_header.specs.declared.area.Side.{Side}
use Rattle.stripe_header.specs.Layout.{gate_of, body_of, body_blocks}
use Rattle.dir_sync.specs.declared.progress.SyncProgress.{SyncProgress}

-- the block of a gate that is shut, and of one that is open
unfoldable pub shut_block : List ℕ
shut_block = replicate 512 0

unfoldable pub open_block : List ℕ
open_block = slice_set (replicate 512 0) 0 1

-- so many blocks of a body from one of them on
abbrev pub part_of : List ℕ → ℕ → ℕ → List ℕ
part_of body from n = take (512 * n) (drop (512 * from) body)

-- A gate that is known to be shut is not written, but what is pending is synced all the same.
abbrev pub shutting_calls : Side → Bool → List Call
shutting_calls side shut =
    if shut then Synced ∷ [] else Wrote (gate_of side) shut_block ∷ Synced ∷ []

abbrev pub opening_calls : Side → List Call
opening_calls side = Wrote (gate_of side) open_block ∷ Synced ∷ []

-- the next so many blocks are the last
abbrev pub is_last : Area → SyncProgress → ℕ → Bool
is_last a p n = p.written + n == body_blocks a

-- before the body: a pass begins with the gate
abbrev pub first_calls : Side → SyncProgress → List Call
first_calls side p = if p.begun then [] else shutting_calls side p.shut

-- of the body the next so many blocks, and a sync behind the last
abbrev pub body_calls : Area → Side → List ℕ → SyncProgress → ℕ → List Call
body_calls a side body p n =
    Wrote (body_of a side + p.written) (part_of body p.written n)
    ∷ (if is_last a p n then Synced ∷ [] else [])

-- behind the body
abbrev pub last_calls : Area → Side → SyncProgress → ℕ → List Call
last_calls a side p n = if is_last a p n then opening_calls side else []

-- the past behind these calls
abbrev pub past_behind : List Call → List Call → List Call
past_behind [] old = old
past_behind (call ∷ calls) old = past_behind calls (call ∷ old)

-- all of these calls were made, in this order; or some, and the next one failed
abbrev pub MadeSome : List Call → List Call → List Call → Type 0
MadeSome [] old new = new ≡ old
MadeSome (call ∷ calls) old new =
    ((count : ℕ) × WasRefused call count old new) ⊎ MadeSome calls (call ∷ old) new
