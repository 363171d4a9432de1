-- Whether a piece has room, as the buffer tells it.
use Rattle.std.proofs.Common.{◌≡◌, ℕ, ◌+◌, ◌<◌, ◌≤◌, ◌∙◌, ap, arith, true, false}
use Rattle.std.proofs.lemmas.Bool.{le-leb, lt-leb}
use Rattle.tape_base.specs.declared.geometries.Geometry.{Geometry}
use Rattle.tape_base.specs.Blocks.{blocks_of}
use Rattle.agg_buffer.specs.Buffer.{room_of}
use Rattle.cyclone.specs.Cyclone.{Seen}
use Rattle.cache_model.specs.State.{State}
use Rattle.cache_model.specs.Room.{has_room}
use Rattle.held_pieces.specs.Held.{IsHeld}

-- what the buffer reserves
reserved_is : (s : State) (c : Seen) → IsHeld s c → c.buffer.reserved ≡ s.geometry.agg
reserved_is s c held = held.turning.reserved ∙ ap (λ (g : Geometry). g.agg) held.geometry

-- more blocks than the buffer takes
pub no_room : (s : State) (c : Seen) (bytes blocks room : ℕ) → IsHeld s c → blocks ≡ blocks_of bytes → room ≡ room_of c.buffer → room < blocks → has_room s bytes ≡ false
no_room s c bytes blocks room held b r less = lt-leb (s.filled + blocks_of bytes) s.geometry.agg (omega (arith, b, r, less, held.filled, reserved_is s c held))

-- no more than it takes
pub some_room : (s : State) (c : Seen) (bytes blocks room : ℕ) → IsHeld s c → blocks ≡ blocks_of bytes → room ≡ room_of c.buffer → blocks ≤ room → has_room s bytes ≡ true
some_room s c bytes blocks room held b r fits =
    le-leb (s.filled + blocks_of bytes) s.geometry.agg (omega (arith, b, r, fits, held.filled, held.turning.few, held.turning.reserved, reserved_is s c held))
