-- A whole budget has room for the document of each piece.
use Rattle.std.proofs.Common.{◌≡◌, ℕ, ◌*◌, ◌^◌, ◌≤◌, List, length, refl, arith}
use Rattle.std.specs.Prelude.{Option, Some, None, IfSome, option_map}
use Rattle.tape_base.specs.declared.pieces.PieceId.{PieceId}
use Rattle.tape_base.specs.declared.geometries.Geometry.{Geometry}
use Rattle.tape_base.specs.Blocks.{blocks_of}
use Rattle.tape_base.specs.Geometry.{budget_of}
use Rattle.cyclone.specs.Cyclone.{Seen}
use Rattle.cache_model.specs.State.{Row, State, live_row_of}
use Rattle.piece_answers.specs.Find.{HasRoomFor}
use Rattle.held_pieces.specs.Held.{IsHeld}
use Rattle.held_pieces.proofs.Lives.{live_in_lap}

room_by : (o : Option Row) (budget : ℕ) (into : List ℕ) → length into ≡ 512 * budget → ((row : Row) → o ≡ Some row → row.blocks ≤ budget)
    → IfSome (option_map (λ (row : Row). row.blocks) o) (λ blocks. 512 * blocks ≤ length into)
room_by None budget into whole small = tt
room_by (Some row) budget into whole small = let few : row.blocks ≤ budget = small row refl in omega (arith, whole, few)

pub budget_has_room : (s : State) (c : Seen) (id : PieceId) (into : List ℕ) → IsHeld s c → length into ≡ 512 * budget_of s.geometry → HasRoomFor s id into
budget_has_room s c id into held whole = room_by (live_row_of s id) (budget_of s.geometry) into whole (λ row live. (live_in_lap s c id row held live).small)

-- half a buffer has less than 2^31 bytes
pub small_in_bytes : (g : Geometry) (bytes : ℕ) → blocks_of bytes ≤ budget_of g → bytes ≤ 2 ^ 31
small_in_bytes g bytes small = let agg : g.agg ≤ 8192 = g.accepted.agg_fits.1 in omega (arith, small, agg)
