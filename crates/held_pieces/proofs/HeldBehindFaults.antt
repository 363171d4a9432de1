-- What is held behind a fault, a write of the buffer and a read.
use Rattle.std.proofs.Common.{◌≡◌, ℕ, ◌-◌, ◌<◌, ◌≤◌, List, [], ◌∷◌, refl, arith, zero, suc, Result}
use Rattle.edge_io.specs.declared.source.Failed.{Failed}
use Rattle.agg_buffer.specs.Buffer.{next_place_of}
use Rattle.cyclone.specs.Cyclone.{Seen, IsTurning, ReadsBlocks, SameTape, WritesBuffer}
use Rattle.cyclone.proofs.Calls.{reads_go_on, reads_same, write_goes_on, write_leaves}
use Rattle.cache_model.specs.declared.record.Rec.TheVariants as rec
use Rattle.cache_model.specs.State.{State, state_after}
use Rattle.cache_model.specs.Tape.{IsSound}
use Rattle.cache_model.proofs.Sound.{later_leaves}
use Rattle.held_pieces.specs.Held.{IsHeld}
use Rattle.held_pieces.specs.Records.{SparesPieces}
use Rattle.held_pieces.proofs.Going.{alike_is_held, device_may_change, shows_same}

fault_is_sound : (s : State) (count : ℕ) → IsSound s → IsSound (state_after s (rec.Fault count))
fault_is_sound s count h = (later_leaves s (rec.Fault count ∷ []) (tt, tt) h).sound

-- a fault that the device counted
pub counted_is_held : (s : State) (c : Seen) (count : ℕ) → IsHeld s c → count ≤ c.device.faults → IsHeld (state_after s (rec.Fault count)) c
counted_is_held s c count held low =
    alike_is_held s (state_after s (rec.Fault count)) c held
    (record { geometry = refl; cursor = refl; least = refl; filled = refl; rows = refl; sound = fault_is_sound s count held.sound }) low

pub fault_is_held : (s : State) (c new : Seen) (count : ℕ) → IsHeld s c → SameTape c new → IsTurning new → SparesPieces c new.device → count ≡ new.device.faults
    → IsHeld (state_after s (rec.Fault count)) new
fault_is_held s c new count held same turning spares is =
    counted_is_held s new count (device_may_change s c new held same turning spares) (omega (arith, is))

-- a write of the buffer spares all pieces that may be read, also where it fails
pub write_spares : (c new : Seen) (result : Result (Unit {0}) Failed) → WritesBuffer c new result → SparesPieces c new.device
write_spares c new result wrote = record { later = wrote.cause.later; goes = write_goes_on c new result wrote; others = write_leaves c new result wrote }

-- so does a read
pub read_spares : (c new : Seen) (place blocks : ℕ) (result : Result (Unit {0}) Failed) (bytes : List ℕ) → ReadsBlocks c new place blocks result bytes → SparesPieces c new.device
read_spares c new place blocks result bytes read =
    shows_same c new.device read.cause.later (reads_go_on c new place blocks result bytes read) (reads_same c new place blocks result bytes read)

-- the buffer has a block where the next place is not the cursor
pub some_filled : (s : State) (c : Seen) (next cursor : ℕ) → IsHeld s c → next ≡ next_place_of c.buffer → cursor ≡ c.buffer.cursor → (next - cursor ≡ 0 → ⊥) → 0 < s.filled
some_filled s c next cursor held at from some =
    by s.filled refl
  where
    by : (n : ℕ) → s.filled ≡ n → 0 < n
    by zero e = absurd (some (omega (arith, at, from, held.filled, e)))
    by (suc n) e = omega arith
