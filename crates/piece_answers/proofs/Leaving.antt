-- The calls of a cyclone leave the copies of the directory.
use Rattle.std.proofs.Common.{◌≡◌, ℕ, ◌<◌, ◌≤◌, ◌⊎◌, ◌∷◌, ◌/◌, List, length, Result, Ok, Err, inl, inr, sym, subst, arith}
use Rattle.edge_io.specs.declared.source.Failed.{Failed}
use Rattle.tape_base.specs.declared.geometries.Geometry.{Geometry}
use Rattle.tape_base.specs.Place.{block_of, content_block_of}
use Rattle.device_log.specs.Calls.{ToRead, ToWrite, Call, Read, RefusedCall, Wrote}
use Rattle.logged_disk.specs.Device.{DeviceState as Device, Logs}
use Rattle.power_cuts.specs.Surviving.{LeaveCopies, LeavesCopies, NoneMade, OneMade}
use Rattle.cyclone.specs.Cyclone.{ReadsBlocks, Seen, WritesBuffer}
use Rattle.cyclone.proofs.Calls.{either_side}

-- one call more
one_leaves : (g : Geometry) (old new : List Call) (call : Call) → new ≡ call ∷ old → LeavesCopies g call → LeaveCopies g old new
one_leaves g old new call is leaves = subst (LeaveCopies g old) (sym is) (OneMade call old NoneMade leaves)

logged_read : (g : Geometry) (at : ℕ) (bytes : List ℕ) (old new : Device) (result : Result (Unit {0}) Failed) → Logs (Read at bytes) result old new
    → LeaveCopies g old.past new.past
logged_read g at bytes old new (Ok x) logs = one_leaves g old.past new.past (Read at bytes) logs.past tt
logged_read g at bytes old new (Err e) logs = one_leaves g old.past new.past (RefusedCall (ToRead at (length bytes / 512)) new.faults) logs.0 tt

logged_write : (g : Geometry) (at : ℕ) (bytes : List ℕ) (old new : Device) (result : Result (Unit {0}) Failed) → content_block_of g ≤ at
    → Logs (Wrote at bytes) result old new → LeaveCopies g old.past new.past
logged_write g at bytes old new (Ok x) behind logs = one_leaves g old.past new.past (Wrote at bytes) logs.past behind
logged_write g at bytes old new (Err e) behind logs =
    one_leaves g old.past new.past (RefusedCall (ToWrite at (length bytes / 512) logs.0.0) new.faults) logs.0.1 behind

module _ (old new : Seen) (place blocks : ℕ) (result : Result (Unit {0}) Failed) (bytes : List ℕ) (read : ReadsBlocks old new place blocks result bytes) where
  leaves_by : ((place < old.buffer.cursor) ⊎ (old.buffer.cursor ≤ place)) → LeaveCopies old.geometry old.device.past new.device.past
  leaves_by (inl below) = logged_read old.geometry (block_of old.geometry place) bytes old.device new.device result (read.logs below)
  leaves_by (inr above) = subst (λ (d : Device). LeaveCopies old.geometry old.device.past d.past) (sym (read.none above)) NoneMade

  pub read_leaves : LeaveCopies old.geometry old.device.past new.device.past
  read_leaves = leaves_by (either_side place old.buffer.cursor)

pub write_leaves_copies : (old new : Seen) (result : Result (Unit {0}) Failed) → WritesBuffer old new result
    → LeaveCopies old.geometry old.device.past new.device.past
write_leaves_copies old new result wrote =
    logged_write old.geometry (block_of old.geometry old.buffer.cursor) old.buffer.bytes old.device new.device result (omega arith) wrote.logs
