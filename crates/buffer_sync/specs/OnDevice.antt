-- What the log of a device says of a buffer: which of its blocks stand there as they were written last.
use Rattle.std.specs.Prelude.{ℕ, ◌≡◌, ◌+◌, ◌*◌, ◌<◌, ◌≤◌, Bool, false, true, if◌then◌else◌, List, Option, None, Result, Ok, Err, Some, drop, take}
use Rattle.edge_io.specs.declared.source.Failed.{Failed}
use Rattle.device_log.specs.Calls.{Call}
use Rattle.tape_base.specs.Place.{block_of}
use Rattle.agg_buffer.specs.Buffer.{filled_of}
use Rattle.stripe_copies.specs.declared.copies.SyncStop.{SyncStop}
use Rattle.stripe_copies.specs.Copies.{CopiesState}
use Rattle.stripe_header.specs.declared.states.CopyState.{CopyState}
use Rattle.cyclone.specs.Cyclone.{SameTape, Seen}
use Rattle.cyclone.specs.Syncing.{SyncsCopy, WritesRest}
use Rattle.cache_model.specs.Given.{written_of}
use Rattle.buffer_sync.specs.declared.buffer.BufferOnDevice.{BufferOnDevice}
use Rattle.buffer_sync.specs.declared.buffer.Halt.{Halt}

-- to so many blocks from one on the calls wrote the front of these bytes last
abbrev pub WroteLast : List Call → ℕ → ℕ → List ℕ → Type 0
WroteLast past at n bytes = (i : ℕ) → i < n → written_of past (at + i) ≡ Some (take 512 (drop (512 * i) bytes))

-- so it is of the blocks of the buffer that were written, and no more of them are durable
pub record IsOnDevice (on : BufferOnDevice) (c : Seen) : Type 0 where
  pub durable : on.durable ≤ on.written
  pub written : on.written ≤ filled_of c.buffer
  pub last : WroteLast c.device.past (block_of c.geometry c.buffer.cursor) on.written c.buffer.bytes

-- behind a write all blocks were written, or where it was refused the durable ones
abbrev pub on_behind_write : Result (Unit {0}) Failed → ℕ → BufferOnDevice → BufferOnDevice
on_behind_write (Ok x) filled on = record { written = filled; durable = on.durable }
on_behind_write (Err e) filled on = record { written = on.durable; durable = on.durable }

-- behind a sync the written ones are durable, where its first device sync went
abbrev pub is_durable_behind : Result ℕ SyncStop → Bool
is_durable_behind (Ok serial) = true
is_durable_behind (Err stop) = stop.durable

abbrev pub on_behind_sync : Result ℕ SyncStop → BufferOnDevice → BufferOnDevice
on_behind_sync result on = record { written = on.written; durable = if is_durable_behind result then on.written else on.durable }

-- the buffer was written, and a copy behind it where a sync was due; or the device stopped that at one of its calls
pub data WentOut (due : Option CopyState) (on now : BufferOnDevice) (k after : CopiesState) (old new : Seen) : Result (Unit {0}) Halt → Type 0 where
  written : due ≡ None → after ≡ k → WritesRest on.durable old new (Ok tt) → now ≡ on_behind_write (Ok tt) (filled_of old.buffer) on
      → WentOut due on now k after old new (Ok tt)
  synced : (s : CopyState) (mid : Seen) (serial : ℕ) → due ≡ Some s → SameTape old mid → WritesRest on.durable old mid (Ok tt)
      → SyncsCopy k after s mid new (Ok serial) → now ≡ on_behind_sync (Ok serial) (on_behind_write (Ok tt) (filled_of old.buffer) on)
      → WentOut due on now k after old new (Ok tt)
  refused : (e : Failed) → after ≡ k → WritesRest on.durable old new (Err e) → now ≡ on_behind_write (Err e) (filled_of old.buffer) on
      → WentOut due on now k after old new (Err (record { count = new.device.faults; begun = false }))
  stopped : (s : CopyState) (mid : Seen) (stop : SyncStop) → due ≡ Some s → SameTape old mid → WritesRest on.durable old mid (Ok tt)
      → SyncsCopy k after s mid new (Err stop) → now ≡ on_behind_sync (Err stop) (on_behind_write (Ok tt) (filled_of old.buffer) on)
      → WentOut due on now k after old new (Err (record { count = stop.count; begun = true }))
