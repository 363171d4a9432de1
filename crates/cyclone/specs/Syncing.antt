-- What a sync writes of a cyclone: the blocks of its buffer that are not durable yet, and a copy of its directory.
use Rattle.std.specs.Prelude.{ℕ, ◌≡◌, ◌+◌, ◌-◌, ◌*◌, ◌<◌, ◌≤◌, IsTrue, Result, Ok, OnOk, OnErr, IfOk, IfErr, drop, take}
use Rattle.edge_io.specs.declared.source.Failed.{Failed}
use Rattle.device_log.specs.Causes.{HasCause}
use Rattle.device_log.specs.Calls.{Call, Wrote}
use Rattle.device_log.specs.Image.{span}
use Rattle.tape_base.specs.Place.{block_of, directory_blocks_of, lap_end_of}
use Rattle.logged_disk.specs.Device.{IsAfter, Keeps, Logs, seen as content_of}
use Rattle.stripe_header.specs.declared.states.CopyState.{CopyState}
use Rattle.stripe_header.specs.Layout.{body_blocks}
use Rattle.stripe_header.specs.Spelling.{may_say}
use Rattle.agg_buffer.specs.Buffer.{filled_of, next_place_of}
use Rattle.stripe_copies.specs.declared.copies.SyncStop.{SyncStop}
use Rattle.stripe_copies.specs.Copies.{CopiesState, IsBrokenOff, IsSynced, broken_off, turned}
use Rattle.cyclone.specs.Cyclone.{Seen}

-- so many blocks in front of the buffer are seen on the device
abbrev pub HasFront : ℕ → Seen → Type 0
HasFront blocks c = span (content_of c.device) (block_of c.geometry c.buffer.cursor) blocks ≡ take (512 * blocks) c.buffer.bytes

-- the write of those behind them
abbrev pub rest_written : ℕ → Seen → Call
rest_written blocks c = Wrote (block_of c.geometry c.buffer.cursor + blocks) (drop (512 * blocks) c.buffer.bytes)

-- that is one call of the device, also where it fails; where no block is left none is made
pub record WritesRest (durable : ℕ) (old new : Seen) (result : Result (Unit {0}) Failed) : Type 0 where
  pub keeps : Keeps 1 (filled_of old.buffer - durable) old.device new.device
  pub logs : durable < filled_of old.buffer → Logs (rest_written durable old) result old.device new.device
  pub none : filled_of old.buffer ≤ durable → (result ≡ Ok tt) × (new.device ≡ old.device)
  pub cause : HasCause old.device.faults new.device.faults result

-- a copy may say this of the cyclone, with the next serial and a cursor that is not behind the lap, and there is room on the
-- device for the calls
pub record MaySync (c : Seen) (k : CopiesState) (s : CopyState) : Type 0 where
  pub geometry : k.area.geometry ≡ c.geometry
  pub directory : k.area.directory ≡ directory_blocks_of k.area.geometry
  pub says : IsTrue (may_say c.geometry s)
  pub serial : s.serial ≡ k.begun + 1
  pub behind : next_place_of c.buffer ≤ s.cursor
  pub lap : s.cursor ≤ lap_end_of c.geometry c.buffer.cursor
  pub calls : 8 ≤ c.device.calls
  pub blocks : body_blocks k.area + 3 ≤ c.device.blocks

-- a whole sync of a copy that says this: its calls, and what is known of the copies then
pub record SyncsCopy (k then : CopiesState) (s : CopyState) (old new : Seen) (result : Result ℕ SyncStop) : Type 0 where
  pub keeps : Keeps 8 (body_blocks k.area + 3) old.device new.device
  pub goes : IsAfter old.device new.device
  pub went : IfOk result (λ serial. (serial ≡ s.serial) × IsSynced k s old.stored old.device new.device)
  pub turned_so : OnOk result (then ≡ turned k s)
  pub stopped : IfErr result (λ stop. IsBrokenOff k s old.stored stop then.shut old.device new.device)
  pub stays : OnErr result (then ≡ broken_off k s then.shut)
