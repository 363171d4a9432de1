-- What the calls of a cyclone leave of its device.
use Rattle.std.proofs.Common.{ℕ, ◌<◌, ◌≤◌, ◌⊎◌, List, Result, inl, inr, sym, ap, subst, arith}
use Rattle.edge_io.specs.declared.source.Failed.{Failed}
use Rattle.tape_base.specs.Place.{block_of}
use Rattle.agg_buffer.specs.Buffer.{filled_of}
use Rattle.device_log.specs.Image.{SameBut}
use Rattle.logged_disk.specs.Device.{DeviceState, IsAfter, IsAsked, SeenStays, seen as content_of}
use Rattle.logged_disk.proofs.GoingOn.{goes_by_read, goes_by_write, stays_put}
use Rattle.logged_disk.proofs.Moments.{read_same, write_others}
use Rattle.cyclone.specs.Cyclone.{Seen, ReadsBlocks, WritesBuffer}

pub either_side : (a b : ℕ) → ((a < b) ⊎ (b ≤ a))
either_side a b = grind arith

module _ (old new : Seen) (place blocks : ℕ) (result : Result (Unit {0}) Failed) (bytes : List ℕ) (read : ReadsBlocks old new place blocks result bytes) where
  goes_by : ((place < old.buffer.cursor) ⊎ (old.buffer.cursor ≤ place)) → IsAfter old.device new.device
  goes_by (inl below) = goes_by_read 0 0 old.device new.device read.keeps result (block_of old.geometry place) bytes (read.logs below)
  goes_by (inr above) = subst (λ (d : DeviceState). IsAfter old.device d) (sym (read.none above)) (stays_put old.device)

  pub reads_go_on : IsAfter old.device new.device
  reads_go_on = goes_by (either_side place old.buffer.cursor)

  same_by : ((place < old.buffer.cursor) ⊎ (old.buffer.cursor ≤ place)) → SeenStays old.device new.device
  same_by (inl below) j = ap (λ c. c j) (read_same result old.device new.device (block_of old.geometry place) bytes read.keeps.first (read.logs below))
  same_by (inr above) j = ap (λ (d : DeviceState). content_of d j) (read.none above)

  pub reads_same : SeenStays old.device new.device
  reads_same = same_by (either_side place old.buffer.cursor)

  pub reads_ask : IsAsked old.device new.device
  reads_ask = record { keeps = read.keeps; later = read.cause.later; goes = reads_go_on }

module _ (old new : Seen) (result : Result (Unit {0}) Failed) (wrote : WritesBuffer old new result) where
  pub write_goes_on : IsAfter old.device new.device
  write_goes_on = goes_by_write 1 (filled_of old.buffer) old.device new.device wrote.keeps result (block_of old.geometry old.buffer.cursor) old.buffer.bytes wrote.logs

  -- only the blocks of the buffer are seen otherwise
  pub write_leaves : SameBut (block_of old.geometry old.buffer.cursor) (filled_of old.buffer) (content_of old.device) (content_of new.device)
  write_leaves = write_others result old.device new.device (block_of old.geometry old.buffer.cursor) old.buffer.bytes wrote.keeps.first wrote.logs
