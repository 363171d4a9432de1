-- A writer, and the put that it writes.
use Rattle.std.specs.Prelude.{ℕ, ◌≡◌, ◌*◌, ◌<◌, ◌≤◌, true, [], length, Some, ◌⊎◌}
use Rattle.fragment_table.specs.Table.{total_length}
use Rattle.tape_base.specs.declared.geometries.Geometry.{Geometry}
use Rattle.logged_disk.specs.declared.device.Disk.{Ghosts as DiskGhosts}
use Rattle.dir_table.specs.declared.directory.Directory.{Ghosts as DirectoryGhosts}
use Rattle.cache_chronicle.specs.declared.chronicle.Chronicle.{Ghosts as ChronicleGhosts}
use Rattle.cache_model.specs.Legal.{is_writing}
use Rattle.cache_model.specs.State.{Open, PutRow, State, put_of, most_fragments}
use Rattle.stripe_core.specs.declared.stripe.Stripe.{Stripe}
use Rattle.stripe_core.specs.Between.{IsResting}
use Rattle.stripe_core.specs.Stripe.{room_for, state_in, units_in}
use Rattle.stripe_write.specs.declared.writer.Writer.{Writer}
use Rattle.cache_calls.specs.Actors.{IsWriterOf, WriterSeen}

-- a writer as a cache's
abbrev pub written_as : Writer → WriterSeen
written_as w = record {
  put = w.put;
  key = w.key;
  request = w.request;
  response = w.response;
  pin = w.pin;
  gathered = w.gathered.items;
  cuts = w.table.rows;
  sealed = w.sealed;
}

-- ---- a stripe and a writer

module _ {D R C : Type 0} {d : DiskGhosts D} {r : DirectoryGhosts R} {c : ChronicleGhosts C} where
  -- a stripe between calls, and the writer of a put that is open in it
  pub record HasOpenWriter (t : Stripe D R C d r c) (w : Writer) : Type 0 where
    pub resting : IsResting t
    pub writer : IsWriterOf (state_in t) (written_as w)
    pub is_open : is_writing (state_in t) w.put ≡ true

  -- memory is made to close it: for so many calls, and for one fragment more in the stripe and in its table
  pub record HasMemoryToClose (n : ℕ) (t : Stripe D R C d r c) (w : Writer) : Type 0 where
    pub units : n ≤ units_in t
    pub row : 0 < room_for w.put t.actors
    pub table : 0 < w.table.room
