-- What a stripe knows of its two copies, and what a whole sync into one of them does.
use Rattle.std.specs.Prelude.{ℕ, ◌≡◌, ◌≤◌, ◌<◌, ◌-◌, ◌*◌, Bool, true, false, List, [], ◌∷◌, ◌++◌, length}
use Rattle.tape_base.specs.declared.geometries.Geometry.{Geometry}
use Rattle.tape_base.specs.Place.{directory_blocks_of, lap_end_of}
use Rattle.device_log.specs.Calls.{Call, Wrote, Synced}
use Rattle.device_log.specs.Along.{Stopped}
use Rattle.logged_disk.specs.Device.{DeviceState as Device}
use Rattle.stripe_header.specs.declared.area.Area.{Area}
use Rattle.stripe_header.specs.declared.area.Side.{Side}
use Rattle.stripe_header.specs.declared.area.Side.TheVariants as sides
use Rattle.stripe_header.specs.declared.states.CopyState.{CopyState}
use Rattle.stripe_header.specs.Layout.{body_blocks, body_of, other_side}
use Rattle.stripe_header.specs.Spelling.{IsCopy}
use Rattle.dir_table.specs.declared.rows.StoredRow.{StoredRow}
use Rattle.dir_table.specs.declared.window.Window.{Window}
use Rattle.packed_directory.specs.PackedImage.{IsImageOfSegments, means}
use Rattle.packed_directory.specs.Stored.{Tells}
use Rattle.dir_sync.specs.SyncCalls.{opening_calls, past_behind, shutting_calls}
use Rattle.stripe_copies.specs.declared.copies.SyncStop.{SyncStop}
use Rattle.stripe_copies.specs.Format.{Goes, first_state}

-- where two copies lie, and what is known of them
pub record CopiesState : Type 0 where
  pub area : Area
  -- the side of the newest copy, its serial and its cursor
  pub newest : Side
  pub finished : ℕ
  pub synced : ℕ
  -- the serial of the last sync that was begun
  pub begun : ℕ
  -- whether the gate of the other copy is known to be shut
  pub shut : Bool

-- what every `Copies` has: the area of its geometry, and memory for one body
pub record AreCopies (a : Area) (body : List ℕ) : Type 0 where
  pub directory : a.directory ≡ directory_blocks_of a.geometry
  pub whole : length body ≡ 512 * body_blocks a

-- the copies behind a format, which leaves the gate of copy B shut
abbrev pub first_copies : Area → CopiesState
first_copies a =
    record {
      area = a;
      newest = sides.A;
      finished = (first_state a.geometry).serial;
      synced = (first_state a.geometry).cursor;
      begun = (first_state a.geometry).serial;
      shut = true;
    }

-- the side of the copy that a sync writes
abbrev pub target_of : CopiesState → Side
target_of k = other_side k.newest

-- behind a sync that says this the other copy is the newest, and the gate of what was the newest is open
abbrev pub turned : CopiesState → CopyState → CopiesState
turned k s =
    record {
      area = k.area;
      newest = target_of k;
      finished = s.serial;
      synced = s.cursor;
      begun = s.serial;
      shut = false;
    }

-- behind one that was broken off its serial is used up, and this is known of the other gate
abbrev pub broken_off : CopiesState → CopyState → Bool → CopiesState
broken_off k s shut = record k { begun = s.serial; shut = shut }

-- a directory may be written for this cursor: its last piece ends there or below, and it is not behind the lap
abbrev pub MayBeNext : Window → ℕ → Type 0
MayBeNext t cursor = (t.end ≤ cursor) × (cursor ≤ lap_end_of t.geometry t.cursor)

-- bytes are the image of a directory with these rows, for a cursor that is to come
pub record IsImageOf (g : Geometry) (cursor : ℕ) (rows : List StoredRow) (image : List ℕ) : Type 0 where
  pub whole : length image ≡ 512 * directory_blocks_of g
  pub sound : IsImageOfSegments g image
  pub told : Tells (cursor - g.content) rows (means g cursor image)

-- bytes are the body of the copy that says this, with the image of a directory with these rows
pub record IsBodyOf (g : Geometry) (s : CopyState) (rows : List StoredRow) (body : List ℕ) : Type 0 where
  pub image : List ℕ
  pub of : IsImageOf g s.cursor rows image
  pub copy : IsCopy body 2 g s image

-- the body in one write, with a sync behind it
abbrev pub writing_calls : Area → Side → List ℕ → List Call
writing_calls a side body = Wrote (body_of a side) body ∷ Synced ∷ []

-- the calls of a whole sync, in order: the gate is shut, but not written where it is known to be, and opened behind the body
abbrev pub sync_calls : Area → Side → Bool → List ℕ → List Call
sync_calls a side shut body = shutting_calls side shut ++ (writing_calls a side body ++ opening_calls side)

-- One of these calls failed, and no later one was made; and what is then known: whether all that was written before the
-- sync is durable, and whether the gate is shut.
pub data StopsAt (a : Area) (side : Side) (shut : Bool) (body : List ℕ) (stop : SyncStop) (known : Bool)
    (old new : List Call) : Type 0 where
  -- where the gate was to be shut, it is known to be as before
  Shutting : Stopped (shutting_calls side shut) stop.count old new → stop.durable ≡ false → known ≡ shut
      → StopsAt a side shut body stop known old new
  -- where the body was to be written, it is shut
  Writing : Stopped (writing_calls a side body) stop.count (past_behind (shutting_calls side shut) old) new
      → stop.durable ≡ true → known ≡ true → StopsAt a side shut body stop known old new
  -- where it was to be opened, it is not known to be shut
  Opening : Stopped (opening_calls side) stop.count
      (past_behind (shutting_calls side shut ++ writing_calls a side body) old) new
      → stop.durable ≡ true → known ≡ false → StopsAt a side shut body stop known old new

-- a whole copy that says this, of a directory with these rows, was written and opened
pub record IsSynced (k : CopiesState) (s : CopyState) (rows : List StoredRow) (old new : Device) : Type 0 where
  pub body : List ℕ
  pub of : IsBodyOf k.area.geometry s rows body
  pub made : Goes (sync_calls k.area (target_of k) k.shut body) old new

-- or the device refused one of these calls
pub record IsBrokenOff (k : CopiesState) (s : CopyState) (rows : List StoredRow) (stop : SyncStop) (shut : Bool)
    (old new : Device) : Type 0 where
  pub body : List ℕ
  pub of : IsBodyOf k.area.geometry s rows body
  pub stopped : StopsAt k.area (target_of k) k.shut body stop shut old.past new.past
  pub counted : stop.count ≡ new.faults
  pub some : 0 < stop.count
