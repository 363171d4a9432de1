-- What the calls of the pieces ask, and what they keep: a record for each kind of call.
use Rattle.std.specs.Prelude.{ℕ, ◌≡◌, ◌+◌, ◌*◌, ◌<◌, ◌≤◌, ◌^◌, List, length}
use Rattle.tape_base.specs.declared.geometries.Geometry.{Geometry}
use Rattle.tape_base.specs.declared.pieces.PieceId.{PieceId}
use Rattle.logged_disk.specs.Device.{Affords, DeviceState as Device, IsAsked, Keeps, SeenStays, TellsAll}
use Rattle.logged_disk.specs.declared.device.Disk.{Ghosts as DiskGhosts}
use Rattle.dir_table.specs.declared.directory.Directory.{Ghosts as DirectoryGhosts}
use Rattle.power_cuts.specs.Surviving.{LeaveCopies}
use Rattle.cyclone.specs.Cyclone.{HasBuffer, SameButRoom, SameButRows, SameTape}
use Rattle.cache_model.specs.declared.record.Rec.{Rec}
use Rattle.cache_model.specs.Damage.{TellNoDamage}
use Rattle.cache_model.specs.Kept.{all_of, with_records}
use Rattle.cache_model.specs.Legal.{format_records}
use Rattle.cache_model.specs.State.{cursor_next}
use Rattle.stripe_copies.specs.Format.{IsLaidOut}
use Rattle.cache_chronicle.specs.declared.chronicle.Chronicle.{Ghosts as ChronicleGhosts}
use Rattle.cache_model.specs.Contents.{Contents}
use Rattle.stripe_actors.specs.Actors.{ActorsSeen, AreActors}
use Rattle.piece_answers.specs.declared.ahead.Ahead.{Ahead}
use Rattle.piece_answers.specs.declared.answer.Found.{Found}
use Rattle.stripe_pieces.specs.declared.pieces.Pieces.{Pieces}
use Rattle.piece_answers.specs.Ahead.{IsMadeFor}
use Rattle.piece_answers.specs.Covers.{Uses}
use Rattle.piece_answers.specs.Find.{Finds, find_adds}
use Rattle.stripe_pieces.specs.Pieces.{ArePieces, GoOn, GoOnWith, Stand, kept_now, seen_now, state_now}
use Rattle.held_pieces.specs.Still.{IsUnwritten}
use Rattle.stripe_pieces.specs.Units.{entries_of_unit, records_of_unit}

module _ {D R C : Type 0} {d : DiskGhosts D} {r : DirectoryGhosts R} {c : ChronicleGhosts C} where
  -- ---- what is asked

  -- the pieces are held, and there is memory for so many records and so many entries
  pub record ArePrepared (to_record to_enter : ℕ) (p : Pieces D R C d r c) : Type 0 where
    pub pieces : ArePieces p
    pub records : to_record ≤ c.room p.chronicle
    pub entries : to_enter ≤ (seen_now p).spare

  -- what a call asks that may flush: that too, actors in step, memory for what is copied ahead, and on the device one call for a buffer
  pub record MayBeFlushed (to_record to_enter : ℕ) (who : ActorsSeen) (memory : Ahead) (p : Pieces D R C d r c) : Type 0 where
    pub pieces : ArePieces p
    pub actors : AreActors (state_now p) who
    pub ahead : IsMadeFor (state_now p).geometry memory
    pub records : to_record ≤ c.room p.chronicle
    pub entries : to_enter ≤ (seen_now p).spare
    pub calls : 1 ≤ (seen_now p).device.calls
    pub blocks : (seen_now p).geometry.agg ≤ (seen_now p).device.blocks

  -- the buffer was written out, and this is where the next one begins
  pub record IsWrittenBefore (cursor : ℕ) (p : Pieces D R C d r c) : Type 0 where
    pub next : cursor ≡ cursor_next (state_now p)
    pub below : cursor < 2 ^ 62
    pub written : HasBuffer (seen_now p)

  -- ---- what is kept

  -- of a call that asks no device: what it uses up at most, and what is told of the pieces goes on to stand, where it tells this
  pub record AsksNoDevice (Told : Contents → Type 0) (recorded entered : ℕ) (old new : Pieces D R C d r c) : Type 0 where
    pub pieces : GoOnWith Told old new
    pub still : (seen_now new).device ≡ (seen_now old).device
    pub uses : Uses recorded entered 0 0 (c.room old.chronicle) (c.room new.chronicle) (seen_now old) (seen_now new)

  -- the same of one that adds these records
  pub record AddsRecords (Told : Contents → Type 0) (recs : List Rec) (recorded entered : ℕ) (old new : Pieces D R C d r c) : Type 0 where
    pub pieces : GoOnWith Told old new
    pub adds : kept_now new ≡ with_records (kept_now old) recs
    pub still : (seen_now new).device ≡ (seen_now old).device
    pub uses : Uses recorded entered 0 0 (c.room old.chronicle) (c.room new.chronicle) (seen_now old) (seen_now new)

  -- of a call that tells of pieces: it adds these records, and takes entries out alone
  pub record TellsOf (recs : List Rec) (old new : Pieces D R C d r c) : Type 0 where
    pub pieces : GoOn old new
    pub adds : kept_now new ≡ with_records (kept_now old) recs
    pub rest : SameButRows (seen_now old) (seen_now new)
    pub room : c.room old.chronicle ≤ c.room new.chronicle + length recs

  -- of a call that may flush, over memory that it gives back so, and that asks no device where it is idle
  pub record FlushesAtMost (Told : Contents → Type 0) (Idle : Type 0) (recorded entered : ℕ) (memory : Ahead) (old new : Pieces D R C d r c) : Type 0 where
    pub pieces : GoOnWith Told old new
    pub ahead : IsMadeFor (state_now old).geometry memory
    pub still : Idle → (seen_now new).device ≡ (seen_now old).device
    pub uses : Uses recorded entered 1 (seen_now old).geometry.agg (c.room old.chronicle) (c.room new.chronicle) (seen_now old) (seen_now new)

  -- of a call that reads the device, and records nothing
  pub record OnlyReads (old new : Pieces D R C d r c) : Type 0 where
    pub pieces : ArePieces new
    pub chronicle : new.chronicle ≡ old.chronicle
    pub same : SameTape (seen_now old) (seen_now new)
    pub asked : IsAsked (seen_now old).device (seen_now new).device
    pub leaves : LeaveCopies (seen_now old).geometry (seen_now old).device.past (seen_now new).device.past
    pub seen : SeenStays (seen_now old).device (seen_now new).device

  -- of a call that looks for a piece: what it found, and what it recorded where it found none
  pub record FindsPiece (id : PieceId) (answer : Found) (into : List ℕ) (old new : Pieces D R C d r c) : Type 0 where
    pub pieces : GoOn old new
    pub adds : kept_now new ≡ with_records (kept_now old) (find_adds (state_now old) id answer)
    pub finds : Finds (state_now old) (seen_now old) (seen_now new) id answer into
    -- a device that tells its content shows each piece as it was placed
    pub unharmed : TellsAll (seen_now new).device → TellNoDamage (find_adds (state_now old) id answer)
    pub unwritten : IsUnwritten (seen_now old).device (seen_now new).device
    pub uses : Uses 1 0 0 0 (c.room old.chronicle) (c.room new.chronicle) (seen_now old) (seen_now new)

  -- of a call that makes memory: nothing else has changed
  pub record OnlyGrows (old new : Pieces D R C d r c) : Type 0 where
    pub pieces : GoOn old new
    pub records : kept_now new ≡ kept_now old
    pub same : SameButRoom (seen_now old) (seen_now new)
    pub room : c.room old.chronicle ≤ c.room new.chronicle
    pub keeps : Keeps 0 0 (seen_now old).device (seen_now new).device

  -- ---- what comes of them

  -- a session has begun on a device that was laid out for it
  pub record IsFormatted (g : Geometry) (before : Device) (p : Pieces D R C d r c) : Type 0 where
    pub pieces : ArePieces p
    pub records : kept_now p ≡ all_of (format_records g)
    pub contents : (contents : Contents) → Stand contents p
    pub device : IsLaidOut g before (seen_now p).device

  -- there is memory for so many calls, and on the device for at least so many flushes
  pub record HasGrown (units flushes : ℕ) (old new : Pieces D R C d r c) : Type 0 where
    pub records : records_of_unit (seen_now old).geometry * units ≤ c.room new.chronicle
    pub spare : entries_of_unit (seen_now old).geometry * units ≤ (seen_now new).spare
    pub device : Affords flushes (flushes * (seen_now old).geometry.agg) (seen_now old).device (seen_now new).device
