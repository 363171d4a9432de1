-- A unit of memory is what a call of the pieces asks for.
use Rattle.std.proofs.Common.{◌≡◌, ℕ, ◌+◌, ◌-◌, ◌*◌, ◌≤◌, ap, subst, arith, Result, Ok, Err}
use Rattle.std.specs.Prelude.{OnOk}
use Rattle.logged_disk.specs.Device.{Affords}
use Rattle.logged_disk.specs.declared.device.Disk.{Ghosts as DiskGhosts}
use Rattle.dir_table.specs.declared.directory.Directory.{Ghosts as DirectoryGhosts}
use Rattle.cache_chronicle.specs.declared.chronicle.Chronicle.{Ghosts as ChronicleGhosts}
use Rattle.stripe_actors.specs.Actors.{ActorsSeen, AreActors}
use Rattle.piece_answers.specs.declared.ahead.Ahead.{Ahead}
use Rattle.stripe_pieces.specs.declared.pieces.Pieces.{Pieces}
use Rattle.piece_answers.specs.Ahead.{IsMadeFor}
use Rattle.stripe_pieces.specs.Calls.{ArePrepared, HasGrown, MayBeFlushed}
use Rattle.stripe_pieces.specs.Pieces.{ArePieces, seen_now, state_now}
use Rattle.stripe_pieces.specs.Units.{entries_of_unit, records_of_unit}
use Rattle.stripe_core.specs.Stripe.{IsSpared}
use Rattle.stripe_core.proofs.Doings.{before_last}

one_of_them : (most units room : ℕ) → most * (units + 1) ≤ room → most ≤ room
one_of_them most units room h = let product : most * (units + 1) ≡ most * units + most = omega arith in omega (arith, product, h)

one_before : (flushes agg blocks : ℕ) → 1 ≤ flushes → flushes * agg ≤ blocks → agg ≤ blocks
one_before flushes agg blocks some h =
    let last : flushes ≡ flushes - 1 + 1 = omega (arith, some) in
    let product : (flushes - 1 + 1) * agg ≡ (flushes - 1) * agg + agg = omega arith in
    let whole : flushes * agg ≡ (flushes - 1 + 1) * agg = ap (λ n. n * agg) last in
    omega (arith, whole, product, h)

module _ {D R C : Type 0} {d : DiskGhosts D} {r : DirectoryGhosts R} {c : ChronicleGhosts C} (p : Pieces D R C d r c) (units flushes records entries : ℕ)
    (held : ArePieces p) (spared : IsSpared (units + 1) flushes (c.room p.chronicle) (seen_now p))
    (many : records ≤ records_of_unit (state_now p).geometry) (few : entries ≤ entries_of_unit (state_now p).geometry) where
  enough_records : records ≤ c.room p.chronicle
  enough_records =
      let same : records_of_unit (seen_now p).geometry ≡ records_of_unit (state_now p).geometry = ap records_of_unit held.geometry in
      let one = one_of_them (records_of_unit (seen_now p).geometry) units (c.room p.chronicle) spared.for_records in
      omega (arith, same, one, many)

  enough_entries : entries ≤ (seen_now p).spare
  enough_entries =
      let same : entries_of_unit (seen_now p).geometry ≡ entries_of_unit (state_now p).geometry = ap entries_of_unit held.geometry in
      let one = one_of_them (entries_of_unit (seen_now p).geometry) units (seen_now p).spare spared.entries in
      omega (arith, same, one, few)

  pub ready_with : ArePrepared records entries p
  ready_with = record { pieces = held; records = enough_records; entries = enough_entries }

  pub ready_to_flush : (who : ActorsSeen) (memory : Ahead) → AreActors (state_now p) who → IsMadeFor (state_now p).geometry memory → MayBeFlushed records entries who memory p
  ready_to_flush who memory actors made = record {
    pieces = held;
    actors = actors;
    ahead = made;
    records = enough_records;
    entries = enough_entries;
    calls = omega (arith, spared.one_each, spared.calls);
    blocks = one_before flushes (seen_now p).geometry.agg (seen_now p).device.blocks (omega (arith, spared.one_each)) spared.blocks;
  }

-- so is the last one of some
pub one_record_ready : {D R C : Type 0} {d : DiskGhosts D} {r : DirectoryGhosts R} {c : ChronicleGhosts C} (p : Pieces D R C d r c) (units flushes : ℕ) → ArePieces p → 1 ≤ units
    → IsSpared units flushes (c.room p.chronicle) (seen_now p) → ArePrepared 1 0 p
one_record_ready {c = c} p units flushes held some spared =
    ready_with p (units - 1) flushes 1 0 held (subst (λ n. IsSpared n flushes (c.room p.chronicle) (seen_now p)) (before_last units some) spared) (omega arith) (omega arith)

-- the device's room, of what was made
pub grown_device : {X E D R C : Type 0} {d : DiskGhosts D} {r : DirectoryGhosts R} {c : ChronicleGhosts C} (result : Result X E) (units flushes : ℕ) (old new : Pieces D R C d r c)
    → OnOk result (HasGrown units flushes old new) → OnOk result (Affords flushes (flushes * (seen_now old).geometry.agg) (seen_now old).device (seen_now new).device)
grown_device (Ok x) units flushes old new h = h.device
grown_device (Err e) units flushes old new h = tt
