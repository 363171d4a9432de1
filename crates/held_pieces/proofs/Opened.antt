-- A cyclone that goes on with what an opening found holds what that begins with.
use Rattle.std.proofs.Common.{◌≡◌, ℕ, ◌+◌, ◌<◌, ◌≤◌, ◌⊎◌, Bool, true, false, List, [], ◌∷◌, refl, sym, ◌∙◌, ap, arith, inl, inr}
use Rattle.std.specs.Prelude.{◌&&◌, map, max, nat_le, nat_lt}
use Rattle.std.specs.List.{AllByRecursion}
use Rattle.std.proofs.lemmas.Bool.{ltb-false}
use Rattle.tape_base.specs.declared.geometries.Geometry.{Geometry}
use Rattle.tape_base.specs.Place.{floor_of}
use Rattle.device_log.specs.Image.{Image}
use Rattle.logged_disk.specs.Device.{TellsAll, seen as content_of}
use Rattle.dir_table.specs.declared.rows.DirRow.{DirRow}
use Rattle.agg_buffer.specs.Buffer.{Buffer, filled_of}
use Rattle.cyclone.specs.Cyclone.{Seen, IsTurning}
use Rattle.cache_model.specs.declared.findings.FoundRow.{FoundRow}
use Rattle.cache_model.specs.State.{State, Row, after_all, floor_now, nothing_yet, row_of_found}
use Rattle.cache_model.specs.Opening.{Opening}
use Rattle.cache_model.specs.Openings.{IsFoundPiece, IsOpening, opened_records}
use Rattle.cache_model.specs.Tape.{AreRising, IsSound}
use Rattle.cache_model.proofs.Onward.{opening_is_sound}
use Rattle.held_pieces.specs.Held.{IsBuffered, IsHeld, IsInLap, IsIntactWhereWritten, entry_of_piece, times}
use Rattle.held_pieces.specs.Records.{HasFound, HasItsDigest}
use Rattle.held_pieces.proofs.Beginning.{none_new}
use Rattle.held_pieces.proofs.Counts.{is_between}
use Rattle.held_pieces.proofs.Entries.{kept}
use Rattle.held_pieces.proofs.Holding.{AreCounted, entered, none_behind}

-- where a row that is not below an end is none, the end leaves out none
below_by : (a b : Bool) (entries : ℕ) → (b ≡ false → entries ≡ 0) → kept (a && b) entries ≡ kept a entries
below_by true true entries none = refl
below_by true false entries none = sym (none refl)
below_by false b entries none = refl

kept_below : (floor end place entries : ℕ) → (end ≤ place → entries ≡ 0) → kept (is_between floor end place) entries ≡ kept (nat_le floor place) entries
kept_below floor end place entries none = below_by (nat_le floor place) (nat_lt place end) entries (λ e. none (ltb-false place end e))

found_in_lap : (g : Geometry) (o : Opening) (found : List FoundRow) → AllByRecursion (IsFoundPiece g o) found → AllByRecursion (IsInLap g) (map row_of_found found)
found_in_lap g o [] each = tt
found_in_lap g o (f ∷ found) each = (record { small = each.0.small; within = each.0.lap }, found_in_lap g o found each.1)

module _ (packed : Bool) (g : Geometry) (o : Opening) (c : Seen) (opening : IsOpening packed g o) (has : HasFound g o c) (turning : IsTurning c) where
  abbrev begun : State
  begun = after_all nothing_yet (opened_records g o)

  abbrev rows : List Row
  rows = map row_of_found o.found

  sound : IsSound begun
  sound = opening_is_sound packed g o opening

  cursor_is : c.buffer.cursor ≡ o.cursor
  cursor_is = ap (λ (b : Buffer). b.cursor) has.buffer

  floor_is_that : c.window.floor ≡ floor_now begun
  floor_is_that =
      turning.floor
      ∙ (ap (λ n. max n (floor_of c.geometry c.buffer.cursor)) has.least
      ∙ (ap (λ (x : Geometry). max o.floor (floor_of x c.buffer.cursor)) has.geometry ∙ ap (λ n. max o.floor (floor_of g n)) cursor_is))

  count_at : (x : DirRow) → kept (is_between c.window.floor c.window.end x.place) (times x c.rows) ≡ kept (nat_le (floor_now begun) x.place) (times x (map (entry_of_piece g) rows))
  count_at x =
      kept_below c.window.floor c.window.end x.place (times x c.rows) (none_behind c x turning)
      ∙ (ap (λ f. kept (nat_le f x.place) (times x c.rows)) floor_is_that
      ∙ ap (kept (nat_le (floor_now begun) x.place)) (has.entries x))

  counts : AreCounted begun c
  counts = record { each = count_at }

  all_intact : (image : Image) (low : ℕ) (these : List Row) → AreRising low these o.cursor → AllByRecursion (HasItsDigest g image) these
      → AllByRecursion (IsIntactWhereWritten begun image) these
  all_intact image low [] rising stand = tt
  all_intact image low (row ∷ these) rising stand =
      (λ from below. record { ends = rising.2; digest = stand.0 }, all_intact image (row.place + 1) these rising.3 stand.1)

  pub opened_is_held_here : IsHeld begun c
  opened_is_held_here = record {
    turning = turning;
    sound = sound;
    geometry = has.geometry;
    cursor = cursor_is;
    filled = ap filled_of has.buffer;
    entered = entered begun c counts;
    buffered = none_new (IsBuffered c.buffer) c.buffer.cursor (max g.content o.floor) o.cursor rows opening.rising (omega (arith, cursor_is));
    intact = λ told. all_intact (content_of c.device) (max g.content o.floor) rows opening.rising (has.stand told);
    laps = found_in_lap g o o.found opening.each;
    faults = omega arith;
    least = has.least;
  }

pub opened_is_held : (packed : Bool) (g : Geometry) (o : Opening) (c : Seen) → IsOpening packed g o → HasFound g o c → IsTurning c
    → IsHeld (after_all nothing_yet (opened_records g o)) c
opened_is_held packed g o c opening has turning = opened_is_held_here packed g o c opening has turning
