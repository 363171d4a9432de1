-- Where the next buffer begins, what may still be read stays held.
use Rattle.std.proofs.Common.{◌≡◌, ℕ, ◌+◌, ◌<◌, ◌≤◌, ◌⊎◌, List, [], ◌∷◌, sym, ◌∙◌, ap, subst, arith, inl, inr}
use Rattle.std.specs.Prelude.{map, nat_le}
use Rattle.std.specs.List.{AllByRecursion}
use Rattle.tape_base.specs.Place.{block_of}
use Rattle.device_log.specs.Image.{span}
use Rattle.logged_disk.specs.Device.{DeviceState as Device, TellsAll, seen as content_of}
use Rattle.doc_header.specs.Reading.{document_digest}
use Rattle.dir_table.specs.declared.rows.DirRow.{DirRow}
use Rattle.dir_table.specs.declared.window.Window.{Window}
use Rattle.dir_table.specs.Wrap.{rows_at_or_above}
use Rattle.agg_buffer.specs.Buffer.{Buffer, bytes_at, filled_of}
use Rattle.cyclone.specs.Cyclone.{Seen, IsTurning, BeginsNext, next_buffer_cursor as cursor_behind, next_floor as floor_behind}
use Rattle.cache_model.specs.declared.record.Rec.TheVariants as rec
use Rattle.cache_model.specs.State.{State, Row, cursor_next, floor_next, floor_now, place_now, state_after}
use Rattle.cache_model.specs.Tape.{AreRising}
use Rattle.cache_model.proofs.Laps.{next_above}
use Rattle.cache_model.proofs.Sound.{later_began}
use Rattle.held_pieces.specs.Records.{IsWrittenOut}
use Rattle.held_pieces.proofs.Intact.{written_intact}
use Rattle.held_pieces.specs.Held.{IsBuffered, IsBufferedWhereNew, IsHeld, IsIntactWhereWritten, entry_of_piece, times}
use Rattle.held_pieces.proofs.Entries.{kept, times-filter, times-permutation}
use Rattle.held_pieces.proofs.Counts.{is_between, later_between}
use Rattle.held_pieces.proofs.Holding.{AreCounted, counted, end_is, entered, floor_is, next_floor_is, next_is, none_behind}

-- no piece stands at or behind the next buffer
pub none_new : (P : Row → Type 0) (cursor low high : ℕ) (rows : List Row) → AreRising low rows high → high ≤ cursor
    → AllByRecursion (λ row. cursor ≤ row.place → P row) rows
none_new P cursor low high [] r h = tt
none_new P cursor low high (row ∷ rows) r h =
    let ends : row.place + row.blocks ≤ high = r.2 in
    let some : 0 < row.blocks = r.1 in
    (λ above. absurd (omega (arith, ends, some, h, above)), none_new P cursor (row.place + 1) high rows r.3 h)

-- on one side of a place or on the other
pub either_side : (a b : ℕ) → ((a ≤ b) ⊎ (b < a))
either_side a b = grind arith

-- ---- what was written

pub next_behind : (s : State) (c : Seen) → IsHeld s c → place_now s ≤ cursor_next s
next_behind s c held = next_above s.geometry s.cursor s.filled held.sound.room held.sound.lap

-- what holds of the bytes of a piece that was written before, or of one that this buffer wrote, holds of those that stand there
pub was_intact : (P : List ℕ → Type 0) (s : State) (c : Seen) (row : Row) → IsHeld s c → IsWrittenOut c → 0 < row.blocks
    → (floor_now s ≤ row.place → row.place < s.cursor → P (span (content_of c.device) (block_of s.geometry row.place) row.blocks))
    → IsBufferedWhereNew c.buffer row → (c.buffer.cursor ≤ row.place → P (bytes_at c.buffer row.place row.blocks))
    → floor_next s ≤ row.place → P (span (content_of c.device) (block_of s.geometry row.place) row.blocks)
was_intact P s c row held out some written buffered new low = by (either_side s.cursor row.place)
  where
    by : ((s.cursor ≤ row.place) ⊎ (row.place < s.cursor)) → P (span (content_of c.device) (block_of s.geometry row.place) row.blocks)
    by (inl above) =
        let from : c.buffer.cursor ≤ row.place = let same : c.buffer.cursor ≡ s.cursor = held.cursor in omega (arith, same, above) in
        subst (λ g. P (span (content_of c.device) (block_of g row.place) row.blocks)) held.geometry
        (written_intact P c.geometry c.buffer (content_of c.device) row held.turning.few held.turning.lap out.whole out.written some
        (buffered from).filled (new from))
    by (inr below) = written (let behind = next_behind s c held in omega (arith, low, behind)) below

-- ---- the next buffer

module _ (s : State) (c new : Seen) (held : IsHeld s c) (out : IsWrittenOut c) (begins : BeginsNext c new) (turning : IsTurning new) where
  abbrev after : State
  after = state_after s (rec.Began (cursor_next s) (floor_next s))

  cursor_is : cursor_behind c ≡ cursor_next s
  cursor_is = next_is s c held

  behind : place_now s ≤ cursor_next s
  behind = next_behind s c held

  new_cursor : new.buffer.cursor ≡ cursor_next s
  new_cursor = ap (λ (b : Buffer). b.cursor) begins.buffer ∙ cursor_is

  new_filled : filled_of new.buffer ≡ 0
  new_filled = ap filled_of begins.buffer

  low_same : floor_behind c ≡ floor_next s
  low_same = next_floor_is s c held

  new_floor : new.window.floor ≡ floor_next s
  new_floor = ap (λ (w : Window). w.floor) begins.window ∙ low_same

  new_end : new.window.end ≡ cursor_next s
  new_end = ap (λ (w : Window). w.end) begins.window ∙ cursor_is

  abbrev low : ℕ
  low = floor_behind c

  low_is : low ≤ floor_next s
  low_is = omega (arith, low_same)

  entries_are : (x : DirRow) → times x new.rows ≡ kept (nat_le low x.place) (times x c.rows)
  entries_are x = times-permutation x (rows_at_or_above low c.rows) new.rows begins.rows ∙ times-filter (nat_le low) x c.rows

  count_at : (x : DirRow) → kept (is_between new.window.floor new.window.end x.place) (times x new.rows) ≡ kept (nat_le (floor_now after) x.place) (times x (map (entry_of_piece s.geometry) s.rows))
  count_at x =
      let pieces : ℕ = times x (map (entry_of_piece s.geometry) s.rows) in
      let start : c.window.floor ≡ floor_now s = floor_is s c held in
      let old : kept (is_between c.window.floor c.window.end x.place) (times x c.rows) ≡ kept (nat_le c.window.floor x.place) pieces =
      (counted s c held.entered).each x ∙ ap (λ f. kept (nat_le f x.place) pieces) (sym start) in
      let up : c.window.floor ≤ floor_next s = omega (arith, start, behind) in
      let on : c.window.end ≤ cursor_next s = omega (arith, end_is s c held, behind) in
      rw (new_floor, new_end, entries_are x)
      (later_between c.window.floor (floor_next s) c.window.end (cursor_next s) low x.place (times x c.rows) pieces up low_is on (none_behind c x held.turning) old)

  counts : AreCounted after new
  counts = record { each = count_at }

  all_intact : (low : ℕ) (rows : List Row) → AreRising low rows (place_now s) → AllByRecursion (IsIntactWhereWritten s (content_of c.device)) rows
      → AllByRecursion (IsBufferedWhereNew c.buffer) rows → AllByRecursion (IsIntactWhereWritten after (content_of c.device)) rows
  all_intact low [] rising written buffered = tt
  all_intact low (row ∷ rows) rising written buffered =
      let ends : row.place + row.blocks ≤ place_now s = rising.2 in (
        λ from below. record {
          ends = omega (arith, ends, behind);
          digest = was_intact (λ bytes. document_digest bytes ≡ row.digest) s c row held out rising.1
              (λ from below. (written.0 from below).digest) buffered.0 (λ new. (buffered.0 new).digest) from;
        },
        all_intact (row.place + 1) rows rising.3 written.1 buffered.1,
      )

  begun_is_held_here : IsHeld after new
  begun_is_held_here = record {
    turning = turning;
    sound = (later_began s held.sound).sound;
    geometry = begins.geometry ∙ held.geometry;
    cursor = new_cursor;
    filled = new_filled;
    entered = entered after new counts;
    buffered = none_new (IsBuffered new.buffer) new.buffer.cursor s.geometry.content (place_now s) s.rows held.sound.rising
        (omega (arith, new_cursor, behind));
    intact = subst (λ (d : Device). TellsAll d → AllByRecursion (IsIntactWhereWritten after (content_of d)) s.rows) (sym begins.device)
        (λ told. all_intact s.geometry.content s.rows held.sound.rising (held.intact told) held.buffered);
    laps = held.laps;
    faults = subst (λ n. s.fault ≤ n) (sym (ap (λ (d : Device). d.faults) begins.device)) held.faults;
    least = begins.least ∙ held.least;
  }

pub begun_is_held : (s : State) (c new : Seen) → IsHeld s c → IsWrittenOut c → BeginsNext c new → IsTurning new
    → IsHeld (state_after s (rec.Began (cursor_next s) (floor_next s))) new
begun_is_held s c new held out begins turning = begun_is_held_here s c new held out begins turning
