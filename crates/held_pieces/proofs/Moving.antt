-- A piece that is copied into the buffer stays held: there is a slot for its entry, so that this displaces nothing.
use Rattle.std.proofs.Common.{◌≡◌, ℕ, ◌+◌, ◌*◌, ◌/◌, ◌<◌, ◌≤◌, List, [], ◌∷◌, refl, sym, ◌∙◌, ap, subst, arith, Bool, true, false, length}
use Rattle.std.specs.Prelude.{map, ◌&&◌, MatchBool, Some, None, IsPermutation, nat_le}
use Rattle.std.specs.List.{AllByRecursion}
use Rattle.std.proofs.lemmas.Bool.{le-leb, lt-leb}
use Rattle.tape_base.specs.declared.pieces.PieceId.{PieceId}
use Rattle.tape_base.specs.declared.digests.Digest.{Digest}
use Rattle.tape_base.specs.Piece.{key_of_piece}
use Rattle.tape_base.specs.Place.{lap_end_of}
use Rattle.doc_header.specs.Moving.{moved_to}
use Rattle.doc_header.specs.Reading.{document_digest}
use Rattle.doc_header.proofs.MovingLaws.{moves_keep_lem}
use Rattle.dir_table.specs.declared.rows.DirRow.{DirRow}
use Rattle.dir_table.specs.declared.window.Window.{Window}
use Rattle.dir_table.specs.Displacement.{Displacement, Displaces, IsPurge, NoneGoes, is_full}
use Rattle.dir_table.specs.Rows.{has_row, row_of_key}
use Rattle.agg_buffer.specs.Buffer.{Buffer, blocks_in, bytes_at, filled_of, next_place_of}
use Rattle.logged_disk.specs.Device.{DeviceState as Device, TellsAll, seen as content_of}
use Rattle.cyclone.specs.Cyclone.{IsMoved, IsTurning, Seen, row_of_piece}
use Rattle.alternate_vector.proofs.Loops.{each_push}
use Rattle.cache_model.specs.State.{Row, State, floor_now, moved_row, only_live, place_now, row_in, state_after, without}
use Rattle.cache_model.specs.Tape.{IsSound}
use Rattle.cache_model.specs.Outcomes.{Copy}
use Rattle.cache_model.proofs.Copies.{all_copied, copied_by}
use Rattle.cache_model.proofs.Laps.{lap-is}
use Rattle.cache_model.proofs.Lists.{found_row, own_piece}
use Rattle.held_pieces.specs.Held.{IsBufferedWhereNew, IsHeld, IsInLap, IsIntactWhereWritten, entry_of_piece, same_entry, times}
use Rattle.held_pieces.specs.Records.{IsMovable, moved_to_here}
use Rattle.held_pieces.proofs.Intact.{each_same_intact}
use Rattle.held_pieces.proofs.Entries.{kept, one_more, same_entry-true, times-permutation}
use Rattle.held_pieces.proofs.Counts.{is_between, more_between}
use Rattle.held_pieces.proofs.Holding.{AreCounted, counted, end_is, entered, floor_is, none_behind}
use Rattle.held_pieces.proofs.Placements.{count_behind, kept_more, nothing_goes, still_buffered}
use Rattle.held_pieces.proofs.Going.{all_left, same_live, unseen_by}
use Rattle.held_pieces.proofs.Lives.{within}
use Rattle.held_pieces.proofs.Slotted.{slot_free}

-- ---- rows from which one may have been taken

taken_by : (b : Bool) (e x : DirRow) (rows left : List DirRow) → MatchBool b (IsPermutation rows (e ∷ left)) (left ≡ rows)
    → times x rows ≡ one_more (b && same_entry e x) (times x left)
taken_by true e x rows left h = sym (times-permutation x rows (e ∷ left) h)
taken_by false e x rows left h = ap (times x) (sym h)

-- where the row that was taken is not seen, as many are seen as before
seen_by : (b a it : Bool) (n m : ℕ) → n ≡ one_more (a && it) m → (it ≡ true → b ≡ false) → kept b m ≡ kept b n
seen_by b true it n m h unseen = sym (ap (kept b) h ∙ unseen_by b it m unseen)
seen_by b false it n m h unseen = ap (kept b) (sym h)

-- where none stood, none is left
none_by : (g : Bool) (n m : ℕ) → n ≡ one_more g m → n ≡ 0 → m ≡ 0
none_by true n m h none = omega arith
none_by false n m h none = sym h ∙ none

-- a place below the floor is out of range
low_is_out : (low high place : ℕ) → place < low → is_between low high place ≡ false
low_is_out low high place h = rw (lt-leb low place h) refl

-- ---- what the entry displaces

-- nothing, where a directory that displaces has a slot for it
none_goes : (packed : Bool) (w : Window) (row : DirRow) (left gone : List DirRow) (d : Displacement) → Displaces packed w row left gone d
    → (packed ≡ true → is_full w row left ≡ false) → gone ≡ []
none_goes false w row left gone d h free = h.none
none_goes true w row left gone d h free = (subst (λ b. MatchBool b (IsPurge w row left gone d) (NoneGoes gone d)) (free refl) h).none

-- ---- the copy

-- so many blocks are whole in bytes of that length
whole_blocks : (n blocks : ℕ) → n ≡ 512 * blocks → n / 512 ≡ blocks
whole_blocks n blocks h = omega arith

-- a row below the floor is not live
not_live : (s : State) (row : Row) → row.place < floor_now s → only_live s row ≡ None
not_live s row h = rw (lt-leb (floor_now s) row.place h) refl

module _ (packed : Bool) (s : State) (c new : Seen) (id : PieceId) (row : Row) (bytes : List ℕ)
    (held : IsHeld s c) (movable : IsMovable packed s id row bytes) (moved : IsMoved packed c new id row.place bytes) (turning : IsTurning new) where
  abbrev digest : Digest
  digest = document_digest (moved_to (place_now s) bytes)

  abbrev copy : Row
  copy = moved_row (place_now s) digest row

  abbrev others : List Row
  others = without id s.rows

  abbrev after : State
  after = copied_by s id (place_now s) digest (Some row)

  abbrev entry : DirRow
  entry = entry_of_piece s.geometry copy

  -- a piece that stands is not empty
  some : 0 < row.blocks
  some = (found_row (λ (r : Row). (0 < r.blocks) × (r.place + r.blocks ≤ place_now s)) id s.rows row (within id s.geometry.content (place_now s) s.rows held.sound.rising) movable.found).0

  own_id : row.id ≡ id
  own_id = own_piece id s.rows row movable.found

  -- ---- the buffer

  next_is : next_place_of c.buffer ≡ place_now s
  next_is = sym held.turning.end ∙ end_is s c held

  as_long : length (moved_to (next_place_of c.buffer) bytes) ≡ 512 * row.blocks
  as_long = (moves_keep_lem (next_place_of c.buffer) bytes (omega (arith, movable.sized, some))).as_many ∙ movable.sized

  size_is : blocks_in (moved_to (next_place_of c.buffer) bytes) ≡ row.blocks
  size_is = whole_blocks (length (moved_to (next_place_of c.buffer) bytes)) row.blocks as_long

  same_cursor : new.buffer.cursor ≡ c.buffer.cursor
  same_cursor = ap (λ (b : Buffer). b.cursor) moved.buffer.behind

  further : next_place_of new.buffer ≡ next_place_of c.buffer + row.blocks
  further = moved.buffer.next ∙ ap (λ n. next_place_of c.buffer + n) size_is

  filled_is : filled_of new.buffer ≡ s.filled + row.blocks
  filled_is = omega (arith, further, same_cursor, held.filled)

  floor_same : new.window.floor ≡ c.window.floor
  floor_same = ap (λ (w : Window). w.floor) moved.window

  end_further : new.window.end ≡ c.window.end + row.blocks
  end_further = ap (λ (w : Window). w.end) moved.window ∙ (further ∙ ap (λ n. n + row.blocks) (sym held.turning.end))

  low_end : c.window.floor ≤ c.window.end
  low_end = omega (arith, held.turning.floor, held.turning.end)

  -- ---- its entry

  entry_is : row_of_piece c id (next_place_of c.buffer) ≡ entry
  entry_is =
      ap (λ g. row_of_key g (key_of_piece id) (next_place_of c.buffer)) held.geometry
      ∙ (ap (λ p. row_of_key s.geometry (key_of_piece id) p) next_is ∙ ap (λ i. row_of_key s.geometry (key_of_piece i) (place_now s)) (sym own_id))

  abbrev old_entry : DirRow
  old_entry = row_of_piece c id row.place

  nothing : moved.gone ≡ []
  nothing = none_goes packed c.window (row_of_piece c id (next_place_of c.buffer)) moved.left moved.gone new.displaced moved.displaced
      (λ on. slot_free s c id row (next_place_of c.buffer) moved.left held movable.found movable.passed moved.taken (movable.slot on))

  taken : (x : DirRow) → times x c.rows ≡ one_more (has_row old_entry c.rows && same_entry old_entry x) (times x moved.left)
  taken x = taken_by (has_row old_entry c.rows) old_entry x c.rows moved.left moved.taken

  entries_are : (x : DirRow) → times x new.rows ≡ one_more (same_entry entry x) (times x moved.left)
  entries_are x =
      times-permutation x (row_of_piece c id (next_place_of c.buffer) ∷ moved.rows.left) new.rows moved.rows.entered
      ∙ (ap (λ e. times x (e ∷ moved.rows.left)) entry_is
      ∙ ap (one_more (same_entry entry x)) (nothing_goes x moved.gone moved.rows.left moved.left nothing moved.rows.parted))

  -- what was in range is what it was, as the old entry was not
  count_left : (x : DirRow) → kept (is_between c.window.floor c.window.end x.place) (times x moved.left) ≡ kept (nat_le c.window.floor x.place) (times x (map (entry_of_piece s.geometry) others))
  count_left x =
      let start : c.window.floor ≡ floor_now s = floor_is s c held in
      let out : same_entry old_entry x ≡ true → is_between c.window.floor c.window.end x.place ≡ false = λ e.
      let at : row.place ≡ x.place = ap (λ (r : DirRow). r.place) (same_entry-true old_entry x e) in
      low_is_out c.window.floor c.window.end x.place (omega (arith, at, start, movable.passed)) in
      seen_by (is_between c.window.floor c.window.end x.place) (has_row old_entry c.rows) (same_entry old_entry x) (times x c.rows) (times x moved.left) (taken x) out
      ∙ ((counted s c held.entered).each x
      ∙ (sym (same_live s id x (Some row) movable.found held.sound.apart (not_live s row movable.passed))
      ∙ ap (λ f. kept (nat_le f x.place) (times x (map (entry_of_piece s.geometry) others))) (sym start)))

  -- and none stands behind the end
  none_left : (x : DirRow) → c.window.end ≤ x.place → times x moved.left ≡ 0
  none_left x high =
      none_by (has_row old_entry c.rows && same_entry old_entry x) (times x c.rows) (times x moved.left) (taken x) (none_behind c x held.turning high)

  count_at : (x : DirRow) → kept (is_between new.window.floor new.window.end x.place) (times x new.rows) ≡ kept (nat_le (floor_now s) x.place) (times x (map (entry_of_piece s.geometry) after.rows))
  count_at x =
      let pieces : ℕ = times x (map (entry_of_piece s.geometry) others) in
      let it : Bool = same_entry entry x in
      let start : c.window.floor ≡ floor_now s = floor_is s c held in
      let at : it ≡ true → x.place ≡ c.window.end = λ e. ap (λ (r : DirRow). r.place) (sym (same_entry-true entry x e)) ∙ sym (end_is s c held) in
      let more : kept (is_between c.window.floor (c.window.end + row.blocks) x.place) (one_more it (times x moved.left)) ≡ one_more it (kept (nat_le c.window.floor x.place) pieces) =
      more_between c.window.floor c.window.end (c.window.end + row.blocks) x.place (times x moved.left) pieces it low_end (omega (arith, some)) (none_left x) at (count_left x) in
      let above : it ≡ true → nat_le c.window.floor x.place ≡ true = λ e. let same : x.place ≡ c.window.end = at e in le-leb c.window.floor x.place (omega (arith, low_end, same)) in
      rw (floor_same, end_further, entries_are x, count_behind s.geometry others copy x, sym start)
      (more ∙ sym (kept_more (nat_le c.window.floor x.place) it pieces above))

  counts : AreCounted after new
  counts = record { each = count_at }

  -- ---- its document

  own_bytes : bytes_at new.buffer (place_now s) row.blocks ≡ moved_to (place_now s) bytes
  own_bytes =
      ap (λ p. bytes_at new.buffer p row.blocks) (sym next_is)
      ∙ (ap (λ n. bytes_at new.buffer (next_place_of c.buffer) n) (sym size_is)
      ∙ (moved.buffer.readable ∙ ap (λ p. moved_to p bytes) next_is))

  own_buffered : IsBufferedWhereNew new.buffer copy
  own_buffered = λ above. record {
    filled = record { from = above; within = omega (arith, further, next_is) };
    digest = ap document_digest own_bytes;
  }

  -- the piece stands in the lap of its buffer
  same_lap : lap_end_of s.geometry (place_now s) ≡ lap_end_of s.geometry s.cursor
  same_lap =
      ap (λ n. s.geometry.content * (n + 1))
      (lap-is s.geometry.content (s.cursor / s.geometry.content) (place_now s) (omega arith) (omega (arith, some, movable.room, held.sound.lap)))

  in_lap : IsInLap s.geometry copy
  in_lap =
      let old : IsInLap s.geometry row = found_row (IsInLap s.geometry) id s.rows row held.laps movable.found in
      record { small = old.small; within = omega (arith, same_lap, movable.room, held.sound.lap) }

  -- it is in the buffer
  not_written : IsIntactWhereWritten after (content_of c.device) copy
  not_written = λ low below. absurd (omega (arith, below))

  -- ---- the record

  after_is : state_after s (moved_to_here s id row bytes) ≡ after
  after_is = ap (copied_by s id (place_now s) digest) movable.found

  -- it is a copy as a flush makes one
  sound_own : IsSound (state_after s (moved_to_here s row.id row bytes))
  sound_own =
      let found : row_in s.rows row.id ≡ Some row = ap (row_in s.rows) own_id ∙ movable.found in
      let one : Copy = record { row = row; bytes = bytes } in
      (all_copied s (one ∷ []) held.sound (tt, tt) ((found, some), tt) (omega (arith, movable.room))).later.sound

  sound_after : IsSound after
  sound_after = subst IsSound after_is (subst (λ i. IsSound (state_after s (moved_to_here s i row bytes))) own_id sound_own)

  copied_is_held : IsHeld after new
  copied_is_held = record {
    turning = turning;
    sound = sound_after;
    geometry = moved.geometry ∙ held.geometry;
    cursor = same_cursor ∙ held.cursor;
    filled = filled_is;
    entered = entered after new counts;
    buffered =
        each_push (IsBufferedWhereNew new.buffer) others copy
        (still_buffered c.buffer new.buffer (moved_to (next_place_of c.buffer) bytes) others moved.buffer same_cursor (all_left (IsBufferedWhereNew c.buffer) id s.rows held.buffered))
        own_buffered;
    intact = subst (λ (d : Device). TellsAll d → AllByRecursion (IsIntactWhereWritten after (content_of d)) after.rows) (sym moved.device)
        (λ told. each_push (IsIntactWhereWritten after (content_of c.device)) others copy
        (each_same_intact s after (content_of c.device) others refl refl refl (all_left (IsIntactWhereWritten s (content_of c.device)) id s.rows (held.intact told))) not_written);
    laps = each_push (IsInLap s.geometry) others copy (all_left (IsInLap s.geometry) id s.rows held.laps) in_lap;
    faults = subst (λ n. s.fault ≤ n) (sym (ap (λ (d : Device). d.faults) moved.device)) held.faults;
    least = moved.least ∙ held.least;
  }

  pub moved_is_held : IsHeld (state_after s (moved_to_here s id row bytes)) new
  moved_is_held = subst (λ t. IsHeld t new) (sym after_is) copied_is_held
