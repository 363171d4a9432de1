-- A piece that is placed stays held.
use Rattle.std.proofs.Common.{◌≡◌, ℕ, ◌+◌, ◌*◌, ◌/◌, ◌<◌, ◌≤◌, List, [], ◌∷◌, ◌++◌, refl, sym, ◌∙◌, ap, subst, arith, Bool, true, false, cond, length}
use Rattle.std.specs.Prelude.{not, if◌then◌else◌, map, Some, None, nat_le, IsPermutation}
use Rattle.std.specs.List.{AllByRecursion}
use Rattle.std.proofs.lemmas.Bool.{le-leb}
use Rattle.tape_base.specs.declared.geometries.Geometry.{Geometry}
use Rattle.tape_base.specs.declared.pieces.PieceId.{PieceId}
use Rattle.tape_base.specs.declared.digests.Digest.{Digest}
use Rattle.tape_base.specs.Piece.{key_of_piece, same_piece}
use Rattle.tape_base.specs.Blocks.{blocks_of}
use Rattle.tape_base.specs.Place.{lap_end_of}
use Rattle.doc_header.specs.declared.documents.Doc.{Doc}
use Rattle.doc_header.specs.Document.{document_bytes}
use Rattle.doc_header.specs.Reading.{document_digest}
use Rattle.dir_table.specs.declared.rows.DirRow.{DirRow}
use Rattle.dir_table.specs.declared.window.Window.{Window}
use Rattle.dir_table.specs.Rows.{row_of_key}
use Rattle.agg_buffer.specs.Buffer.{Buffer, AddsPiece, blocks_in, bytes_at, filled_of, next_place_of}
use Rattle.logged_disk.specs.Device.{DeviceState as Device, TellsAll, seen as content_of}
use Rattle.cyclone.specs.Cyclone.{Seen, IsTurning}
use Rattle.alternate_vector.proofs.Loops.{each_push}
use Rattle.cache_model.specs.declared.record.Rec.TheVariants as rec
use Rattle.cache_model.specs.State.{State, Row, floor_now, place_now, placed_row, row_in, state_after, without}
use Rattle.cache_model.specs.Tape.{IsSound}
use Rattle.cache_model.proofs.Laps.{lap-is}
use Rattle.cache_model.proofs.Sound.{later_placed}
use Rattle.held_pieces.specs.Records.{IsPlaceable}
use Rattle.held_pieces.specs.Held.{IsBuffered, IsBufferedWhereNew, IsHeld, IsInLap, IsIntactWhereWritten, entry_of_piece, same_entry, times}
use Rattle.held_pieces.proofs.Intact.{each_same_intact}
use Rattle.held_pieces.proofs.Entries.{kept, one_more, times-append, times-permutation, same_entry-true}
use Rattle.held_pieces.proofs.Counts.{is_between, more_between}
use Rattle.held_pieces.proofs.Holding.{AreCounted, counted, end_is, entered, floor_is, none_behind}

-- ---- a piece that does not stand

left_by : (id : PieceId) (row : Row) (rows : List Row) (b : Bool) → same_piece row.id id ≡ b → (if b then Some row else row_in rows id) ≡ None
    → (row_in rows id ≡ None → without id rows ≡ rows) → cond (not b) (row ∷ without id rows) (without id rows) ≡ row ∷ rows
left_by id row rows true e h rest = cc
left_by id row rows false e h rest = ap (λ xs. row ∷ xs) (rest h)

pub without-none : (id : PieceId) (rows : List Row) → row_in rows id ≡ None → without id rows ≡ rows
without-none id [] h = refl
without-none id (row ∷ rows) h = left_by id row rows (same_piece row.id id) refl h (without-none id rows)

-- ---- counts

entries_append : (g : Geometry) (rows : List Row) (row : Row) → map (entry_of_piece g) (rows ++ row ∷ []) ≡ map (entry_of_piece g) rows ++ entry_of_piece g row ∷ []
entries_append g [] row = refl
entries_append g (first ∷ rows) row = ap (λ xs. entry_of_piece g first ∷ xs) (entries_append g rows row)

one_at_end : (b : Bool) (n : ℕ) → n + one_more b 0 ≡ one_more b n
one_at_end true n = refl
one_at_end false n = omega arith

pub count_behind : (g : Geometry) (rows : List Row) (row : Row) (x : DirRow) → times x (map (entry_of_piece g) (rows ++ row ∷ [])) ≡ one_more (same_entry (entry_of_piece g row) x) (times x (map (entry_of_piece g) rows))
count_behind g rows row x =
    ap (times x) (entries_append g rows row)
    ∙ (times-append x (map (entry_of_piece g) rows) (entry_of_piece g row ∷ []) ∙ one_at_end (same_entry (entry_of_piece g row) x) (times x (map (entry_of_piece g) rows)))

pub kept_more : (a b : Bool) (n : ℕ) → (b ≡ true → a ≡ true) → kept a (one_more b n) ≡ one_more b (kept a n)
kept_more true b n h = refl
kept_more false false n h = refl
kept_more false true n h = let f : false ≡ true = h refl in cc

-- ---- what is buffered

pub still_buffered : (b after : Buffer) (piece : List ℕ) (rows : List Row) → AddsPiece b after piece → after.cursor ≡ b.cursor → AllByRecursion (IsBufferedWhereNew b) rows → AllByRecursion (IsBufferedWhereNew after) rows
still_buffered b after piece [] adds same all = tt
still_buffered b after piece (row ∷ rows) adds same all = (one, still_buffered b after piece rows adds same all.1)
  where
    one : IsBufferedWhereNew after row
    one = λ above.
        let old : IsBuffered b row = all.0 (subst (λ n. n ≤ row.place) same above) in
        let further : next_place_of after ≡ next_place_of b + blocks_in piece = adds.next in
        let within : row.place + row.blocks ≤ next_place_of b = old.filled.within in
        record {
          filled = record { from = above; within = omega (arith, further, within) };
          digest = ap document_digest (adds.others row.place row.blocks old.filled) ∙ old.digest;
        }

-- ---- nothing is displaced

pub nothing_goes : (x : DirRow) (gone left rows : List DirRow) → gone ≡ [] → IsPermutation rows (gone ++ left) → times x left ≡ times x rows
nothing_goes x gone left rows none parted =
    ap (λ (g : List DirRow). times x (g ++ left)) (sym none) ∙ times-permutation x rows (gone ++ left) parted

-- ---- a piece that is put and recorded

-- a document is in the buffer, and its piece in the directory, from which no row goes
pub record IsAdded (c new : Seen) (doc : Doc) (payload : List ℕ) : Type 0 where
  pub geometry : new.geometry ≡ c.geometry
  pub least : new.least ≡ c.least
  pub buffer : AddsPiece c.buffer new.buffer (document_bytes doc payload)
  pub rows : IsPermutation (row_of_key c.geometry (key_of_piece doc.id) doc.place ∷ c.rows) new.rows
  pub window : new.window ≡ record c.window { end = next_place_of new.buffer }
  pub device : new.device ≡ c.device

module _ (s : State) (c new : Seen) (doc : Doc) (payload : List ℕ) (digest : Digest) (pin : ℕ)
    (held : IsHeld s c) (placed : IsPlaceable s doc payload digest) (put : IsAdded c new doc payload) (turning : IsTurning new) where
  abbrev size : ℕ
  size = blocks_of (length payload)

  abbrev row : Row
  row = placed_row s doc.id (place_now s) size digest pin

  abbrev after : State
  after = state_after s (rec.Placed doc.id (place_now s) size digest pin)

  abbrev entry : DirRow
  entry = entry_of_piece s.geometry row

  rows_are : after.rows ≡ s.rows ++ row ∷ []
  rows_are = ap (λ xs. xs ++ row ∷ []) (without-none doc.id s.rows placed.new)

  same_cursor : new.buffer.cursor ≡ c.buffer.cursor
  same_cursor = ap (λ (b : Buffer). b.cursor) put.buffer.behind

  further : next_place_of new.buffer ≡ next_place_of c.buffer + size
  further = put.buffer.next ∙ ap (λ n. next_place_of c.buffer + n) placed.sized

  next_is : next_place_of c.buffer ≡ place_now s
  next_is = sym held.turning.end ∙ end_is s c held

  floor_same : new.window.floor ≡ c.window.floor
  floor_same = ap (λ (w : Window). w.floor) put.window

  end_further : new.window.end ≡ c.window.end + size
  end_further = ap (λ (w : Window). w.end) put.window ∙ (further ∙ ap (λ n. n + size) (sym held.turning.end))

  entry_is : row_of_key c.geometry (key_of_piece doc.id) doc.place ≡ entry
  entry_is = ap (λ g. row_of_key g (key_of_piece doc.id) doc.place) held.geometry ∙ ap (λ p. row_of_key s.geometry (key_of_piece doc.id) p) placed.place

  entries_are : (x : DirRow) → times x new.rows ≡ one_more (same_entry entry x) (times x c.rows)
  entries_are x =
      times-permutation x (row_of_key c.geometry (key_of_piece doc.id) doc.place ∷ c.rows) new.rows put.rows ∙ ap (λ e. times x (e ∷ c.rows)) entry_is

  low_end : c.window.floor ≤ c.window.end
  low_end = omega (arith, held.turning.floor, held.turning.end)

  count_at : (x : DirRow) → kept (is_between new.window.floor new.window.end x.place) (times x new.rows) ≡ kept (nat_le (floor_now s) x.place) (times x (map (entry_of_piece s.geometry) after.rows))
  count_at x =
      let pieces : ℕ = times x (map (entry_of_piece s.geometry) s.rows) in
      let it : Bool = same_entry entry x in
      let start : c.window.floor ≡ floor_now s = floor_is s c held in
      let old : kept (is_between c.window.floor c.window.end x.place) (times x c.rows) ≡ kept (nat_le c.window.floor x.place) pieces =
      (counted s c held.entered).each x ∙ ap (λ f. kept (nat_le f x.place) pieces) (sym start) in
      let at : it ≡ true → x.place ≡ c.window.end = λ e. ap (λ (r : DirRow). r.place) (sym (same_entry-true entry x e)) ∙ sym (end_is s c held) in
      let some : 0 < size = omega arith in
      let moved : kept (is_between c.window.floor (c.window.end + size) x.place) (one_more it (times x c.rows)) ≡ one_more it (kept (nat_le c.window.floor x.place) pieces) =
      more_between c.window.floor c.window.end (c.window.end + size) x.place (times x c.rows) pieces it low_end (omega arith) (none_behind c x held.turning) at old in
      let above : it ≡ true → nat_le c.window.floor x.place ≡ true = λ e. let same : x.place ≡ c.window.end = at e in le-leb c.window.floor x.place (omega (arith, low_end, same)) in
      rw (floor_same, end_further, entries_are x, rows_are, count_behind s.geometry s.rows row x, sym start)
      (moved ∙ sym (kept_more (nat_le c.window.floor x.place) it pieces above))

  counts : AreCounted after new
  counts = record { each = count_at }

  own_bytes : bytes_at new.buffer (place_now s) size ≡ document_bytes doc payload
  own_bytes =
      ap (λ p. bytes_at new.buffer p size) (sym next_is)
      ∙ (ap (λ n. bytes_at new.buffer (next_place_of c.buffer) n) (sym placed.sized) ∙ put.buffer.readable)

  own_buffered : IsBufferedWhereNew new.buffer row
  own_buffered = λ above. record {
    filled = record { from = above; within = omega (arith, further, next_is) };
    digest = ap document_digest own_bytes ∙ placed.recorded;
  }

  filled_is : filled_of new.buffer ≡ s.filled + size
  filled_is = omega (arith, further, same_cursor, held.filled)

  sound_after : IsSound after
  sound_after = (later_placed s doc.id size digest pin (omega arith) placed.room held.sound).sound

  -- the piece stands in the lap of its buffer
  same_lap : lap_end_of s.geometry (place_now s) ≡ lap_end_of s.geometry s.cursor
  same_lap =
      let q : ℕ = s.cursor / s.geometry.content in
      let some : 0 < size = omega arith in
      ap (λ n. s.geometry.content * (n + 1)) (lap-is s.geometry.content q (place_now s) (omega arith) (omega (arith, some, placed.room, held.sound.lap)))

  in_lap : IsInLap s.geometry row
  in_lap = record { small = placed.small; within = omega (arith, same_lap, placed.room, held.sound.lap) }

  -- it is in the buffer
  not_written : IsIntactWhereWritten after (content_of c.device) row
  not_written = λ low below. absurd (omega (arith, below))

  added_is_held_here : IsHeld after new
  added_is_held_here = record {
    turning = turning;
    sound = sound_after;
    geometry = put.geometry ∙ held.geometry;
    cursor = same_cursor ∙ held.cursor;
    filled = filled_is;
    entered = entered after new counts;
    buffered = subst (AllByRecursion (IsBufferedWhereNew new.buffer)) (sym rows_are)
        (each_push (IsBufferedWhereNew new.buffer) s.rows row (still_buffered c.buffer new.buffer (document_bytes doc payload) s.rows put.buffer same_cursor held.buffered) own_buffered);
    intact = subst (λ (d : Device). TellsAll d → AllByRecursion (IsIntactWhereWritten after (content_of d)) after.rows) (sym put.device)
        (λ told. subst (AllByRecursion (IsIntactWhereWritten after (content_of c.device))) (sym rows_are) (each_push (IsIntactWhereWritten after (content_of c.device)) s.rows row (each_same_intact s after (content_of c.device) s.rows refl refl refl (held.intact told)) not_written));
    laps = subst (AllByRecursion (IsInLap s.geometry)) (sym rows_are) (each_push (IsInLap s.geometry) s.rows row held.laps in_lap);
    faults = subst (λ n. s.fault ≤ n) (sym (ap (λ (d : Device). d.faults) put.device)) held.faults;
    least = put.least ∙ held.least;
  }

pub added_is_held : (s : State) (c new : Seen) (doc : Doc) (payload : List ℕ) (digest : Digest) (pin : ℕ) → IsHeld s c → IsPlaceable s doc payload digest
    → IsAdded c new doc payload → IsTurning new
    → IsHeld (state_after s (rec.Placed doc.id (place_now s) (blocks_of (length payload)) digest pin)) new
added_is_held s c new doc payload digest pin held placed put turning = added_is_held_here s c new doc payload digest pin held placed put turning
