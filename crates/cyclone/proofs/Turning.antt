-- A piece that was put, and the places that stay below the next one.
use Rattle.std.proofs.Common.{◌≡◌, ℕ, ◌+◌, ◌^◌, ◌<◌, ◌≤◌, List, [], ◌∷◌, ◌++◌, length, suc, true, false, refl, sym, ◌∙◌, ap, subst, arith, Bool}
use Rattle.std.specs.Prelude.{All, IsPermutation, MatchBool}
use Rattle.std.specs.Bool.{OnTrue}
use Rattle.std.proofs.lemmas.List.Elements.{All-filter}
use Rattle.std.proofs.lemmas.List.Sorted.{All-permutation}
use Rattle.std.proofs.lemmas.List.Elements.{All-cons, All-map, All-tail}
use Rattle.doc_header.specs.declared.documents.Doc.{Doc}
use Rattle.doc_header.specs.Document.{document_bytes}
use Rattle.doc_header.specs.Moving.{moved_to}
use Rattle.tape_base.specs.Blocks.{blocks_of}
use Rattle.agg_buffer.specs.Buffer.{Buffer, AddsPiece, empty_buffer, next_place_of, blocks_in}
use Rattle.dir_table.specs.Rows.{has_row, plain_row, plain_rows, LosesPlain}
use Rattle.tape_base.specs.declared.pieces.PieceId.{PieceId}
use Rattle.dir_table.specs.declared.window.Window.{Window}
use Rattle.logged_disk.specs.Device.{DeviceState}
use Rattle.cyclone.specs.Cyclone.{Seen, BufferMayBegin, IsMadeOf, IsTurning, IsPut, IsMoved, TakesOut, TakesOutStored, BeginsNext, SameButRows, row_of_piece, next_buffer_cursor, window_from}
use Rattle.dir_table.specs.Entering.{TakesRow}
use Rattle.dir_table.proofs.Plainly.{all_stored}
use Rattle.dir_table.specs.Wrap.{rows_at_or_above}
use Rattle.write_cursor.specs.Plan.{FitsInLap}
use Rattle.tape_base.specs.declared.geometries.Geometry.{Geometry}
use Rattle.tape_base.specs.Place.{block_of, device_blocks_of, slot_of}
use Rattle.dir_table.specs.declared.rows.DirRow.{DirRow}
use Rattle.dir_table.specs.declared.rows.StoredRow.{StoredRow}

abbrev pub AllBelow : ℕ → List DirRow → Type 0
AllBelow high rows = All (λ (r : DirRow). r.place < high) rows

pub below_more : (low high : ℕ) (rows : List DirRow) → low ≤ high → AllBelow low rows → AllBelow high rows
below_more low high rows h all = λ k d within. let there = all k d within in omega arith

-- what stands behind an insert: the new row, and old ones that are left
all_behind : (high : ℕ) (gone left : List DirRow) → AllBelow high (gone ++ left) → AllBelow high left
all_behind high [] left all = all
all_behind high (row ∷ gone) left all = all_behind high gone left (All-tail (λ (r : DirRow). r.place < high) row (gone ++ left) all)

pub below_inserted : (low high : ℕ) (row : DirRow) (gone old new : List DirRow) → low ≤ high → row.place < high
    → TakesRow row gone old new → AllBelow low old → AllBelow high new
below_inserted low high row gone old new h there t all =
    All-permutation (λ (r : DirRow). r.place < high) (row ∷ t.left) new t.entered
    (All-cons (λ (r : DirRow). r.place < high) row t.left there
    (below_more low high t.left h (all_behind low gone t.left (All-permutation (λ (r : DirRow). r.place < low) old (gone ++ t.left) t.parted all))))

-- a cyclone turns on where blocks were added to its buffer, and all that is entered ends there
added_turns : (old new : Seen) (piece : List ℕ) → IsTurning old → new.geometry ≡ old.geometry → new.least ≡ old.least → AddsPiece old.buffer new.buffer piece
    → new.window ≡ record old.window { end = next_place_of new.buffer } → new.device ≡ old.device → AllBelow (next_place_of new.buffer) new.rows → IsTurning new
added_turns old new piece t geometry least added window device entered =
    let cursor : new.buffer.cursor ≡ old.buffer.cursor = ap (λ (b : Buffer). b.cursor) added.behind in
    let reserved : new.buffer.reserved ≡ old.buffer.reserved = ap (λ (b : Buffer). b.reserved) added.behind in
    record {
      geometry = ap (λ (w : Window). w.geometry) window ∙ (t.geometry ∙ sym geometry);
      cursor = ap (λ (w : Window). w.cursor) window ∙ (t.cursor ∙ sym cursor);
      floor = rw (geometry, least, cursor) (ap (λ (w : Window). w.floor) window ∙ t.floor);
      end = ap (λ (w : Window). w.end) window;
      reserved = rw geometry (reserved ∙ t.reserved);
      few = rw geometry (omega (arith, added.next, cursor, t.few, t.reserved, added.room));
      from = rw (geometry, cursor) t.from;
      least = rw (least, cursor) t.least;
      below = rw cursor t.below;
      lap = rw (geometry, cursor) t.lap;
      sized = rw (geometry, device) t.sized;
      entered = entered;
    }

-- a cyclone turns on behind a piece that was put
pub put_turns : (purges : Bool) (old new : Seen) (doc : Doc) (payload : List ℕ) → IsTurning old → IsPut purges old new doc payload
    → doc.place ≡ next_place_of old.buffer → blocks_in (document_bytes doc payload) ≡ blocks_of (length payload) → IsTurning new
put_turns purges old new doc payload t p at size =
    let further : next_place_of new.buffer ≡ next_place_of old.buffer + blocks_of (length payload) = p.buffer.next ∙ ap (λ n. next_place_of old.buffer + n) size in
    let some : 0 < blocks_of (length payload) = omega arith in
    added_turns old new (document_bytes doc payload) t p.geometry p.least p.buffer p.window p.device
    (below_inserted (next_place_of old.buffer) (next_place_of new.buffer) _ p.gone old.rows new.rows (omega arith) (omega arith) p.rows t.entered)

below_from : (floor low high : ℕ) (old new : List DirRow) → low ≤ high → IsPermutation (rows_at_or_above floor old) new → AllBelow low old → AllBelow high new
below_from floor low high old new h kept all =
    All-permutation (λ (r : DirRow). r.place < high) (rows_at_or_above floor old) new kept
    (All-filter _ (λ (r : DirRow). r.place < high) old (below_more low high old h all))

begun : (cursor reserved : ℕ) → next_place_of (empty_buffer cursor reserved) ≡ cursor
begun cursor reserved = omega arith

-- so what is entered stands below the next buffer
pub stored_below : (low high : ℕ) (rows : List StoredRow) → low ≤ high → AllBelow low (plain_rows rows) → All (λ (r : StoredRow). r.place < high) rows
stored_below low high rows h all = all_stored (λ (r : DirRow). r.place < high) rows (below_more low high (plain_rows rows) h all)

-- and when the next buffer begins
pub next_turns : (old new : Seen) → IsTurning old → BeginsNext old new → FitsInLap old.geometry (next_buffer_cursor old) → next_place_of old.buffer ≤ next_buffer_cursor old → next_buffer_cursor old < 2 ^ 62
    → IsTurning new
next_turns old new t b fits behind below =
    let cursor : new.buffer.cursor ≡ next_buffer_cursor old = ap (λ (x : Buffer). x.cursor) b.buffer in
    let reserved : new.buffer.reserved ≡ old.buffer.reserved = ap (λ (x : Buffer). x.reserved) b.buffer in
    let empty : next_place_of new.buffer ≡ next_buffer_cursor old = ap next_place_of b.buffer
    ∙ begun (next_buffer_cursor old) old.buffer.reserved in
    record {
      geometry = ap (λ (w : Window). w.geometry) b.window ∙ (t.geometry ∙ sym b.geometry);
      cursor = ap (λ (w : Window). w.cursor) b.window ∙ sym cursor;
      floor = rw (b.geometry, b.least, cursor) (ap (λ (w : Window). w.floor) b.window);
      end = ap (λ (w : Window). w.end) b.window ∙ sym empty;
      reserved = rw b.geometry (reserved ∙ t.reserved);
      few = rw b.buffer (omega arith);
      from = rw (b.geometry, cursor) (let from : old.geometry.content ≤ old.buffer.cursor = t.from in omega arith);
      least = rw (b.least, cursor) (let least : old.least ≤ old.buffer.cursor = t.least in omega arith);
      below = rw cursor below;
      lap = rw (b.geometry, cursor) fits;
      sized = rw (b.geometry, b.device) t.sized;
      entered = below_from _ (next_place_of old.buffer) (next_place_of new.buffer) old.rows new.rows (omega arith) b.rows t.entered;
    }

-- and where it was made of parts
pub made_turns : (g : Geometry) (cursor low : ℕ) (entries : List StoredRow) (before : DeviceState) (c : Seen) → IsMadeOf g cursor low entries before c
    → BufferMayBegin g cursor low → c.window ≡ window_from g cursor low → device_blocks_of g ≤ before.size
    → All (λ r. r.place < c.window.end) entries → IsTurning c
made_turns g cursor low entries before c made begins window sized ended =
    let at : c.buffer.cursor ≡ cursor = ap (λ (b : Buffer). b.cursor) made.buffer in
    let next : next_place_of c.buffer ≡ cursor = ap next_place_of made.buffer ∙ begun cursor g.agg in
    let end : c.window.end ≡ next_place_of c.buffer = ap (λ (w : Window). w.end) window ∙ sym next in
    record {
      geometry = ap (λ (w : Window). w.geometry) window ∙ sym made.geometry;
      cursor = ap (λ (w : Window). w.cursor) window ∙ sym at;
      floor = rw (made.geometry, made.least, at) (ap (λ (w : Window). w.floor) window);
      end = end;
      reserved = rw made.geometry (ap (λ (b : Buffer). b.reserved) made.buffer);
      few = rw made.buffer (omega arith);
      from = rw (made.geometry, at) begins.from;
      least = rw (made.least, at) begins.least;
      below = rw at begins.below;
      lap = rw (made.geometry, at) begins.lap;
      sized = rw (made.geometry, made.device) sized;
      entered = subst (AllBelow (next_place_of c.buffer)) (sym made.rows)
          (subst (λ (n : ℕ). AllBelow n (plain_rows entries)) end (All-map (λ (r : DirRow). r.place < c.window.end) plain_row entries ended));
    }

-- the blocks of a buffer lie in the content area
pub block_fits : (g : Geometry) (cursor filled : ℕ) → FitsInLap g cursor → filled ≤ g.agg → block_of g cursor + filled ≤ device_blocks_of g
block_fits g cursor filled fits few =
    let slot : slot_of g cursor + filled ≤ g.content = omega arith in
    omega (arith, slot)

below_rest : (high : ℕ) (row : DirRow) (rows : List DirRow) → AllBelow high (row ∷ rows) → AllBelow high rows
below_rest high row rows all = λ k d within. all (suc k) d (omega arith)

-- where a row was taken out, or none
below_removed : (high : ℕ) (row : DirRow) (old new : List DirRow) (b : Bool) → OnTrue b (IsPermutation old (row ∷ new)) → (b ≡ false → new ≡ old) → AllBelow high old → AllBelow high new
below_removed high row old new true p same all = below_rest high row new (All-permutation (λ (r : DirRow). r.place < high) old (row ∷ new) p all)
below_removed high row old new false p same all = subst (AllBelow high) (sym (same refl)) all

-- and when a piece was taken out
pub taken_turns : (old new : Seen) (row : DirRow) (b : Bool) → IsTurning old → SameButRows old new → OnTrue b (IsPermutation old.rows (row ∷ new.rows)) → (b ≡ false → new.rows ≡ old.rows) → IsTurning new
taken_turns old new row b t s p same = rw s.same (record {
  geometry = t.geometry;
  cursor = t.cursor;
  floor = t.floor;
  end = t.end;
  reserved = t.reserved;
  few = t.few;
  from = t.from;
  least = t.least;
  below = t.below;
  lap = t.lap;
  sized = t.sized;
  entered = below_removed (next_place_of old.buffer) row old.rows new.rows b p same t.entered;
})

-- what a directory says of a row that it takes out
told_by : (row : DirRow) (rows left : List DirRow) (b : Bool) → OnTrue b (IsPermutation rows (row ∷ left)) → (b ≡ false → left ≡ rows)
    → MatchBool b (IsPermutation rows (row ∷ left)) (left ≡ rows)
told_by row rows left true gone none = gone
told_by row rows left false gone none = none refl

told_stored_by : (row : DirRow) (rows left : List StoredRow) (b : Bool) → OnTrue b (LosesPlain row rows left) → (b ≡ false → left ≡ rows)
    → MatchBool b (LosesPlain row rows left) (left ≡ rows)
told_stored_by row rows left true gone none = gone
told_stored_by row rows left false gone none = none refl

pub takes_out_stored : (row : DirRow) (rows left : List StoredRow) (b : Bool) → b ≡ has_row row (plain_rows rows) → OnTrue b (LosesPlain row rows left) → (b ≡ false → left ≡ rows)
    → TakesOutStored row rows left
takes_out_stored row rows left b found gone none =
    subst (λ b. MatchBool b (LosesPlain row rows left) (left ≡ rows)) found (told_stored_by row rows left b gone none)

pub takes_out : (row : DirRow) (rows left : List DirRow) (b : Bool) → b ≡ has_row row rows → OnTrue b (IsPermutation rows (row ∷ left)) → (b ≡ false → left ≡ rows)
    → TakesOut row rows left
takes_out row rows left b found gone none =
    subst (λ b. MatchBool b (IsPermutation rows (row ∷ left)) (left ≡ rows)) found (told_by row rows left b gone none)

below_matched : (high : ℕ) (row : DirRow) (rows left : List DirRow) (b : Bool) → MatchBool b (IsPermutation rows (row ∷ left)) (left ≡ rows)
    → AllBelow high rows → AllBelow high left
below_matched high row rows left true p all = below_rest high row left (All-permutation (λ (r : DirRow). r.place < high) rows (row ∷ left) p all)
below_matched high row rows left false same all = subst (AllBelow high) (sym same) all

-- and behind a copy that was put
pub moved_turns : (purges : Bool) (old new : Seen) (id : PieceId) (from : ℕ) (bytes : List ℕ) → IsTurning old → IsMoved purges old new id from bytes
    → 0 < blocks_in (moved_to (next_place_of old.buffer) bytes) → IsTurning new
moved_turns purges old new id from bytes t m some =
    let low = next_place_of old.buffer in
    let left = below_matched low (row_of_piece old id from) old.rows m.left (has_row (row_of_piece old id from) old.rows) m.taken t.entered in
    added_turns old new (moved_to low bytes) t m.geometry m.least m.buffer m.window m.device
    (below_inserted low (next_place_of new.buffer) _ m.gone m.left new.rows (omega (arith, m.buffer.next)) (omega (arith, m.buffer.next, some)) m.rows left)
