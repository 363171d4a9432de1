-- What is live behind a flush was live before it: a piece that stays above the floor, or one that is copied,
-- which was due and so live.
use Rattle.std.proofs.Common.{◌≡◌, ℕ, ◌≤◌, Bool, true, false, List, [], ◌∷◌, ◌++◌, refl, sym, ◌∙◌, ap, subst, arith}
use Rattle.std.specs.Prelude.{if◌then◌else◌, None, Option, Some, option_and_then, option_map}
use Rattle.std.specs.List.{AllByRecursion}
use Rattle.std.proofs.lemmas.Bool.{le-leb, leb-true}
use Rattle.tape_base.specs.declared.digests.Digest.{Digest}
use Rattle.tape_base.specs.declared.pieces.PieceId.{PieceId}
use Rattle.tape_base.specs.Piece.{same_piece}
use Rattle.tape_base.proofs.NameLaws.{same_piece-true}
use Rattle.doc_header.specs.Moving.{moved_to}
use Rattle.doc_header.specs.Reading.{document_digest}
use Rattle.cache_model.specs.declared.record.Rec.{Rec}
use Rattle.cache_model.specs.declared.record.Rec.TheVariants as rec
use Rattle.cache_model.specs.State.{Row, State, after_all, cursor_next, floor_next, floor_now, live_row_of, moved_row, only_live, place_now, row_in, state_after}
use Rattle.cache_model.specs.Due.{due_pieces}
use Rattle.cache_model.specs.Outcomes.{Copied, Copy, NoRoom, Outcome, ReadRefused, Spoiled, began_record, copies_of, flush_records, front_of, moved_record, moved_records, records_of, stopped_front_of, stopped_records, stopped_records_of}
use Rattle.cache_model.specs.Tape.{AreApart, IsSound}
use Rattle.cache_model.proofs.Copies.{AreReady, IsReady, others_stand, rows_of, still_ready}
use Rattle.cache_model.proofs.Lists.{row_in-copied, row_in-without}
use Rattle.cache_model.proofs.Live.{IsFound, due_are_live}
use Rattle.cache_model.proofs.Rows.{apart-part, each_part}
use Rattle.cache_model.proofs.Sound.{AllLeaveTape, buffer_left, least_left}
use Rattle.cache_model.proofs.SoundFlush.{copies_part, copies_ready, due_part, front_leaves, part_ready}
use Rattle.cache_model.proofs.Steps.{after_all-append, all_append}
use Rattle.cache_model.specs.Subjects.{IsOfFlush}
use Rattle.cache_model.specs.Live.{IsSamePiece, LiveBefore}
use Rattle.piece_answers.specs.Flush.{AreOfFlush}
use Rattle.held_pieces.proofs.Candidates.{live_is}

-- ---- records beside the pieces that are copied

-- the record tells of a piece that is not copied, or of the device
abbrev IsBeside : Rec → Type 0
IsBeside (rec.Unsaved piece place fault) = Unit {0}
IsBeside (rec.Damaged piece place kept found) = Unit {0}
IsBeside (rec.Fault count) = Unit {0}
IsBeside _ = ⊥

abbrev AreBeside : List Rec → Type 0
AreBeside recs = AllByRecursion IsBeside recs

one_beside : (row : Row) (o : Outcome) → AreBeside (records_of row o)
one_beside row NoRoom = (tt, tt)
one_beside row (Copied bytes) = tt
one_beside row (Spoiled found) = (tt, tt)
one_beside row (ReadRefused count) = (tt, (tt, tt))

front_beside : (rows : List Row) (outcomes : List Outcome) → AreBeside (front_of rows outcomes)
front_beside [] outcomes = tt
front_beside (row ∷ rows) [] = tt
front_beside (row ∷ rows) (o ∷ outcomes) = all_append IsBeside (records_of row o) (front_of rows outcomes) (one_beside row o) (front_beside rows outcomes)

one_stopped : (row : Row) (o : Outcome) → AreBeside (stopped_records_of row o)
one_stopped row NoRoom = tt
one_stopped row (Copied bytes) = tt
one_stopped row (Spoiled found) = (tt, tt)
one_stopped row (ReadRefused count) = (tt, tt)

stopped_front : (rows : List Row) (outcomes : List Outcome) → AreBeside (stopped_front_of rows outcomes)
stopped_front [] outcomes = tt
stopped_front (row ∷ rows) [] = tt
stopped_front (row ∷ rows) (o ∷ outcomes) = all_append IsBeside (stopped_records_of row o) (stopped_front_of rows outcomes) (one_stopped row o) (stopped_front rows outcomes)

stopped_beside : (rows : List Row) (outcomes : List Outcome) (count : ℕ) → AreBeside (stopped_records rows outcomes count)
stopped_beside rows outcomes count = all_append IsBeside (stopped_front_of rows outcomes) (rec.Fault count ∷ []) (stopped_front rows outcomes) (tt, tt)

-- ---- they are records of a flush

beside_is : (r : Rec) → IsBeside r → IsOfFlush r
beside_is (rec.Unsaved piece place fault) h = tt
beside_is (rec.Damaged piece place kept found) h = tt
beside_is (rec.Fault count) h = tt
beside_is _ h = absurd h

of_flush : (a b : List Rec) → AreBeside a → AreOfFlush b → AreOfFlush (a ++ b)
of_flush [] b h k = k
of_flush (r ∷ a) b h k = (beside_is r h.0, of_flush a b h.1 k)

moved_of_flush : (u : State) (copies : List Copy) → AreOfFlush (moved_records u copies)
moved_of_flush u [] = tt
moved_of_flush u (c ∷ copies) = (tt, moved_of_flush (state_after u (moved_record u c)) copies)

pub flush_kinds : (s : State) (rows : List Row) (outcomes : List Outcome) → AreOfFlush (flush_records s rows outcomes)
flush_kinds s rows outcomes =
    of_flush (front_of rows outcomes) _ (front_beside rows outcomes)
    (tt, moved_of_flush (state_after (after_all s (front_of rows outcomes)) (began_record s)) (copies_of rows outcomes))

only_beside : (recs : List Rec) → AreBeside recs → AreOfFlush recs
only_beside [] h = tt
only_beside (r ∷ recs) h = (beside_is r h.0, only_beside recs h.1)

pub stopped_kinds : (rows : List Row) (outcomes : List Outcome) (count : ℕ) → AreOfFlush (stopped_records rows outcomes count)
stopped_kinds rows outcomes count = only_beside (stopped_records rows outcomes count) (stopped_beside rows outcomes count)

-- ---- what was live

pub live_same : (s : State) → LiveBefore s s
live_same s = λ id row live. (row, live, record { id = refl; blocks = refl; payload = refl; pin = refl; alternates = refl })

-- a row that is found, above the floor, is live
found_is_live : (s : State) (id : PieceId) (row : Row) → row_in s.rows id ≡ Some row → floor_now s ≤ row.place → live_row_of s id ≡ Some row
found_is_live s id row found above = rw (found, le-leb (floor_now s) row.place above) refl

out_by : (t : State) (b : Bool) (o : Option Row) (row : Row) → option_and_then (only_live t) (if b then None else o) ≡ Some row → option_and_then (only_live t) o ≡ Some row
out_by t true o row h = cc
out_by t false o row h = h

damaged_before : (t : State) (piece : PieceId) (place : ℕ) (kept found : Digest) (id : PieceId) (row : Row) → live_row_of (state_after t (rec.Damaged piece place kept found)) id ≡ Some row → live_row_of t id ≡ Some row
damaged_before t piece place kept found id row h =
    out_by t (same_piece piece id) (row_in t.rows id) row (ap (option_and_then (only_live t)) (sym (row_in-without piece id t.rows)) ∙ h)

before_beside : (s t : State) (r : Rec) → IsBeside r → LiveBefore s t → LiveBefore s (state_after t r)
before_beside s t (rec.Unsaved piece place fault) h live = live
before_beside s t (rec.Damaged piece place kept found) h live = λ id row there. live id row (damaged_before t piece place kept found id row there)
before_beside s t (rec.Fault count) h live = live
before_beside s t _ h live = absurd h

all_beside : (s t : State) (recs : List Rec) → AreBeside recs → LiveBefore s t → LiveBefore s (after_all t recs)
all_beside s t [] h live = live
all_beside s t (r ∷ recs) h live = all_beside s (state_after t r) recs h.1 (before_beside s t r h.0 live)

-- the floor does not fall where the next buffer begins
begun_before : (s t : State) (cursor floor : ℕ) → floor_now t ≤ floor_now (state_after t (rec.Began cursor floor)) → LiveBefore s t → LiveBefore s (state_after t (rec.Began cursor floor))
begun_before s t cursor floor up live = λ id row there.
    let u : State = state_after t (rec.Began cursor floor) in
    let found = live_is u (row_in t.rows id) row there in
    let above : floor_now u ≤ row.place = leb-true (floor_now u) row.place found.1 in
    live id row (found_is_live t id row found.0 (omega (arith, up, above)))

-- ---- a copy

module _ (s u : State) (c : Copy) (ready : IsReady u.rows c.row) (due : IsFound s c.row) (live : LiveBefore s u) where
  abbrev t : State
  t = state_after u (moved_record u c)

  abbrev digest : Digest
  digest = document_digest (moved_to (place_now u) c.bytes)

  its_own : (x : PieceId) (y : Row) → same_piece c.row.id x ≡ true → option_map (moved_row (place_now u) digest) (row_in u.rows x) ≡ Some y
      → (before : Row) × (live_row_of s x ≡ Some before) × IsSamePiece before y
  its_own x y same h =
      let id : c.row.id ≡ x = same_piece-true c.row.id x same in
      let moved : Some (moved_row (place_now u) digest c.row) ≡ Some y = sym (ap (option_map (moved_row (place_now u) digest)) (ap (row_in u.rows) (sym id) ∙ ready.0)) ∙ h in
      let is : moved_row (place_now u) digest c.row ≡ y = cc in
      (c.row, ap (live_row_of s) (sym id) ∙ due, subst (λ z. IsSamePiece c.row z) is (record { id = refl; blocks = refl; payload = refl; pin = refl; alternates = refl }))

  by_piece : (x : PieceId) (y : Row) (b : Bool) → same_piece c.row.id x ≡ b → floor_now u ≤ y.place
      → (if b then option_map (moved_row (place_now u) digest) (row_in u.rows x) else row_in u.rows x) ≡ Some y
      → (before : Row) × (live_row_of s x ≡ Some before) × IsSamePiece before y
  by_piece x y true same above h = its_own x y same h
  by_piece x y false other above h = live x y (found_is_live u x y h above)

  moved_before : LiveBefore s t
  moved_before x y there =
      let found = live_is t (row_in t.rows x) y there in
      by_piece x y (same_piece c.row.id x) refl (leb-true (floor_now t) y.place found.1) (sym (row_in-copied c.row.id x u.rows (place_now u) digest) ∙ found.0)

all_moved : (s u : State) (copies : List Copy) → AreApart (rows_of copies) → AreReady u.rows (rows_of copies) → AllByRecursion (IsFound s) (rows_of copies) → LiveBefore s u
    → LiveBefore s (after_all u (moved_records u copies))
all_moved s u [] apart ready due live = live
all_moved s u (c ∷ copies) apart ready due live =
    let t : State = state_after u (moved_record u c) in
    all_moved s t copies apart.1 (still_ready u.rows t.rows c.row.id (others_stand u c) (rows_of copies) apart.0 ready.1) due.1 (moved_before s u c ready.0 due.0 live)

-- ---- a flush

pub flush_before : (s : State) (now : ℕ) (outcomes : List Outcome) → IsSound s → floor_now s ≤ floor_next s → LiveBefore s (after_all s (flush_records s (due_pieces s now) outcomes))
flush_before s now outcomes sound up =
    let rows : List Row = due_pieces s now in
    let front : List Rec = front_of rows outcomes in
    let copies : List Copy = copies_of rows outcomes in
    let m : State = after_all s front in
    let u : State = state_after m (began_record s) in
    let apart : AreApart rows = apart-part (due_part s now) sound.apart in
    let first : LiveBefore s m = all_beside s s front (front_beside rows outcomes) (live_same s) in
    let floor : (floor_now m ≡ floor_now s) × (floor_now u ≡ floor_next s) = floors s front (front_leaves rows outcomes) in
    let begun : LiveBefore s u = begun_before s m (cursor_next s) (floor_next s) (omega (arith, up, floor.0, floor.1)) first in
    rw (after_all-append s front (began_record s ∷ moved_records u copies))
    (all_moved s u copies (apart-part (copies_part rows outcomes) apart) (copies_ready s rows outcomes apart (part_ready s rows sound (due_part s now)))
    (each_part (IsFound s) (copies_part rows outcomes) (due_are_live s now sound)) begun)
  where
    floors : (s : State) (front : List Rec) → AllLeaveTape front
        → (floor_now (after_all s front) ≡ floor_now s) × (floor_now (state_after (after_all s front) (began_record s)) ≡ floor_next s)
    floors s front leave =
        let buffer = buffer_left s front leave in
        let least = least_left s front leave in
        (rw (buffer.0, buffer.1, least) refl, rw (buffer.0, least) refl)

pub stopped_before : (s : State) (rows : List Row) (outcomes : List Outcome) (count : ℕ) → LiveBefore s (after_all s (stopped_records rows outcomes count))
stopped_before s rows outcomes count = all_beside s s (stopped_records rows outcomes count) (stopped_beside rows outcomes count) (live_same s)
