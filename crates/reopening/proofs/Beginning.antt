-- What an image opens to may begin a session.
use Rattle.std.proofs.Common.{◌≡◌, ◌≤◌, ◌<◌, ◌+◌, ◌-◌, ℕ, Bool, true, false, List, [], ◌∷◌, map, Option, Some, None, refl, sym, subst, ◌∙◌, arith, inl, inr}
use Rattle.std.specs.Prelude.{◌==◌, ◌&&◌, max, length, filter, if◌then◌else◌, IsTrue}
use Rattle.std.specs.List.{AllByRecursion, list_any}
use Rattle.std.proofs.Math.Nat.{mod-lt}
use Rattle.std.proofs.lemmas.Bool.{cases_lt, eqb-true}
use Rattle.hex.specs.Hex.{IsBytes}
use Rattle.device_log.specs.Image.{Image}
use Rattle.device_log.proofs.Spans.{span_bytes}
use Rattle.tape_base.specs.declared.geometries.Geometry.{Geometry}
use Rattle.tape_base.specs.Key.{segment_of, word_of}
use Rattle.tape_base.specs.Piece.{key_of_piece}
use Rattle.stripe_header.specs.declared.area.Area.{Area}
use Rattle.stripe_header.specs.declared.states.CopyState.{CopyState}
use Rattle.stripe_header.specs.Layout.{block_of_place}
use Rattle.stripe_header.specs.Spelling.{may_say}
use Rattle.dir_table.specs.declared.rows.StoredRow.{StoredRow}
use Rattle.packed_directory.specs.PackedImage.{image_segments}
use Rattle.packed_directory.specs.StoredRows.{is_under, rows_of_segments}
use Rattle.cache_model.specs.declared.findings.FoundRow.{FoundRow}
use Rattle.cache_model.specs.Opening.{Opening}
use Rattle.cache_model.specs.Openings.{AreEarlierPuts, FitsSegment, IsFoundPiece, IsOpening}
use Rattle.cache_model.specs.Room.{rows_of_segment, segment_of_piece}
use Rattle.cache_model.specs.State.{Row, State, is_live, row_of_found, state_of_opening}
use Rattle.cache_model.specs.Tape.{AreRising}
use Rattle.cache_model.specs.Vectors.{IsListed}
use Rattle.reopening.specs.declared.newest.Newest.{Newest}
use Rattle.reopening.specs.Newest.{bound_of, directory_at, newest_of}
use Rattle.reopening.specs.Documents.{blocks_read, document_at, standing_of}
use Rattle.reopening.specs.Later.{kept_rows, latest, measure_of}
use Rattle.reopening.specs.Opens.{found_of, is_sound, opened, opening_at, opening_with, opens_to, rows_told}
use Rattle.reopening.specs.Given.{ImagesGive, OpeningsGivenBegin, all_given}
use Rattle.reopening.specs.Begins.{OpeningsMayBegin}
use Rattle.reopening.proofs.Alone.{apart, kept_alone, of_two_keys}
use Rattle.reopening.proofs.Ascent.{kept_rise, rising_standing}
use Rattle.reopening.proofs.Bounds.{bound_fits, cursor_fits}
use Rattle.reopening.proofs.Copies.{copy_of, newest_says}
use Rattle.reopening.proofs.Fitting.{IsTold, any_stored, each_filter, entries_fit, rising_filter, rows_fit}
use Rattle.reopening.proofs.Holding.{each_kept, each_latest, each_standing}
use Rattle.reopening.proofs.Listing.{kept_state}
use Rattle.reopening.proofs.Pieces.{Passed, earlier_puts, found_piece, passed_all}
use Rattle.reopening.proofs.Vectoring.{found_document, listed_row}

-- ---- lists

each_map : (P : Row → Type 0) (all : List FoundRow) → AllByRecursion (λ (f : FoundRow). P (row_of_found f)) all → AllByRecursion P (map row_of_found all)
each_map P [] each = tt
each_map P (x ∷ all) each = (each.0, each_map P all each.1)

each_weaker : (P Q : Row → Type 0) → ((row : Row) → P row → Q row) → (all : List Row) → AllByRecursion P all → AllByRecursion Q all
each_weaker P Q step [] each = tt
each_weaker P Q step (x ∷ all) each = (step x each.0, each_weaker P Q step all each.1)

pub document_bytes : (a : Area) (c : Image) (p : ℕ) → ((j : ℕ) → IsBytes (c j)) → IsBytes (document_at a c p)
unfolding document_at
document_bytes a c p bytes = span_bytes c (block_of_place a p) (blocks_read a c p) bytes

told_stored : (g : Geometry) (told : CopyState) (bytes : List ℕ) (test : StoredRow → Bool) → list_any test (rows_told g told bytes) ≡ true
    → list_any test (rows_of_segments g told.cursor 0 (image_segments g bytes)) ≡ true
unfolding rows_told
told_stored g told bytes test h = any_stored g told.cursor test (bound_of g told) bytes h

-- ---- one copy, with the documents that were given

module _ (g : Geometry) (told : CopyState) (directory : List ℕ) (docs : ℕ → List ℕ)
    (says : IsTrue (may_say g told)) (sound : is_sound g directory ≡ true) (bytes : (p : ℕ) → IsBytes (docs p)) where
  abbrev rows : List StoredRow
  rows = rows_told g told directory

  abbrev bound : ℕ
  bound = bound_of g told

  -- what passes by itself, and what is kept of it
  abbrev all : List FoundRow
  all = all_given g told rows docs bound (told.cursor - bound)

  abbrev found : List FoundRow
  found = kept_rows all

  abbrev o : Opening
  o = opening_with g told found

  abbrev s : State
  s = state_of_opening g o

  each_found : (P : FoundRow → Type 0) → ((p : ℕ) → Passed g told rows p (docs p) → P (standing_of p (docs p))) → AllByRecursion P found
  each_found P passed =
      each_kept P (map measure_of (latest all)) (latest all) (each_latest P all
      (each_standing P g told rows docs bound (told.cursor - bound) (λ p low high h. passed p (passed_all g told rows p (docs p) h))))

  rising : AreRising (max g.content bound) (map row_of_found found) told.cursor
  rising =
      let end : bound + (told.cursor - bound) ≡ told.cursor = omega (arith, (bound_fits g told says).1) in
      kept_rise told.cursor (max g.content bound) all (rising_standing g told rows docs bound (told.cursor - bound) end (cursor_fits g told says).0)

  vectors : AllByRecursion (IsListed s) (map row_of_found found)
  vectors =
      each_map (IsListed s) found (each_found (λ (f : FoundRow). IsListed s (row_of_found f))
      (λ p passed. listed_row g told rows p (docs p) (bytes p) passed o))

  abbrev stored : List StoredRow
  stored = rows_of_segments g told.cursor 0 (image_segments g directory)

  -- a row has an entry at its place, under the key of its piece
  abbrev IsEntered : Row → Type 0
  IsEntered row = list_any (λ r. r.place == row.place && is_under g (key_of_piece row.id) r) stored ≡ true

  entered : AllByRecursion IsEntered (map row_of_found found)
  entered =
      each_map IsEntered found (each_found (λ (f : FoundRow). IsEntered (row_of_found f))
      (λ p passed. told_stored g told directory (λ r. r.place == p && is_under g (key_of_piece (standing_of p (docs p)).id) r) passed.entered))

  module _ (segment : ℕ) where
    abbrev of_segment : Row → Bool
    of_segment row = segment_of_piece s row.id == segment

    rows_rise : AreRising (max g.content bound) (rows_of_segment s segment) told.cursor
    rows_rise =
        rising_filter of_segment (max g.content bound) told.cursor (filter (is_live s) (map row_of_found found))
        (rising_filter (is_live s) (max g.content bound) told.cursor (map row_of_found found) rising)

    told_rows : AllByRecursion (IsTold g stored segment) (rows_of_segment s segment)
    told_rows =
        each_weaker (λ row. (of_segment row ≡ true) × ((is_live s row ≡ true) × IsEntered row)) (IsTold g stored segment)
        (λ row h. (eqb-true (segment_of g (key_of_piece row.id)) segment h.0, h.1.1)) (rows_of_segment s segment)
        (each_filter (λ row. (is_live s row ≡ true) × IsEntered row) of_segment (filter (is_live s) (map row_of_found found))
        (each_filter IsEntered (is_live s) (map row_of_found found) entered))

    -- no piece is of a segment that the directory does not have
    none_behind : (xs : List Row) → g.segments ≤ segment → AllByRecursion (IsTold g stored segment) xs → length xs ≡ 0
    none_behind [] le told' = refl
    none_behind (x ∷ xs) le told' =
        let fit = g.accepted.segments_fit in
        let below : segment_of g (key_of_piece x.id) < g.segments = mod-lt (word_of (key_of_piece x.id) 0) (omega (arith, fit.0)) in
        absurd (omega (arith, below, told'.0.0, le))

    fits_segment : FitsSegment s segment
    fits_segment = elim (cases_lt segment g.segments) [
      | inl within ↦ rows_fit g stored segment (max g.content bound) told.cursor (rows_of_segment s segment) rows_rise told_rows
          (entries_fit g told.cursor directory sound segment within)
      | inr behind ↦ omega (arith, none_behind (rows_of_segment s segment) behind told_rows)
    ]

  is_opening : (packed : Bool) → IsOpening packed g o
  is_opening packed = record {
    copy = copy_of g told says found;
    rising = rising;
    apart = apart found (kept_alone all);
    keys = of_two_keys found (kept_alone all);
    each = each_found (IsFoundPiece g o) (λ p passed. found_piece g told rows p (docs p) found passed (found_document g told rows p (docs p) (bytes p) passed o));
    puts = each_found (AreEarlierPuts o) (λ p passed. earlier_puts g told rows p (docs p) found passed);
    lengths = kept_state all;
    vectors = vectors;
    fits = λ is segment. fits_segment segment;
  }

pub given_begin : OpeningsGivenBegin
given_begin packed g told directory docs says sound bytes = is_opening g told directory docs says sound bytes packed

pub images_give : ImagesGive
unfolding found_of
images_give a c n = refl

-- ---- all of it

pub opened_is : (sound : Bool) (x o : Opening) → (if sound then Some x else None) ≡ Some o → (sound ≡ true) × (x ≡ o)
opened_is true x o h = (refl, cc h)
opened_is false x o h = absurd cc

by_newest : (packed : Bool) (a : Area) (c : Image) (o : Opening) → ((j : ℕ) → IsBytes (c j)) → (n : Option Newest) → newest_of a c ≡ n → opened a c n ≡ Some o → IsOpening packed a.geometry o
by_newest packed a c o bytes None newest h = absurd cc
by_newest packed a c o bytes (Some n) newest h =
    let e = opened_is (is_sound a.geometry (directory_at a c n.side)) (opening_at a c n) o h in
    subst (λ (x : Opening). IsOpening packed a.geometry x) (sym (images_give a c n) ∙ e.1)
    (given_begin packed a.geometry n.told (directory_at a c n.side) (document_at a c) (newest_says a c n newest) e.0
    (λ p. document_bytes a c p bytes))

pub openings_begin : OpeningsMayBegin
unfolding opens_to
openings_begin packed a c o bytes h = by_newest packed a c o bytes (newest_of a c) refl h
