-- The image of a directory names what its elements name, and what it names stands beside it.
use Rattle.std.proofs.Common.{◌≡◌, ◌≤◌, ◌<◌, ◌+◌, ◌-◌, ◌==◌, ◌&&◌, ◌||◌, ℕ, Bool, true, false, if◌then◌else◌, List, [], ◌∷◌, inl, inr, refl, sym, ap, subst, ◌∙◌, arith}
use Rattle.std.specs.Prelude.{IsPermutation, IsTrue, nat_le}
use Rattle.std.specs.List.{AllByRecursion, list_any}
use Rattle.std.proofs.lemmas.Bool.{and_parts, cases_Bool, eqb-true}
use Rattle.std.proofs.lemmas.List.Sorted.{list_any-IsPermutation}
use Rattle.hex.specs.Hex.{IsBytes}
use Rattle.tape_base.specs.declared.pieces.PieceId.{PieceId}
use Rattle.tape_base.specs.declared.geometries.Geometry.{Geometry}
use Rattle.tape_base.specs.Blocks.{blocks_of}
use Rattle.tape_base.specs.Piece.{key_of_piece}
use Rattle.tape_base.specs.Place.{directory_blocks_of, reach_of}
use Rattle.device_log.specs.Image.{Image, IsImage}
use Rattle.device_log.proofs.Spans.{span_same}
use Rattle.stripe_header.specs.declared.area.Area.{Area}
use Rattle.stripe_header.specs.declared.area.Side.{Side}
use Rattle.stripe_header.specs.declared.states.CopyState.{CopyState}
use Rattle.stripe_header.specs.Layout.{block_of_place}
use Rattle.stripe_header.specs.Spelling.{has_counts, has_cursor, has_floor, lies_within, may_say}
use Rattle.doc_header.specs.Moving.{BeginsWith}
use Rattle.dir_table.specs.declared.rows.StoredRow.{StoredRow}
use Rattle.dir_table.specs.Wrap.{stored_from}
use Rattle.packed_directory.specs.PackedImage.{means}
use Rattle.packed_directory.specs.StoredRows.{is_under}
use Rattle.stripe_copies.specs.Copies.{CopiesState, IsBodyOf, target_of}
use Rattle.cache_model.specs.Contents.{Content, doc_of_row}
use Rattle.cache_model.specs.State.{Mark, Row}
use Rattle.cache_model.specs.Tape.{AreRising}
use Rattle.reopening.specs.declared.newest.Newest.{Newest}
use Rattle.reopening.specs.Newest.{bound_of}
use Rattle.reopening.specs.Opens.{rows_at, rows_told}
use Rattle.reopening.specs.Tests.{is_inside}
use Rattle.reopening.specs.Alike.{EndsBy, blocks_told, has_place}
use Rattle.reopening.specs.Found.{StandsRecorded}
use Rattle.reopening.specs.Named.{NamesAll, StandsNamed, is_row_at}
use Rattle.reopening.proofs.Alike.{first_block}
use Rattle.reopening.proofs.Bounds.{in_lap, within}
use Rattle.reopening.proofs.Found.{recorded_found}
use Rattle.sync_laws.specs.KnownCopies.{IsDue, IsNamed, KnownCopies, copy_to_come, elements_of, with_copy}
use Rattle.sync_laws.proofs.Laying.{behind_body, directory_is, off_copy, there_is_image}
use Rattle.sync_laws.proofs.Watching.{gate_few}

-- ---- elements from a place on

module _ (q : StoredRow → Bool) where
  abbrev AnyFrom : ℕ → List StoredRow → Bool
  AnyFrom low rows = list_any (λ (r : StoredRow). nat_le low r.place && q r) rows

  one_from : (b : Bool) (r : StoredRow) (rows more : List StoredRow) (low : ℕ) → list_any q more ≡ AnyFrom low rows
      → list_any q (if b then r ∷ more else more) ≡ ((b && q r) || AnyFrom low rows)
  one_from true r rows more low is = ap (λ b. q r || b) is
  one_from false r rows more low is = is

  any_from : (low : ℕ) (rows : List StoredRow) → list_any q (stored_from low rows) ≡ AnyFrom low rows
  any_from low [] = refl
  any_from low (r ∷ rows) = one_from (nat_le low r.place) r rows (stored_from low rows) low (any_from low rows)

  one_higher : (b : Bool) (low high : ℕ) (r : StoredRow) (rows more : List StoredRow) → nat_le low r.place ≡ b → low ≤ high
      → AnyFrom high more ≡ AnyFrom high rows
      → AnyFrom high (if b then r ∷ more else more) ≡ ((nat_le high r.place && q r) || AnyFrom high rows)
  one_higher true low high r rows more is le same = ap (λ b. (nat_le high r.place && q r) || b) same
  one_higher false low high r rows more is le same =
      let none : nat_le high r.place ≡ false = grind (arith, is, le) in
      same ∙ sym (ap (λ b. (b && q r) || AnyFrom high rows) none)

  -- from a higher place on, of those from a lower one on
  any_higher : (low high : ℕ) → low ≤ high → (rows : List StoredRow) → AnyFrom high (stored_from low rows) ≡ AnyFrom high rows
  any_higher low high le [] = refl
  any_higher low high le (r ∷ rows) =
      one_higher (nat_le low r.place) low high r rows (stored_from low rows) refl le (any_higher low high le rows)

  -- of a directory and of what its image tells
  any_told : (low bound : ℕ) → low ≤ bound → (rows told : List StoredRow) → IsPermutation (stored_from low rows) told
      → list_any q (stored_from bound told) ≡ list_any q (stored_from bound rows)
  any_told low bound le rows told same =
      any_from bound told
      ∙ (sym (list_any-IsPermutation (λ (r : StoredRow). nat_le bound r.place && q r) (stored_from low rows) told same)
      ∙ (any_higher low bound le rows ∙ sym (any_from bound rows)))

-- ---- places

rising_below : (low high top : ℕ) (rows : List Row) → high ≤ top → AreRising low rows high → AreRising low rows top
rising_below low high top [] le is = omega (arith, le, is)
rising_below low high top (row ∷ rows) le is =
    (is.0, is.1, let e = is.2 in omega (arith, le, e), rising_below (row.place + 1) high top rows le is.3)

-- the bound of a copy is not below that of its image
module _ (g : Geometry) (s : CopyState) (says : IsTrue (may_say g s)) where
  bound_by : (clean : Bool) → (if clean then lies_within (s.cursor + g.agg - g.content) (reach_of g s.cursor - g.content) s.floor else s.floor == 0) ≡ true
      → s.cursor - g.content ≤ (if clean then s.floor else reach_of g s.cursor - g.content)
  bound_by true is = let w = within (s.cursor + g.agg - g.content) (reach_of g s.cursor - g.content) s.floor is in omega (arith, w.0)
  bound_by false is = omega (arith, (in_lap g s.cursor).1)

  bound_high : s.cursor - g.content ≤ bound_of g s
  bound_high = bound_by s.clean (and_parts (has_cursor g s && has_counts s) (has_floor g s) says).1

-- ---- what the copy of a sync names

module _ (w : KnownCopies) (s : CopyState) (stored : List StoredRow) (body : List ℕ) (of : IsBodyOf w.copies.area.geometry s stored body)
    (directory : w.copies.area.directory ≡ directory_blocks_of w.copies.area.geometry) (c : Image) (image : IsImage c) (bytes : IsBytes body) where
  abbrev k : CopiesState
  k = w.copies

  abbrev a : Area
  a = k.area

  abbrev g : Geometry
  g = a.geometry

  abbrev side : Side
  side = target_of k

  abbrev there : Image
  there = with_copy a side body c

  abbrev n : Newest
  n = copy_to_come k s

  elements : rows_at a there n ≡ stored_from (bound_of g s) (means g s.cursor of.image)
  unfolding rows_told
  elements = ap (rows_told g s) (directory_is k s stored body of directory c image bytes)

  any_element : (q : StoredRow → Bool) → list_any q (rows_at a there n) ≡ list_any q (elements_of g s stored)
  any_element q =
      let low = of.of.told.below in
      let high = bound_high g s of.copy.says in
      ap (list_any q) elements
      ∙ any_told q of.of.told.low (bound_of g s) (omega (arith, low, high)) stored (means g s.cursor of.image) of.of.told.from

  -- content is as it was
  content_same : (p j : ℕ) → block_of_place a p ≤ j → there j ≡ c j
  content_same p j low =
      let few = gate_few side in
      off_copy k s stored body of directory c j (λ e. omega (arith, low, e, few)) (λ from to. behind_body a side j to (omega (arith, low)))

  stands_there : (row : Row) (x : Content) → StandsRecorded a c row x → StandsRecorded a there row x
  stands_there row x is = record {
    fits = is.fits;
    lap = is.lap;
    begins = subst (λ l. BeginsWith l (doc_of_row g row x.start) x.payload)
        (sym (span_same there c (block_of_place a row.place) row.blocks (λ j low high. content_same row.place j low))) is.begins;
    recorded = is.recorded;
    fragment = is.fragment;
    vector = is.vector;
  }

  named_there : (row : Row) (x : Content) → IsNamed a s stored c row x → StandsNamed a there n row x
  named_there row x is = record {
    from = is.from;
    stands = stands_there row x is.stands;
    inside = is.inside;
    entered = any_element (λ r. r.place == row.place && is_under g (key_of_piece row.id) r) ∙ is.entered;
    put = is.put;
    lists = is.lists;
  }

  module _ (m : Mark) (content : PieceId → Content) (due : IsDue w s stored m content c) where
    all_named : (rows : List Row) → AllByRecursion (λ (row : Row). IsNamed a s stored c row (content row.id)) rows
        → AllByRecursion (λ (row : Row). StandsNamed a there n row (content row.id)) rows
    all_named [] each = tt
    all_named (row ∷ rows) each = (named_there row (content row.id) each.0, all_named rows each.1)

    has_row : (p : ℕ) → has_place p (rows_at a there n) ≡ true → is_row_at m.rows p ≡ true
    has_row p is = due.no_more p (sym (any_element (λ r. r.place == p)) ∙ is)

    pub names_all : NamesAll a there n content m.rows
    names_all = record {
      rising = subst (λ low. AreRising low m.rows s.cursor) (sym due.tells.low)
          (subst (AreRising m.low m.rows) (sym due.tells.cursor) (rising_below m.low m.end m.cursor m.rows due.below due.rising));
      stand = all_named m.rows due.each;
      no_more = has_row;
      even = due.even;
    }

    abbrev Ends : ℕ → Type 0
    Ends p = (p < m.end) × (is_inside g s.cursor p (blocks_told a there p) ≡ true → p + blocks_told a there p ≤ m.end)

    ends_one : (row : Row) → StandsRecorded a there row (content row.id) → 0 < row.blocks → row.place + row.blocks ≤ m.end → Ends row.place
    ends_one row is some ends =
        let whole = there_is_image k s stored body of directory c image bytes in
        let found = recorded_found a there row (content row.id) whole is in
        let blocks : blocks_told a there row.place ≡ row.blocks =
        sym (ap blocks_of (first_block a there row.place (whole.whole (block_of_place a row.place)))) ∙ ap (λ (r : Row). r.blocks) found.found in
        (omega (arith, some, ends), λ inside. omega (arith, ends, blocks))

    ends_each : (p low : ℕ) (rows : List Row) → AreRising low rows m.end
        → AllByRecursion (λ (row : Row). IsNamed a s stored c row (content row.id)) rows → is_row_at rows p ≡ true → Ends p
    ends_each p low [] rising each is = absurd cc
    ends_each p low (row ∷ rows) rising each is = elim (cases_Bool (row.place == p)) [
      | inl same ↦ subst Ends (eqb-true row.place p same) (ends_one row (stands_there row (content row.id) each.0.stands) rising.1 rising.2)
      | inr other ↦ ends_each p (row.place + 1) rows rising.3 each.1 (sym (ap (λ b. b || is_row_at rows p) other) ∙ is)
    ]

    pub ends_by : EndsBy a there n m.end
    ends_by p low is = ends_each p m.low m.rows due.rising due.each (has_row p is)
