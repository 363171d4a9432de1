-- What the tests say of a piece by itself.
use Rattle.std.proofs.Common.{◌≡◌, ◌≤◌, ◌<◌, ◌+◌, ◌*◌, ℕ, Bool, true, false, List, [], ◌∷◌, Option, Some, None, refl, ap, subst, arith, inl, inr}
use Rattle.std.specs.Prelude.{nat_le, nat_lt, not, ◌&&◌, ◌||◌, ◌==◌, if◌then◌else◌}
use Rattle.std.specs.List.{AllByRecursion, list_all}
use Rattle.std.specs.Option.{is_none}
use Rattle.std.proofs.lemmas.Bool.{and_parts, cases_lt}
use Rattle.std.proofs.Math.Nat.{mul-le-mul_left}
use Rattle.tape_base.specs.declared.geometries.Geometry.{Geometry}
use Rattle.tape_base.specs.declared.pieces.PieceId.{PieceId}
use Rattle.tape_base.specs.Blocks.{blocks_of}
use Rattle.tape_base.specs.Geometry.{budget_of}
use Rattle.tape_base.specs.Piece.{is_vector}
use Rattle.tape_base.specs.Place.{lap_of, lap_end_of}
use Rattle.stripe_header.specs.declared.states.CopyState.{CopyState}
use Rattle.doc_header.specs.declared.documents.DocFault.{DocFault}
use Rattle.doc_header.specs.Reading.{doc_of, first_fault, length_of, payload_of}
use Rattle.dir_table.specs.declared.rows.StoredRow.{StoredRow}
use Rattle.alternate_vector.specs.Alternates.{Stored}
use Rattle.cache_model.specs.declared.findings.FoundRow.{FoundRow}
use Rattle.cache_model.specs.Openings.{AreEarlierPuts, IsFoundDocument, IsFoundPiece}
use Rattle.reopening.specs.Documents.{listed_in, standing_of}
use Rattle.reopening.specs.Tests.{has_put, is_begun, is_document, is_entered, is_inside, lists_begun, lists_puts, passes_tests}
use Rattle.reopening.specs.Opens.{opening_with}
use Rattle.reopening.proofs.Bounds.{in_lap}

none_is : (o : Option DocFault) → is_none o ≡ true → o ≡ None
none_is None h = refl
none_is (Some fault) h = absurd cc

-- the tests that were passed, one by one
pub record Passed (g : Geometry) (told : CopyState) (rows : List StoredRow) (p : ℕ) (bytes : List ℕ) : Type 0 where
  pub first : g.content ≤ p
  pub sound : first_fault bytes g.generation p ≡ None
  pub small : blocks_of (length_of bytes) ≤ budget_of g
  pub lap : p + blocks_of (length_of bytes) ≤ lap_end_of g p
  pub inside : (not (lap_of g p == lap_of g told.cursor) || nat_le (p + blocks_of (length_of bytes)) told.cursor) ≡ true
  pub entered : is_entered g rows p (doc_of bytes).id ≡ true
  pub begun : has_put told.next_put (doc_of bytes).id ≡ true
  pub lists : lists_puts told.next_put (doc_of bytes).id (payload_of bytes) ≡ true

pub passed_all : (g : Geometry) (told : CopyState) (rows : List StoredRow) (p : ℕ) (bytes : List ℕ) → passes_tests g told rows p bytes ≡ true → Passed g told rows p bytes
passed_all g told rows p bytes h =
    let blocks = blocks_of (length_of bytes) in
    let id = (doc_of bytes).id in
    let lists = lists_puts told.next_put id (payload_of bytes) in
    let begun = has_put told.next_put id in
    let entered = is_entered g rows p id in
    let inside = is_inside g told.cursor p blocks in
    let a = and_parts (is_document g p bytes) (inside && (entered && (begun && lists))) h in
    let b = and_parts inside (entered && (begun && lists)) a.1 in
    let c = and_parts entered (begun && lists) b.1 in
    let d = and_parts begun lists c.1 in
    let document = and_parts (nat_le g.content p) (is_none (first_fault bytes g.generation p)) a.0 in
    let in_cursor = not (lap_of g p == lap_of g told.cursor) || nat_le (p + blocks) told.cursor in
    let e = and_parts (nat_le blocks (budget_of g)) (nat_le (p + blocks) (lap_end_of g p) && in_cursor) b.0 in
    let f = and_parts (nat_le (p + blocks) (lap_end_of g p)) in_cursor e.1 in
    record {
      first = grind (arith, document.0);
      sound = none_is (first_fault bytes g.generation p) document.1;
      small = grind (arith, e.0);
      lap = grind (arith, f.0);
      inside = f.1;
      entered = c.0;
      begun = d.0;
      lists = d.1;
    }

more : (n a b : ℕ) → a < b → n * (a + 1) ≤ n * b
more n a b low = mul-le-mul_left n (omega (arith, low))

-- what begins below the cursor ends there
pub ends_by : (g : Geometry) (cursor p blocks : ℕ) → p < cursor → p + blocks ≤ lap_end_of g p
    → (not (lap_of g p == lap_of g cursor) || nat_le (p + blocks) cursor) ≡ true → p + blocks ≤ cursor
ends_by g cursor p blocks lt lap inside =
    let mine = in_lap g p in
    let its = in_lap g cursor in
    elim (cases_lt (lap_of g p) (lap_of g cursor)) [
      | inl less ↦ omega (arith, lap, more g.content (lap_of g p) (lap_of g cursor) less, its.0)
      | inr ge ↦ elim (cases_lt (lap_of g cursor) (lap_of g p)) [
        | inl over ↦ absurd (omega (arith, more g.content (lap_of g cursor) (lap_of g p) over, mine.0, its.1, lt))
        | inr le ↦
            let same : (lap_of g p == lap_of g cursor) ≡ true = grind (arith, ge, le) in
            let so : nat_le (p + blocks) cursor ≡ true = subst (λ b. (not b || nat_le (p + blocks) cursor) ≡ true) same inside in
            grind (arith, so)
      ]
    ]

begun_parts : (next put : ℕ) → is_begun next put ≡ true → (0 < put) × (put < next)
begun_parts next put h =
    let e = and_parts (nat_lt 0 put) (nat_lt put next) h in
    (grind (arith, e.0), grind (arith, e.1))

has_number : (next : ℕ) (id : PieceId) → has_put next id ≡ true → id.index ≤ 4096 → (0 < id.put) × (id.put < next)
has_number next id h few =
    let low : nat_lt 4096 id.index ≡ false = grind (arith, few) in
    begun_parts next id.put (subst (λ b. (b || is_begun next id.put) ≡ true) low h)

-- a piece that passed, in an opening with any others
pub found_piece : (g : Geometry) (told : CopyState) (rows : List StoredRow) (p : ℕ) (bytes : List ℕ) (found : List FoundRow)
    → Passed g told rows p bytes → IsFoundDocument g (standing_of p bytes) → IsFoundPiece g (opening_with g told found) (standing_of p bytes)
found_piece g told rows p bytes found is document = record {
  document = document;
  size = refl;
  small = is.small;
  lap = is.lap;
  number = has_number told.next_put (doc_of bytes).id is.begun;
  lists = λ none. ap (λ b. if b then listed_in (payload_of bytes) else None) none;
}

begun_each : (next : ℕ) (list : List Stored) → list_all (λ x. is_begun next x.put) list ≡ true → AllByRecursion (λ (x : Stored). (0 < x.put) × (x.put < next)) list
begun_each next [] h = tt
begun_each next (x ∷ list) h =
    let e = and_parts (is_begun next x.put) (list_all (λ (y : Stored). is_begun next y.put) list) h in
    (begun_parts next x.put e.0, begun_each next list e.1)

listed_each : (next : ℕ) (b : Bool) (read : Option (List Stored)) → (if b then lists_begun next read else true) ≡ true
    → (list : List Stored) → (if b then read else None) ≡ Some list → AllByRecursion (λ (x : Stored). (0 < x.put) × (x.put < next)) list
listed_each next false read h list is = absurd cc
listed_each next true None h list is = absurd cc
listed_each next true (Some all) h list is =
    let same : all ≡ list = cc is in
    subst (λ (l : List Stored). AllByRecursion (λ (x : Stored). (0 < x.put) × (x.put < next)) l) same (begun_each next all h)

-- and the puts that it lists
pub earlier_puts : (g : Geometry) (told : CopyState) (rows : List StoredRow) (p : ℕ) (bytes : List ℕ) (found : List FoundRow)
    → Passed g told rows p bytes → AreEarlierPuts (opening_with g told found) (standing_of p bytes)
earlier_puts g told rows p bytes found is = listed_each told.next_put (is_vector (doc_of bytes).id) (listed_in (payload_of bytes)) is.lists
