-- What holds of all entries holds of each row of each chain.
use Rattle.std.proofs.Common.{◌≡◌, ℕ, zero, suc, ◌<◌, ◌≤◌, true, false, cond, eqb, List, [], ◌∷◌, ◌++◌, length, get_or, map, refl, sym, ap, subst, ◌∙◌}
use Rattle.std.specs.Prelude.{filter, Option, Some, None}
use Rattle.std.specs.List.{All}
use Rattle.std.proofs.lemmas.List.Elements.{All-nil, All-cons, All-head, All-tail}
use Rattle.tape_base.specs.declared.geometries.Geometry.{Geometry}
use Rattle.tape_base.specs.declared.keys.Key.{Key}
use Rattle.tape_base.specs.Key.{segment_of, bucket_of, tag_of}
use Rattle.dir_entry.specs.declared.entry.Entry.{Entry}
use Rattle.dir_segment.specs.Lists.{SlotRow, Lists, row, unlinked, chain_of, all_or_behind, behind_slot, first_of_tag, rest_of_tag}
use Rattle.dir_table.specs.declared.rows.StoredRow.{StoredRow}
use Rattle.packed_directory.specs.Entering.{BucketEntry, entries_from}
use Rattle.packed_directory.specs.Phases.{place_of_entry, stands_between}
use Rattle.packed_directory.specs.StoredRows.{row_of_entry, rows_of_segments}
use Rattle.packed_directory.specs.Packed.{AreBetween, segment_at}
use Rattle.packed_directory.specs.PackedWalks.{places_under}
use Rattle.packed_directory.proofs.Gathering.{entries_of, in_bucket, entries-cons}
use Rattle.packed_directory.proofs.Phasing.{parts_between, block_few}
use Rattle.packed_directory.proofs.Under.{rows_under, entries-filter, some_of_tag}

module _ (P : Entry → Type 0) where
  abbrev Q : BucketEntry → Type 0
  Q it = P it.entry

  abbrev AllRows : List SlotRow → Type 0
  AllRows = All (λ (r : SlotRow). P r.entry)

  front_rows : (b : ℕ) (c : List SlotRow) (rest : List BucketEntry) → All Q (map (in_bucket b) (entries_of c) ++ rest) → AllRows c
  front_rows b [] rest h = All-nil (λ (r : SlotRow). P r.entry)
  front_rows b (r ∷ c) rest h =
      All-cons (λ (q : SlotRow). P q.entry) r c (All-head Q (in_bucket b r.entry) (map (in_bucket b) (entries_of c) ++ rest) h)
      (front_rows b c rest (All-tail Q (in_bucket b r.entry) (map (in_bucket b) (entries_of c) ++ rest) h))

  rest_entries : (b : ℕ) (c : List SlotRow) (rest : List BucketEntry) → All Q (map (in_bucket b) (entries_of c) ++ rest) → All Q rest
  rest_entries b [] rest h = h
  rest_entries b (r ∷ c) rest h = rest_entries b c rest (All-tail Q (in_bucket b r.entry) (map (in_bucket b) (entries_of c) ++ rest) h)

  pub chain_all : (b k : ℕ) (cs : List (List SlotRow)) → All Q (entries_from b cs) → AllRows (get_or cs k [])
  chain_all b k [] h = All-nil (λ (r : SlotRow). P r.entry)
  chain_all b zero (c ∷ cs) h = front_rows b c (entries_from (suc b) cs) (subst (All Q) (entries-cons b c cs) h)
  chain_all b (suc k) (c ∷ cs) h = chain_all (suc b) k cs (rest_entries b c (entries_from (suc b) cs) (subst (All Q) (entries-cons b c cs) h))

  slot_all : (s : ℕ) (rows : List SlotRow) → AllRows rows → AllRows (behind_slot s rows)
  slot_all s [] h = h
  slot_all s (r ∷ rows) h =
      let rest = All-tail (λ (q : SlotRow). P q.entry) r rows h in
      elim (eqb r.slot s) as (λ t. AllRows (cond t rows (behind_slot s rows))) [ true ↦ rest | false ↦ slot_all s rows rest ]

  pub behind_all : (after : Option ℕ) (rows : List SlotRow) → AllRows rows → AllRows (all_or_behind after rows)
  behind_all None rows h = h
  behind_all (Some s) rows h = slot_all s rows h

  pub first_all : (tag : ℕ) (rows : List SlotRow) (first : SlotRow) → AllRows rows → first_of_tag tag rows ≡ Some first → P first.entry
  first_all tag [] first h some = absurd (cc some)
  first_all tag (r ∷ rows) first h some =
      elim (eqb r.entry.tag tag) as (λ t. cond t (Some r) (first_of_tag tag rows) ≡ Some first → P first.entry) [
        | true ↦ λ q. let same : r ≡ first =
            cc q in subst (λ (k : SlotRow). P k.entry) same (All-head (λ (k : SlotRow). P k.entry) r rows h)
        | false ↦ λ q. first_all tag rows first (All-tail (λ (k : SlotRow). P k.entry) r rows h) q
      ] some

-- the block of the first entry of a tag behind a slot
pub first_block : (g : Geometry) (cursor low high b tag : ℕ) (after : Option ℕ) (lists : Lists) (slot : ℕ) (e : Entry) → AreBetween g cursor low high lists
    → Some (row slot e) ≡ first_of_tag tag (all_or_behind after (chain_of lists b)) → e.offset ≤ g.content
first_block g cursor low high b tag after lists slot e between found =
    let P : Entry → Type 0 = λ k. stands_between g cursor low high k ≡ true in
    let here : P (unlinked e) = first_all P tag (all_or_behind after (chain_of lists b)) (row slot e) (behind_all P after (chain_of lists b) (chain_all P 0 b lists.chains between)) (sym found) in
    block_few g (unlinked e) (parts_between g cursor low high (unlinked e) here).0

pub first_place : (g : Geometry) (cursor tag : ℕ) (rows rest : List SlotRow) (slot : ℕ) (e : Entry) → Some (row slot e) ≡ first_of_tag tag rows → rest ≡ rest_of_tag tag rows
    → map (λ (r : SlotRow). place_of_entry g cursor r.entry) (filter (λ (r : SlotRow). eqb r.entry.tag tag) rows)
    ≡ place_of_entry g cursor e
    ∷ map (λ (r : SlotRow). place_of_entry g cursor r.entry) (filter (λ (r : SlotRow). eqb r.entry.tag tag) rest)
unfolding place_of_entry
first_place g cursor tag rows rest slot e found is =
    ap (map (λ (r : SlotRow). place_of_entry g cursor r.entry)) (some_of_tag tag rows (row slot e) (sym found))
    ∙ ap (λ (q : List SlotRow). place_of_entry g cursor e ∷ map (λ (r : SlotRow). place_of_entry g cursor r.entry) (filter (λ (r : SlotRow). eqb r.entry.tag tag) q)) (sym is)

pub candidates_are : (g : Geometry) (cursor : ℕ) (key : Key) (segments : List Lists) → segment_of g key < length segments → bucket_of g key < length (segment_at segments (segment_of g key)).chains
    → map (λ (r : SlotRow). place_of_entry g cursor r.entry) (filter (λ (r : SlotRow). eqb r.entry.tag (tag_of key)) (chain_of (segment_at segments (segment_of g key)) (bucket_of g key)))
    ≡ places_under g key (rows_of_segments g cursor 0 segments)
candidates_are g cursor key segments within below =
    let chain : List SlotRow = chain_of (segment_at segments (segment_of g key)) (bucket_of g key) in
    let f : Entry → StoredRow = row_of_entry g cursor (segment_of g key) (bucket_of g key) in
    sym (ap (map (λ (r : StoredRow). r.place)) (rows_under g cursor (segment_of g key) (bucket_of g key) (tag_of key) segments within below ∙ ap (map f) (entries-filter (λ (e : Entry). eqb e.tag (tag_of key)) chain))
    ∙ places (filter (λ (r : SlotRow). eqb r.entry.tag (tag_of key)) chain)) where
      places : (rows : List SlotRow) → map (λ (r : StoredRow). r.place) (map (row_of_entry g cursor (segment_of g key) (bucket_of g key)) (entries_of rows)) ≡ map (λ (r : SlotRow). place_of_entry g cursor r.entry) rows
      places [] = refl
      places (r ∷ rows) = ap (λ (q : List ℕ). place_of_entry g cursor r.entry ∷ q) (places rows)
