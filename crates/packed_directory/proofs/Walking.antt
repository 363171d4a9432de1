-- A walk over all rows, bucket by bucket.
use Rattle.std.proofs.Common.{◌≡◌, ℕ, suc, ◌+◌, ◌-◌, ◌*◌, ◌<◌, ◌≤◌, true, List, [], ◌∷◌, ◌++◌, length, get_or, map, drop, refl, sym, ap, subst, ◌∙◌, arith, append_assoc, inl, inr}
use Rattle.std.specs.List.{All}
use Rattle.std.proofs.lemmas.Bool.{cases_lt}
use Rattle.std.proofs.lemmas.List.{map-append, drop_all}
use Rattle.std.proofs.lemmas.List.Elements.{All-head, All-get_or}
use Rattle.std.proofs.Math.Seq.{drop-cons}
use Rattle.std.proofs.Math.ListN.{get_or-eq_default}
use Rattle.std.specs.Prelude.{Option, Some, None}
use Rattle.tape_base.specs.declared.geometries.Geometry.{Geometry}
use Rattle.dir_entry.specs.declared.entry.Entry.{Entry}
use Rattle.dir_segment.specs.Lists.{SlotRow, Lists, row, unlinked, chain_of, all_or_behind}
use Rattle.dir_table.specs.declared.rows.StoredRow.{StoredRow}
use Rattle.packed_directory.specs.declared.walks.AllWalk.{AllWalk}
use Rattle.packed_directory.specs.Entering.{BucketEntry, entries_from}
use Rattle.packed_directory.specs.Phases.{place_of_entry, stands_between}
use Rattle.packed_directory.specs.StoredRows.{row_of_entry, rows_of_segments}
use Rattle.packed_directory.specs.Packed.{Packed, AreBetween, segment_at}
use Rattle.packed_directory.specs.AllWalks.{rows_from_bucket, rows_ahead}
use Rattle.packed_directory.proofs.Gathering.{entries_of, in_bucket, entries-cons}
use Rattle.packed_directory.proofs.Phasing.{parts_between, block_few}
use Rattle.packed_directory.proofs.Chained.{chain_all, behind_all}

abbrev none : Lists
none = record { chains = []; free = [] }

module _ (g : Geometry) (cursor s : ℕ) where
  abbrev row_at : BucketEntry → StoredRow
  row_at it = row_of_entry g cursor s it.bucket it.entry

  rows_here : (b : ℕ) (c : List SlotRow) → map row_at (map (in_bucket b) (entries_of c)) ≡ map (λ (r : SlotRow). row_of_entry g cursor s b r.entry) c
  rows_here b [] = refl
  rows_here b (r ∷ c) = ap (λ (q : List StoredRow). row_of_entry g cursor s b r.entry ∷ q) (rows_here b c)

  -- the rows of one bucket and then those of the next
  next_bucket : (b : ℕ) (cs : List (List SlotRow)) → b < length cs
      → map row_at (entries_from b (drop b cs)) ≡ map (λ (r : SlotRow). row_of_entry g cursor s b r.entry) (get_or cs b []) ++ map row_at (entries_from (suc b) (drop (suc b) cs))
  next_bucket b cs lt =
      let c : List SlotRow = get_or cs b [] in
      let rest : List (List SlotRow) = drop (suc b) cs in
      ap (λ (q : List (List SlotRow)). map row_at (entries_from b q)) (drop-cons cs b [] lt)
      ∙ ap (map row_at) (entries-cons b c rest)
      ∙ map-append row_at (map (in_bucket b) (entries_of c)) (entries_from (suc b) rest)
      ∙ ap (λ (q : List StoredRow). q ++ map row_at (entries_from (suc b) rest)) (rows_here b c)

-- a walk that stands before a bucket
pub before_bucket : (d : Packed) (s b : ℕ) → b < length (segment_at d.segments s).chains
    → rows_ahead d (record { segment = s; bucket = b; after = None }) ≡ rows_from_bucket d s b
before_bucket d s b lt =
    let cs : List (List SlotRow) = (segment_at d.segments s).chains in
    let own : List StoredRow = map (λ (r : SlotRow). row_of_entry d.geometry d.cursor s b r.entry) (get_or cs b []) in
    let mid : List StoredRow = map (row_at d.geometry d.cursor s) (entries_from (suc b) (drop (suc b) cs)) in
    let later : List StoredRow = rows_of_segments d.geometry d.cursor (suc s) (drop (suc s) d.segments) in
    sym (append_assoc own mid later) ∙ ap (λ (q : List StoredRow). q ++ later) (sym (next_bucket d.geometry d.cursor s b cs lt))

-- behind the last bucket the later segments stand
past_buckets : (d : Packed) (s b : ℕ) → length (segment_at d.segments s).chains ≤ b
    → rows_from_bucket d s b ≡ rows_of_segments d.geometry d.cursor (suc s) (drop (suc s) d.segments)
past_buckets d s b le =
    ap (λ (q : List (List SlotRow)). map (row_at d.geometry d.cursor s) (entries_from b q) ++ rows_of_segments d.geometry d.cursor (suc s) (drop (suc s) d.segments))
    (drop_all b (segment_at d.segments s).chains le)

-- a walk that stands before a segment
pub before_segment : (d : Packed) (s : ℕ) → ((i : ℕ) → i < length d.segments → 0 < length (segment_at d.segments i).chains)
    → rows_ahead d (record { segment = s; bucket = 0; after = None }) ≡ rows_of_segments d.geometry d.cursor s (drop s d.segments)
before_segment d s some = elim (cases_lt s (length d.segments)) [
  | inl lt ↦ before_bucket d s 0 (some s lt) ∙ ap (rows_of_segments d.geometry d.cursor s) (sym (drop-cons d.segments s none lt))
  | inr le ↦
      let empty : segment_at d.segments s ≡ none = get_or-eq_default d.segments none le in
      let over : drop s d.segments ≡ [] = drop_all s d.segments le in
      let over' : drop (suc s) d.segments ≡ [] = drop_all (suc s) d.segments (omega (arith, le)) in
      (λ i. map (λ (r : SlotRow). row_of_entry d.geometry d.cursor s 0 r.entry) (chain_of (empty i) 0)
      ++ (map (row_at d.geometry d.cursor s) (entries_from 1 (drop 1 (empty i).chains)) ++ rows_of_segments d.geometry d.cursor (suc s) (over' i)))
      ∙ ap (rows_of_segments d.geometry d.cursor s) (sym over)
]

-- where the last bucket is passed, the next segment begins
pub after_bucket : (d : Packed) (s b : ℕ) → ((i : ℕ) → i < length d.segments → 0 < length (segment_at d.segments i).chains) → length (segment_at d.segments s).chains ≤ suc b
    → rows_ahead d (record { segment = suc s; bucket = 0; after = None }) ≡ rows_from_bucket d s (suc b)
after_bucket d s b some le = before_segment d (suc s) some ∙ sym (past_buckets d s (suc b) le)

-- ---- the entry that comes next

module _ (g : Geometry) (cursor low high b : ℕ) (after : Option ℕ) (lists : Lists) (slot : ℕ) (e : Entry) (rest : List SlotRow)
    (between : AreBetween g cursor low high lists) (is : all_or_behind after (chain_of lists b) ≡ row slot e ∷ rest) where
  pub next_block : e.offset ≤ g.content
  next_block =
      let P : Entry → Type 0 = λ k. stands_between g cursor low high k ≡ true in
      let all =
      subst (All (λ (r : SlotRow). P r.entry)) is (behind_all P after (chain_of lists b) (chain_all P 0 b lists.chains between)) in
      let here : P (unlinked e) = All-head (λ (r : SlotRow). P r.entry) (row slot e) rest all in
      block_few g (unlinked e) (parts_between g cursor low high (unlinked e) here).0

pub same_row : (g : Geometry) (cursor s b : ℕ) (e : Entry) → row_of_entry g cursor s b (unlinked e) ≡ row_of_entry g cursor s b e
unfolding place_of_entry
same_row g cursor s b e = refl

-- ---- fewer buckets are left

pub fewer_in : (n s b m : ℕ) → s < n → suc b < m → (n - s) * m - suc b < (n - s) * m - b
fewer_in n s b m lt below =
    let k : ℕ = n - suc s in
    let sum : n - s ≡ suc k = omega (arith, lt) in
    let wide : (n - s) * m ≡ k * m + m = ap (λ j. j * m) sum ∙ (let q : suc k * m ≡ k * m + m = omega arith in q) in
    omega (arith, wide, below)

pub fewer_on : (n s b m : ℕ) → s < n → b < m → (n - suc s) * m - 0 < (n - s) * m - b
fewer_on n s b m lt below =
    let k : ℕ = n - suc s in
    let sum : n - s ≡ suc k = omega (arith, lt) in
    let wide : (n - s) * m ≡ k * m + m = ap (λ j. j * m) sum ∙ (let q : suc k * m ≡ k * m + m = omega arith in q) in
    omega (arith, wide, below)

-- each segment has a bucket
pub each_has : (g : Geometry) (segments : List Lists) → All (λ (l : Lists). length l.chains ≡ g.buckets) segments → (i : ℕ) → i < length segments → 0 < length (segment_at segments i).chains
each_has g segments widths i lt =
    let wide = All-get_or (λ (l : Lists). length l.chains ≡ g.buckets) segments i none lt widths in
    omega (arith, wide, g.accepted.buckets_fit.0)

-- behind the last segment no row is left
behind_none : (after : Option ℕ) → all_or_behind after [] ≡ []
behind_none None = refl
behind_none (Some slot) = refl

pub over_all : (d : Packed) (w : AllWalk) → length d.segments ≤ w.segment → rows_ahead d w ≡ []
over_all d w le =
    let empty : segment_at d.segments w.segment ≡ none = get_or-eq_default d.segments none le in
    let over : drop (suc w.segment) d.segments ≡ [] = drop_all (suc w.segment) d.segments (omega (arith, le)) in
    let nil : List (List SlotRow) = [] in
    let short : drop (suc w.bucket) nil ≡ nil = drop_all (suc w.bucket) nil (omega arith) in
    (λ i. map (λ (r : SlotRow). row_of_entry d.geometry d.cursor w.segment w.bucket r.entry)
    (all_or_behind w.after (chain_of (empty i) w.bucket))
    ++ (map (row_at d.geometry d.cursor w.segment) (entries_from (suc w.bucket) (drop (suc w.bucket) (empty i).chains)) ++ rows_of_segments d.geometry d.cursor (suc w.segment) (over i)))
    ∙ (λ i. map (λ (r : SlotRow). row_of_entry d.geometry d.cursor w.segment w.bucket r.entry) (behind_none w.after i)
    ++ (map (row_at d.geometry d.cursor w.segment) (entries_from (suc w.bucket) (short i)) ++ []))
