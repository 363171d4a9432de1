-- The rows under a key are those of its tag in one bucket.
use Rattle.std.proofs.Common.{◌≡◌, ◌≢◌, ℕ, zero, suc, ◌+◌, ◌<◌, Bool, true, false, cond, eqb, List, [], ◌∷◌, ◌++◌, length, get_or, map, refl, sym, ap, subst, ◌∙◌, arith}
use Rattle.std.specs.Prelude.{filter, ◌&&◌, Some, None}
use Rattle.std.proofs.lemmas.Bool.{ne_eqb, eq-eqb}
use Rattle.std.proofs.lemmas.List.{map-append, append-nil}
use Rattle.std.proofs.lemmas.List.Elements.{filter-append}
use Rattle.std.proofs.Math.Bool.{and-false}
use Rattle.tape_base.specs.declared.geometries.Geometry.{Geometry}
use Rattle.dir_entry.specs.declared.entry.Entry.{Entry}
use Rattle.dir_segment.specs.Lists.{SlotRow, Lists, first_of_tag, rest_of_tag, steps_to}
use Rattle.dir_table.specs.declared.rows.StoredRow.{StoredRow}
use Rattle.packed_directory.specs.Entering.{BucketEntry, entries_from}
use Rattle.packed_directory.specs.StoredRows.{row_of_entry, stored_rows_of_segment, rows_of_segments, is_spot}
use Rattle.packed_directory.specs.Packed.{segment_at}
use Rattle.packed_directory.proofs.Gathering.{entries_of, in_bucket, entries-cons}

pub of_tag : ℕ → Entry → Bool
of_tag tag e = eqb e.tag tag

module _ (g : Geometry) (cursor : ℕ) (seg bkt tag : ℕ) where
  abbrev row_at : ℕ → BucketEntry → StoredRow
  row_at s it = row_of_entry g cursor s it.bucket it.entry

  abbrev under : List StoredRow → List StoredRow
  under = filter (is_spot seg bkt tag)

  other_bucket : (s b : ℕ) (es : List Entry) → b ≢ bkt → under (map (row_at s) (map (in_bucket b) es)) ≡ []
  other_bucket s b [] ne = refl
  other_bucket s b (e ∷ es) ne =
      let apart : eqb b bkt ≡ false = ne_eqb b bkt ne in
      let not_so : is_spot seg bkt tag (row_at s (in_bucket b e)) ≡ false =
      ap (λ (t : Bool). eqb s seg && (t && eqb e.tag tag)) apart ∙ and-false (eqb s seg) in
      rw not_so (other_bucket s b es ne)

  own_bucket : (es : List Entry) → under (map (row_at seg) (map (in_bucket bkt) es))
      ≡ map (row_of_entry g cursor seg bkt) (filter (λ (e : Entry). eqb e.tag tag) es)
  own_bucket [] = refl
  own_bucket (e ∷ es) =
      let s : eqb seg seg ≡ true = eq-eqb seg seg refl in
      let b : eqb bkt bkt ≡ true = eq-eqb bkt bkt refl in
      let is : is_spot seg bkt tag (row_at seg (in_bucket bkt e)) ≡ eqb e.tag tag = λ i. s i && (b i && eqb e.tag tag) in
      let row : StoredRow = row_of_entry g cursor seg bkt e in
      let f : Entry → StoredRow = row_of_entry g cursor seg bkt in
      let left : List StoredRow = under (map (row_at seg) (map (in_bucket bkt) es)) in
      ap (λ (t : Bool). cond t (row ∷ left) left) is
      ∙ elim (eqb e.tag tag) as (λ t. cond t (row ∷ left) left ≡ map f (cond t (e ∷ filter (λ (k : Entry). eqb k.tag tag) es) (filter (λ (k : Entry). eqb k.tag tag) es)))
      [ true ↦ ap (λ (q : List StoredRow). row ∷ q) (own_bucket es) | false ↦ own_bucket es ]

  split : (s b : ℕ) (c : List SlotRow) (cs : List (List SlotRow)) → under (map (row_at s) (entries_from b (c ∷ cs)))
      ≡ under (map (row_at s) (map (in_bucket b) (entries_of c))) ++ under (map (row_at s) (entries_from (suc b) cs))
  split s b c cs =
      ap (λ (q : List BucketEntry). under (map (row_at s) q)) (entries-cons b c cs)
      ∙ ap under (map-append (row_at s) (map (in_bucket b) (entries_of c)) (entries_from (suc b) cs))
      ∙ filter-append (is_spot seg bkt tag) (map (row_at s) (map (in_bucket b) (entries_of c))) (map (row_at s) (entries_from (suc b) cs))

  later_buckets : (s b : ℕ) (cs : List (List SlotRow)) → bkt < b → under (map (row_at s) (entries_from b cs)) ≡ []
  later_buckets s b [] lt = refl
  later_buckets s b (c ∷ cs) lt =
      split s b c cs ∙ (λ i. other_bucket s b (entries_of c) (λ q. let no : b < b = subst (λ n. n < b) (sym q) lt in absurd (omega (arith, no))) i ++ later_buckets s (suc b) cs (omega (arith, lt)) i)

  in_segment : (b k : ℕ) (cs : List (List SlotRow)) → k < length cs → b + k ≡ bkt
      → under (map (row_at seg) (entries_from b cs))
      ≡ map (row_of_entry g cursor seg bkt) (filter (λ (e : Entry). eqb e.tag tag) (entries_of (get_or cs k [])))
  in_segment b k [] lt is = absurd (omega (arith, lt))
  in_segment b zero (c ∷ cs) lt is =
      let here : b ≡ bkt = omega (arith, is) in
      let f : Entry → StoredRow = row_of_entry g cursor seg bkt in
      let own : List StoredRow = map f (filter (λ (e : Entry). eqb e.tag tag) (entries_of c)) in
      split seg b c cs
      ∙ (λ i. (ap (λ n. under (map (row_at seg) (map (in_bucket n) (entries_of c)))) here ∙ own_bucket (entries_of c)) i ++ later_buckets seg (suc b) cs (omega (arith, here)) i)
      ∙ append-nil own
  in_segment b (suc k) (c ∷ cs) lt is =
      split seg b c cs
      ∙ (λ i. other_bucket seg b (entries_of c) (omega (arith, is)) i ++ in_segment (suc b) k cs (omega (arith, lt)) (omega (arith, is)) i)

  other_segment : (s : ℕ) (its : List BucketEntry) → s ≢ seg → under (map (row_at s) its) ≡ []
  other_segment s [] ne = refl
  other_segment s (it ∷ its) ne =
      let apart : eqb s seg ≡ false = ne_eqb s seg ne in
      let not_so : is_spot seg bkt tag (row_at s it) ≡ false = ap (λ (t : Bool). t && (eqb it.bucket bkt && eqb it.entry.tag tag)) apart in
      rw not_so (other_segment s its ne)

  later_segments : (s : ℕ) (segments : List Lists) → seg < s → under (rows_of_segments g cursor s segments) ≡ []
  later_segments s [] lt = refl
  later_segments s (l ∷ rest) lt =
      filter-append (is_spot seg bkt tag) (stored_rows_of_segment g cursor s l) (rows_of_segments g cursor (suc s) rest)
      ∙ (λ i. other_segment s (entries_from 0 l.chains) (λ q. let no : s < s = subst (λ n. n < s) (sym q) lt in absurd (omega (arith, no))) i ++ later_segments (suc s) rest (omega (arith, lt)) i)

  in_segments : (s i : ℕ) (segments : List Lists) (none : Lists) → i < length segments → s + i ≡ seg
      → under (rows_of_segments g cursor s segments) ≡ under (stored_rows_of_segment g cursor seg (get_or segments i none))
  in_segments s i [] none lt is = absurd (omega (arith, lt))
  in_segments s zero (l ∷ rest) none lt is =
      let here : s ≡ seg = omega (arith, is) in
      filter-append (is_spot seg bkt tag) (stored_rows_of_segment g cursor s l) (rows_of_segments g cursor (suc s) rest)
      ∙ (λ j. under (stored_rows_of_segment g cursor (here j) l) ++ later_segments (suc s) rest (omega (arith, here)) j)
      ∙ append-nil (under (stored_rows_of_segment g cursor seg l))
  in_segments s (suc i) (l ∷ rest) none lt is =
      filter-append (is_spot seg bkt tag) (stored_rows_of_segment g cursor s l) (rows_of_segments g cursor (suc s) rest)
      ∙ (λ j. other_segment s (entries_from 0 l.chains) (omega (arith, is)) j ++ in_segments (suc s) i rest none (omega (arith, lt)) (omega (arith, is)) j)

  pub rows_under : (segments : List Lists) → seg < length segments → bkt < length (segment_at segments seg).chains
      → filter (is_spot seg bkt tag) (rows_of_segments g cursor 0 segments)
      ≡ map (row_of_entry g cursor seg bkt) (filter (λ (e : Entry). eqb e.tag tag) (entries_of (get_or (segment_at segments seg).chains bkt [])))
  rows_under segments within below =
      in_segments 0 seg segments (record { chains = []; free = [] }) within (omega arith)
      ∙ in_segment 0 bkt (segment_at segments seg).chains below (omega arith)

pub entries-filter : (t : Entry → Bool) (rows : List SlotRow)
    → filter t (entries_of rows) ≡ entries_of (filter (λ (r : SlotRow). t r.entry) rows)
entries-filter t [] = refl
entries-filter t (r ∷ rows) =
    elim (t r.entry) as (λ k. cond k (r.entry ∷ filter t (entries_of rows)) (filter t (entries_of rows)) ≡ entries_of (cond k (r ∷ filter (λ (q : SlotRow). t q.entry) rows) (filter (λ (q : SlotRow). t q.entry) rows)))
    [ true ↦ ap (λ (q : List Entry). r.entry ∷ q) (entries-filter t rows) | false ↦ entries-filter t rows ]

-- ---- the first of a tag

pub none_of_tag : (tag : ℕ) (rows : List SlotRow) → first_of_tag tag rows ≡ None → filter (λ (r : SlotRow). eqb r.entry.tag tag) rows ≡ []
none_of_tag tag [] none = refl
none_of_tag tag (r ∷ rows) none =
    elim (eqb r.entry.tag tag) as (λ t. cond t (Some r) (first_of_tag tag rows) ≡ None → cond t (r ∷ filter (λ (q : SlotRow). eqb q.entry.tag tag) rows) (filter (λ (q : SlotRow). eqb q.entry.tag tag) rows) ≡ [])
    [ true ↦ λ q. absurd (cc q) | false ↦ λ q. none_of_tag tag rows q ] none

pub some_of_tag : (tag : ℕ) (rows : List SlotRow) (first : SlotRow) → first_of_tag tag rows ≡ Some first
    → filter (λ (r : SlotRow). eqb r.entry.tag tag) rows ≡ first ∷ filter (λ (r : SlotRow). eqb r.entry.tag tag) (rest_of_tag tag rows)
some_of_tag tag [] first some = absurd (cc some)
some_of_tag tag (r ∷ rows) first some =
    elim (eqb r.entry.tag tag) as (λ t. cond t (Some r) (first_of_tag tag rows) ≡ Some first → cond t (r ∷ filter (λ (q : SlotRow). eqb q.entry.tag tag) rows) (filter (λ (q : SlotRow). eqb q.entry.tag tag) rows)
    ≡ first ∷ filter (λ (q : SlotRow). eqb q.entry.tag tag) (cond t rows (rest_of_tag tag rows)))
    [ true ↦ λ q. let same : r ≡ first = cc q in ap (λ (k : SlotRow). k ∷ filter (λ (p : SlotRow). eqb p.entry.tag tag) rows) same | false ↦ λ q. some_of_tag tag rows first q ] some

-- ---- the steps of a walk

pub steps_none : (tag : ℕ) (rows : List SlotRow) → first_of_tag tag rows ≡ None → steps_to tag rows ≡ length rows
steps_none tag [] none = refl
steps_none tag (r ∷ rows) none =
    elim (eqb r.entry.tag tag) as (λ t. cond t (Some r) (first_of_tag tag rows) ≡ None → suc (cond t 0 (steps_to tag rows)) ≡ suc (length rows))
    [ true ↦ λ q. absurd (cc q) | false ↦ λ q. ap suc (steps_none tag rows q) ] none

pub steps_some : (tag : ℕ) (rows : List SlotRow) (first : SlotRow) → first_of_tag tag rows ≡ Some first → steps_to tag rows + length (rest_of_tag tag rows) ≡ length rows
steps_some tag [] first some = absurd (cc some)
steps_some tag (r ∷ rows) first some =
    elim (eqb r.entry.tag tag) as (λ t. cond t (Some r) (first_of_tag tag rows) ≡ Some first
    → suc (cond t 0 (steps_to tag rows)) + length (cond t rows (rest_of_tag tag rows)) ≡ suc (length rows))
    [ true ↦ λ q. omega arith | false ↦ λ q. let rest = steps_some tag rows first q in omega (arith, rest) ] some
