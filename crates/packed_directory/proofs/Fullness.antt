-- Whether a bucket is full, by rows.
use Rattle.std.proofs.Common.{◌≡◌, ◌≢◌, ℕ, zero, suc, ◌+◌, ◌*◌, ◌<◌, ◌≤◌, Bool, true, false, cond, eqb, List, [], ◌∷◌, ◌++◌, length, get_or, map, refl, sym, ap, subst, ◌∙◌, arith}
use Rattle.std.specs.Prelude.{filter, ◌||◌}
use Rattle.std.specs.List.{list_any, range_with_len, count_by}
use Rattle.std.proofs.lemmas.Bool.{and_parts, and_from, eqb-true, eq-eqb, ne_eqb, false_from_ne_true}
use Rattle.std.proofs.lemmas.List.{length-map, append-nil, length-append}
use Rattle.std.proofs.lemmas.List.Sums.{length-filter}
use Rattle.std.proofs.lemmas.List.Elements.{filter-append}
use Rattle.std.proofs.lemmas.List.Folds.{list_any-append}
use Rattle.tape_base.specs.declared.geometries.Geometry.{Geometry}
use Rattle.dir_entry.specs.declared.entry.Entry.{Entry}
use Rattle.dir_segment.specs.Lists.{SlotRow, Lists, entry_count, IsFull}
use Rattle.dir_segment.specs.Entries.{AreCounted, used_roots}
use Rattle.dir_table.specs.declared.rows.StoredRow.{StoredRow}
use Rattle.packed_directory.specs.Entering.{BucketEntry, entries_from}
use Rattle.packed_directory.specs.StoredRows.{row_of_entry, rows_of_segments, stored_rows_of_segment}
use Rattle.packed_directory.specs.Packed.{segment_at}
use Rattle.packed_directory.specs.Full.{is_stored_in_bucket, rows_of_one_segment, stored_buckets, is_bucket_full}
use Rattle.packed_directory.proofs.Gathering.{entries_of, in_bucket, entries-cons}
use Rattle.packed_directory.proofs.Leaves.{any-filter, any-map}

abbrev has_chain : List SlotRow → Bool
has_chain [] = false
has_chain (r ∷ rows) = true

-- ---- the entries of one bucket

none_here : (b k : ℕ) (es : List Entry) → b ≢ k → list_any (λ (it : BucketEntry). eqb it.bucket k) (map (in_bucket b) es) ≡ false
none_here b k [] ne = refl
none_here b k (e ∷ es) ne = (λ i. ne_eqb b k ne i || none_here b k es ne i)

none_later : (b k : ℕ) (cs : List (List SlotRow)) → k < b → list_any (λ (it : BucketEntry). eqb it.bucket k) (entries_from b cs) ≡ false
none_later b k [] lt = refl
none_later b k (c ∷ cs) lt =
    let P : BucketEntry → Bool = λ it. eqb it.bucket k in
    ap (list_any P) (entries-cons b c cs)
    ∙ list_any-append P (map (in_bucket b) (entries_of c)) (entries_from (suc b) cs)
    ∙ (λ i. none_here b k (entries_of c) (λ q. let no : b < b = subst (λ n. n < b) (sym q) lt in absurd (omega (arith, no))) i || none_later (suc b) k cs (omega (arith, lt)) i)

some_here : (b k : ℕ) (c : List SlotRow) → b ≡ k → list_any (λ (it : BucketEntry). eqb it.bucket k) (map (in_bucket b) (entries_of c)) ≡ has_chain c
some_here b k [] is = refl
some_here b k (r ∷ c) is = ap (λ (t : Bool). t || list_any (λ (it : BucketEntry). eqb it.bucket k) (map (in_bucket b) (entries_of c))) (eq-eqb b k is)

or-false : (t : Bool) → (t || false) ≡ t
or-false true = refl
or-false false = refl

bucket_has : (b j k : ℕ) (cs : List (List SlotRow)) → b + j ≡ k → list_any (λ (it : BucketEntry). eqb it.bucket k) (entries_from b cs) ≡ has_chain (get_or cs j [])
bucket_has b j k [] is = refl
bucket_has b zero k (c ∷ cs) is =
    let P : BucketEntry → Bool = λ it. eqb it.bucket k in
    ap (list_any P) (entries-cons b c cs)
    ∙ list_any-append P (map (in_bucket b) (entries_of c)) (entries_from (suc b) cs)
    ∙ (λ i. some_here b k c (omega (arith, is)) i || none_later (suc b) k cs (omega (arith, is)) i)
    ∙ or-false (has_chain c)
bucket_has b (suc j) k (c ∷ cs) is =
    let P : BucketEntry → Bool = λ it. eqb it.bucket k in
    ap (list_any P) (entries-cons b c cs)
    ∙ list_any-append P (map (in_bucket b) (entries_of c)) (entries_from (suc b) cs)
    ∙ (λ i. none_here b k (entries_of c) (omega (arith, is)) i || bucket_has (suc b) j k cs (omega (arith, is)) i)

-- ---- counts

count_by-cons : {X : Type 0} (p : X → Bool) (x : X) (xs : List X) → count_by p (x ∷ xs) ≡ cond (p x) 1 0 + count_by p xs
count_by-cons p x xs = sym (length-filter p (x ∷ xs)) ∙ go (p x) ∙ ap (λ n. cond (p x) 1 0 + n) (length-filter p xs) where
  go : (t : Bool) → length (cond t (x ∷ filter p xs) (filter p xs)) ≡ cond t 1 0 + length (filter p xs)
  go true = omega arith
  go false = omega arith

roots_used : (f : ℕ → Bool) (b : ℕ) (cs : List (List SlotRow)) → ((j : ℕ) → j < length cs → f (b + j) ≡ has_chain (get_or cs j [])) → count_by f (range_with_len b (length cs)) ≡ used_roots cs
roots_used f b [] each = refl
roots_used f b (c ∷ cs) each =
    let here : f b ≡ has_chain c = (let z : b ≡ b + 0 = omega arith in ap f z) ∙ each 0 (omega arith) in
    let rest : count_by f (range_with_len (b + 1) (length cs)) ≡ used_roots cs = roots_used f (b + 1) cs (λ j lt.
    let z : (b + 1) + j ≡ b + suc j = omega arith in ap f z ∙ each (suc j) (omega (arith, lt))) in
    count_by-cons f b (range_with_len (b + 1) (length cs)) ∙ (λ i. cond (here i) 1 0 + rest i) ∙ go c where
      go : (c : List SlotRow) → cond (has_chain c) 1 0 + used_roots cs ≡ used_roots (c ∷ cs)
      go [] = omega arith
      go (r ∷ rows) = omega arith

entries_counted : (b : ℕ) (cs : List (List SlotRow)) → length (entries_from b cs) ≡ entry_count cs
entries_counted b [] = refl
entries_counted b (c ∷ cs) =
    ap (λ (q : List BucketEntry). length q) (entries-cons b c cs)
    ∙ length-append (map (in_bucket b) (entries_of c)) (entries_from (suc b) cs)
    ∙ (λ i. (length-map (entries_of c) (in_bucket b) ∙ length-map c (λ (r : SlotRow). r.entry)) i + entries_counted (suc b) cs i)

-- ---- the rows of one segment

module _ (g : Geometry) (cursor seg : ℕ) where
  other_rows : (s : ℕ) (its : List BucketEntry) → s ≢ seg → rows_of_one_segment seg (map (λ (it : BucketEntry). row_of_entry g cursor s it.bucket it.entry) its) ≡ []
  other_rows s [] ne = refl
  other_rows s (it ∷ its) ne = rw (ne_eqb s seg ne) (other_rows s its ne)

  own_rows : (its : List BucketEntry) → rows_of_one_segment seg (map (λ (it : BucketEntry). row_of_entry g cursor seg it.bucket it.entry) its) ≡ map (λ (it : BucketEntry). row_of_entry g cursor seg it.bucket it.entry) its
  own_rows [] = refl
  own_rows (it ∷ its) =
      let f : BucketEntry → StoredRow = λ q. row_of_entry g cursor seg q.bucket q.entry in
      ap (λ (t : Bool). cond t (f it ∷ rows_of_one_segment seg (map f its)) (rows_of_one_segment seg (map f its))) (eq-eqb seg seg refl) ∙ ap (λ (q : List StoredRow). f it ∷ q) (own_rows its)

  later_rows : (s : ℕ) (segments : List Lists) → seg < s → rows_of_one_segment seg (rows_of_segments g cursor s segments) ≡ []
  later_rows s [] lt = refl
  later_rows s (l ∷ rest) lt =
      filter-append (λ (r : StoredRow). eqb r.segment seg) (stored_rows_of_segment g cursor s l) (rows_of_segments g cursor (suc s) rest)
      ∙ (λ i. other_rows s (entries_from 0 l.chains) (λ q. let no : s < s = subst (λ n. n < s) (sym q) lt in absurd (omega (arith, no))) i ++ later_rows (suc s) rest (omega (arith, lt)) i)

  -- no segment behind the last has rows
  pub none_past : (s : ℕ) (segments : List Lists) → s + length segments ≤ seg
      → rows_of_one_segment seg (rows_of_segments g cursor s segments) ≡ []
  none_past s [] le = refl
  none_past s (l ∷ rest) le =
      filter-append (λ (r : StoredRow). eqb r.segment seg) (stored_rows_of_segment g cursor s l) (rows_of_segments g cursor (suc s) rest)
      ∙ (λ i. other_rows s (entries_from 0 l.chains) (λ q. let no : s < s = subst (λ n. s < n) (sym q) (omega (arith, le)) in absurd (omega (arith, no))) i ++ none_past (suc s) rest (omega (arith, le)) i)

  pub rows_in : (s i : ℕ) (segments : List Lists) (none : Lists) → i < length segments → s + i ≡ seg
      → rows_of_one_segment seg (rows_of_segments g cursor s segments) ≡ stored_rows_of_segment g cursor seg (get_or segments i none)
  rows_in s i [] none lt is = absurd (omega (arith, lt))
  rows_in s zero (l ∷ rest) none lt is =
      let here : s ≡ seg = omega (arith, is) in
      filter-append (λ (r : StoredRow). eqb r.segment seg) (stored_rows_of_segment g cursor s l) (rows_of_segments g cursor (suc s) rest)
      ∙ (λ j. (ap (λ n. rows_of_one_segment seg (stored_rows_of_segment g cursor n l)) here ∙ own_rows (entries_from 0 l.chains)) j ++ later_rows (suc s) rest (omega (arith, here)) j)
      ∙ append-nil (stored_rows_of_segment g cursor seg l)
  rows_in s (suc i) (l ∷ rest) none lt is =
      filter-append (λ (r : StoredRow). eqb r.segment seg) (stored_rows_of_segment g cursor s l) (rows_of_segments g cursor (suc s) rest)
      ∙ (λ j. other_rows s (entries_from 0 l.chains) (omega (arith, is)) j ++ rows_in (suc s) i rest none (omega (arith, lt)) (omega (arith, is)) j)

  module _ (segments : List Lists) (within : seg < length segments) where
    abbrev lists : Lists
    lists = segment_at segments seg

    abbrev rows : List StoredRow
    rows = rows_of_segments g cursor 0 segments

    own : rows_of_one_segment seg rows ≡ stored_rows_of_segment g cursor seg lists
    own = rows_in 0 seg segments (record { chains = []; free = [] }) within (omega arith)

    pub rows_counted : length (rows_of_one_segment seg (rows_of_segments g cursor 0 segments))
        ≡ entry_count (segment_at segments seg).chains
    rows_counted =
        ap (λ (q : List StoredRow). length q) own
        ∙ length-map (entries_from 0 lists.chains) (λ (it : BucketEntry). row_of_entry g cursor seg it.bucket it.entry)
        ∙ entries_counted 0 lists.chains

    row_has : (b : ℕ) → list_any (is_stored_in_bucket seg b) rows ≡ has_chain (get_or lists.chains b [])
    row_has b =
        let f : BucketEntry → StoredRow = λ it. row_of_entry g cursor seg it.bucket it.entry in
        any-filter (λ (r : StoredRow). eqb r.segment seg) (λ (r : StoredRow). eqb r.bucket b) rows
        ∙ ap (list_any (λ (r : StoredRow). eqb r.bucket b)) own
        ∙ any-map (λ (r : StoredRow). eqb r.bucket b) f (entries_from 0 lists.chains)
        ∙ bucket_has 0 b b lists.chains (omega arith)

    pub in_use : length (segment_at segments seg).chains ≡ g.buckets → stored_buckets g seg (rows_of_segments g cursor 0 segments) ≡ used_roots (segment_at segments seg).chains
    in_use wide =
        ap (λ n. count_by (λ (b : ℕ). list_any (is_stored_in_bucket seg b) rows) (range_with_len 0 n)) (sym wide)
        ∙ roots_used (λ (b : ℕ). list_any (is_stored_in_bucket seg b) rows) 0 lists.chains (λ j lt. let z : 0 + j ≡ j = omega arith in ap (λ n. list_any (is_stored_in_bucket seg n) rows) z ∙ row_has j)

    module _ (wide : length (segment_at segments seg).chains ≡ g.buckets) (counted : AreCounted (segment_at segments seg)) (b : ℕ) where
      pub full_by_rows : IsFull (segment_at segments seg) b → is_bucket_full g seg b (rows_of_segments g cursor 0 segments) ≡ true
      full_by_rows full =
          let used = in_use wide in
          let free : length lists.free ≡ 0 = ap (λ (q : List ℕ). length q) full.1 in
          let count : length (rows_of_one_segment seg rows) ≡ 3 * g.buckets + stored_buckets g seg rows = omega (arith, rows_counted, used, wide, counted, free) in
          and_from (list_any (is_stored_in_bucket seg b) rows)
          (eqb (length (rows_of_one_segment seg rows)) (3 * g.buckets + stored_buckets g seg rows))
          (row_has b ∙ has (get_or lists.chains b []) full.0) (eq-eqb (length (rows_of_one_segment seg rows)) (3 * g.buckets + stored_buckets g seg rows) count) where
            has : (c : List SlotRow) → c ≢ [] → has_chain c ≡ true
            has [] ne = absurd (ne refl)
            has (r ∷ c) ne = refl

      pub open_by_rows : (IsFull (segment_at segments seg) b → ⊥) → is_bucket_full g seg b (rows_of_segments g cursor 0 segments) ≡ false
      open_by_rows open_ = false_from_ne_true (is_bucket_full g seg b rows) (λ q.
          let used = in_use wide in
          let both = and_parts (list_any (is_stored_in_bucket seg b) rows) (eqb (length (rows_of_one_segment seg rows)) (3 * g.buckets + stored_buckets g seg rows)) q in
          let count = eqb-true (length (rows_of_one_segment seg rows)) (3 * g.buckets + stored_buckets g seg rows) both.1 in
          let free : length lists.free ≡ 0 = omega (arith, rows_counted, used, wide, counted, count) in
          open_ (some (get_or lists.chains b []) (sym (row_has b) ∙ both.0), nil lists.free free)) where
            some : (c : List SlotRow) → has_chain c ≡ true → c ≢ []
            some [] q = absurd (cc q)
            some (r ∷ c) q = λ e. cc e

            nil : (xs : List ℕ) → length xs ≡ 0 → xs ≡ []
            nil [] e = refl
            nil (x ∷ xs) e = absurd (omega (arith, e))
