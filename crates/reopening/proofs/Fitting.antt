-- The pieces of a segment that are kept have slots in it: each has an entry of its own in the directory, and so has each
-- entry its slot.
use Rattle.std.proofs.Common.{◌≡◌, ◌≤◌, ◌<◌, ◌+◌, ◌*◌, ℕ, zero, suc, Bool, true, false, cond, List, [], ◌∷◌, length, map, Result, Ok, Err, refl, sym, ap, subst, ◌∙◌, arith, inl, inr}
use Rattle.std.specs.Prelude.{◌==◌, ◌&&◌, ◌||◌, nat_le, filter}
use Rattle.std.specs.Result.{is_ok}
use Rattle.std.specs.List.{AllByRecursion, count_by, list_all, list_any, range_with_len}
use Rattle.std.proofs.Math.Nat.{mod-lt}
use Rattle.std.proofs.lemmas.Bool.{and_parts, cases_Bool, cases_lt, eqb-true}
use Rattle.std.proofs.lemmas.List.FromFn.{get_or-map-range_with_len, length-map-range_with_len}
use Rattle.std.proofs.lemmas.List.Folds.{list_any-append}
use Rattle.tape_base.specs.declared.geometries.Geometry.{Geometry}
use Rattle.tape_base.specs.Key.{bucket_of, segment_of, tag_of, word_of}
use Rattle.tape_base.specs.Piece.{key_of_piece}
use Rattle.dir_segment.specs.declared.fault.SegmentFault.{SegmentFault}
use Rattle.dir_segment.specs.Lists.{Lists}
use Rattle.dir_segment.specs.Entries.{AreCounted}
use Rattle.dir_segment.specs.Image.{Marks, image_count, image_head, image_lists, image_slots, image_walk, walk_all}
use Rattle.dir_segment.proofs.Bytes.{length-image}
use Rattle.dir_segment.proofs.Counting.{counted}
use Rattle.dir_segment.proofs.Marking.{accepted}
use Rattle.dir_segment.proofs.Walks.{length-lists_of, lists_of-is}
use Rattle.dir_table.specs.declared.rows.StoredRow.{StoredRow}
use Rattle.dir_table.specs.Wrap.{stored_from}
use Rattle.packed_directory.specs.Entering.{BucketEntry, entries_from}
use Rattle.packed_directory.specs.Full.{is_stored_in_bucket, rows_of_one_segment, stored_buckets}
use Rattle.packed_directory.specs.Packed.{segment_at}
use Rattle.packed_directory.specs.PackedImage.{image_segments, meant_from, means, segment_image}
use Rattle.packed_directory.specs.Phases.{stands_between}
use Rattle.packed_directory.specs.StoredRows.{is_under, row_of_entry, rows_of_segments}
use Rattle.packed_directory.proofs.Fullness.{in_use, rows_counted}
use Rattle.cache_model.specs.State.{Row}
use Rattle.cache_model.specs.Tape.{AreRising}
use Rattle.reopening.specs.Opens.{is_sound}
use Rattle.reopening.proofs.Totals.{all_counted, any_le, bit, count_cons, count_range, none_counted, one_most, total, total_add, total_le, total_none}

-- ---- the slots of a segment

walk_ends : (walk : Result Marks SegmentFault) → is_ok walk ≡ true → (after : Marks) × (walk ≡ Ok after)
walk_ends (Ok marks) h = (marks, refl)
walk_ends (Err fault) h = absurd cc

each_in_range : (p : ℕ → Bool) (from n k : ℕ) → list_all p (range_with_len from n) ≡ true → from ≤ k → k < from + n → p k ≡ true
each_in_range p from zero k all low high = absurd (omega (arith, low, high))
each_in_range p from (suc n) k all low high =
    let e = and_parts (p from) (list_all p (range_with_len (from + 1) n)) all in
    elim (cases_lt from k) [
      | inl less ↦ each_in_range p (from + 1) n k e.1 (omega (arith, less)) (omega (arith, high))
      | inr le ↦ let here : from ≡ k = omega (arith, le, low) in subst (λ j. p j ≡ true) here e.0
    ]

image_accepted : (buckets : ℕ) (bytes : List ℕ) (after : Marks) → image_walk buckets bytes ≡ Ok after
    → walk_all (image_slots buckets bytes) (image_head bytes) (image_count bytes) buckets ≡ Ok after
unfolding image_walk
image_accepted buckets bytes after h = h

-- the lists of a segment whose walk ended are counted
lists_counted : (buckets : ℕ) (bytes : List ℕ) → 0 < buckets → buckets ≤ 16383 → is_ok (image_walk buckets bytes) ≡ true → AreCounted (image_lists buckets bytes)
lists_counted buckets bytes some few sound =
    let walk = walk_ends (image_walk buckets bytes) sound in
    let slots = image_slots buckets bytes in
    let head = image_head bytes in
    let kept = image_count bytes in
    let a = accepted slots head kept buckets walk.0 some few (length-image buckets bytes) (image_accepted buckets bytes walk.0 walk.1) in
    subst AreCounted (sym (lists_of-is slots head kept _ buckets a.lists a.segment)) (counted slots head kept _ buckets a.lists a.segment)

module _ (g : Geometry) (cursor : ℕ) (bytes : List ℕ) (sound : is_sound g bytes ≡ true) (seg : ℕ) (within : seg < g.segments) where
  none : Lists
  none = record { chains = []; free = [] }

  lists_at : ℕ → Lists
  lists_at n = image_lists g.buckets (segment_image g n bytes)

  as_many : length (image_segments g bytes) ≡ g.segments
  as_many = length-map-range_with_len (λ n. image_lists g.buckets (segment_image g n bytes)) 0 g.segments

  segment_is : segment_at (image_segments g bytes) seg ≡ image_lists g.buckets (segment_image g seg bytes)
  segment_is = get_or-map-range_with_len (λ n. image_lists g.buckets (segment_image g n bytes)) 0 g.segments seg seg (record { chains = []; free = [] }) within (omega arith)

  -- the elements of a segment are no more than its slots that are no roots and its roots in use
  pub entries_fit : length (rows_of_one_segment seg (rows_of_segments g cursor 0 (image_segments g bytes)))
      ≤ 3 * g.buckets + stored_buckets g seg (rows_of_segments g cursor 0 (image_segments g bytes))
  entries_fit =
      let segments = image_segments g bytes in
      let lists = segment_at segments seg in
      let there : seg < length segments = omega (arith, within, as_many) in
      let ok = each_in_range (λ n. is_ok (image_walk g.buckets (segment_image g n bytes))) 0 g.segments seg sound (omega arith) (omega (arith, within)) in
      let fit = g.accepted.buckets_fit in
      let sums : AreCounted lists = subst AreCounted (sym segment_is) (lists_counted g.buckets (segment_image g seg bytes) (omega (arith, fit.0)) fit.1 ok) in
      let wide : length lists.chains ≡ g.buckets =
      ap (λ (l : Lists). length l.chains) segment_is ∙ length-lists_of (image_slots g.buckets (segment_image g seg bytes)) (image_head (segment_image g seg bytes)) g.buckets in
      omega (arith, rows_counted g cursor seg segments there, in_use g cursor seg segments there wide, sums, wide)

-- ---- what is told is of them

any_filter : {X : Type 0} (p test : X → Bool) (xs : List X) → list_any p (filter test xs) ≡ true → list_any p xs ≡ true
any_filter p test [] h = h
any_filter p test (x ∷ xs) h = one (test x) (p x) refl (any_filter p test xs) h where
  one : (t q : Bool) → p x ≡ q → (list_any p (filter test xs) ≡ true → list_any p xs ≡ true) → list_any p (cond t (x ∷ filter test xs) (filter test xs)) ≡ true → (q || list_any p xs) ≡ true
  one t true is rest h' = refl
  one true false is rest h' = rest (subst (λ b. (b || list_any p (filter test xs)) ≡ true) is h')
  one false false is rest h' = rest h'

any_map_filter : {X Y : Type 0} (p : Y → Bool) (f : X → Y) (test : X → Bool) (xs : List X) → list_any p (map f (filter test xs)) ≡ true → list_any p (map f xs) ≡ true
any_map_filter p f test [] h = h
any_map_filter p f test (x ∷ xs) h = one (test x) (p (f x)) refl (any_map_filter p f test xs) h where
  one : (t q : Bool) → p (f x) ≡ q → (list_any p (map f (filter test xs)) ≡ true → list_any p (map f xs) ≡ true) → list_any p (map f (cond t (x ∷ filter test xs) (filter test xs))) ≡ true
      → (q || list_any p (map f xs)) ≡ true
  one t true is rest h' = refl
  one true false is rest h' = rest (subst (λ b. (b || list_any p (map f (filter test xs))) ≡ true) is h')
  one false false is rest h' = rest h'

or_both : (a b c d : Bool) → (a ≡ true → c ≡ true) → (b ≡ true → d ≡ true) → (a || b) ≡ true → (c || d) ≡ true
or_both true b c d one other h = ap (λ t. t || d) (one refl)
or_both false b true d one other h = refl
or_both false b false d one other h = other h

module _ (g : Geometry) (cursor : ℕ) (p : StoredRow → Bool) where
  any_meant : (s : ℕ) (segments : List Lists) → list_any p (meant_from g cursor s segments) ≡ true → list_any p (rows_of_segments g cursor s segments) ≡ true
  any_meant s [] h = h
  any_meant s (lists ∷ rest) h =
      let f : BucketEntry → StoredRow = λ it. row_of_entry g cursor s it.bucket it.entry in
      let its = entries_from 0 lists.chains in
      let test : BucketEntry → Bool = λ it. stands_between g cursor 0 cursor it.entry in
      list_any-append p (map f its) (rows_of_segments g cursor (suc s) rest)
      ∙ or_both (list_any p (map f (filter test its))) (list_any p (meant_from g cursor (suc s) rest)) (list_any p (map f its)) (list_any p (rows_of_segments g cursor (suc s) rest))
      (any_map_filter p f test its) (any_meant (suc s) rest)
      (sym (list_any-append p (map f (filter test its)) (meant_from g cursor (suc s) rest)) ∙ h)

  -- what a directory tells above a place stands in one of its slots
  pub any_stored : (low : ℕ) (bytes : List ℕ) → list_any p (stored_from low (means g cursor bytes)) ≡ true → list_any p (rows_of_segments g cursor 0 (image_segments g bytes)) ≡ true
  any_stored low bytes h = any_meant 0 (image_segments g bytes) (any_filter p (λ (r : StoredRow). nat_le low r.place) (means g cursor bytes) h)

-- ---- rows of a segment, bucket by bucket

pub rising_filter : (test : Row → Bool) (low high : ℕ) (rows : List Row) → AreRising low rows high → AreRising low (filter test rows) high
rising_filter test low high [] rise = rise
rising_filter test low high (x ∷ rows) rise =
    by (test x) (filter test rows) (rising_filter test (x.place + 1) high rows rise.3) where
      lower_rows : (a b : ℕ) (rest : List Row) → a ≤ b → AreRising b rest high → AreRising a rest high
      lower_rows a b [] le r = omega (arith, le, r)
      lower_rows a b (y ∷ rest) le r = (omega (arith, le, r.0), r.1, r.2, r.3)

      by : (t : Bool) (rest : List Row) → AreRising (x.place + 1) rest high → AreRising low (cond t (x ∷ rest) rest) high
      by true rest r = (rise.0, rise.1, rise.2, r)
      by false rest r = lower_rows low (x.place + 1) rest (omega (arith, rise.0)) r

pub each_filter : {X : Type 0} (P : X → Type 0) (test : X → Bool) (xs : List X) → AllByRecursion P xs → AllByRecursion (λ x. (test x ≡ true) × P x) (filter test xs)
each_filter {X = X} P test [] each = tt
each_filter {X = X} P test (x ∷ xs) each = by (test x) refl (filter test xs) (each_filter P test xs each.1) where
  by : (t : Bool) → test x ≡ t → (rest : List X) → AllByRecursion (λ y. (test y ≡ true) × P y) rest → AllByRecursion (λ y. (test y ≡ true) × P y) (cond t (x ∷ rest) rest)
  by true is rest all = ((is, each.0), all)
  by false is rest all = all

any_weaker : {X : Type 0} (p q : X → Bool) → ((x : X) → p x ≡ true → q x ≡ true) → (xs : List X) → list_any p xs ≡ true → list_any q xs ≡ true
any_weaker p q each [] h = h
any_weaker p q each (x ∷ xs) h = or_both (p x) (list_any p xs) (q x) (list_any q xs) (each x) (any_weaker p q each xs) h

first_three : (a b c d : Bool) → (a && (b && (c && d))) ≡ true → (a && (b && c)) ≡ true
first_three true true true d h = refl
first_three true true false d h = h
first_three true false c d h = h
first_three false b c d h = h

bit_and : (t q : Bool) → bit (t && q) ≤ bit t
bit_and true true = omega arith
bit_and true false = omega arith
bit_and false q = omega arith

module _ (g : Geometry) (rows : List StoredRow) (seg : ℕ) where
  -- a row of the bucket from a place on
  abbrev is_from : ℕ → ℕ → StoredRow → Bool
  is_from bucket low r = is_stored_in_bucket seg bucket r && nat_le low r.place

  fewer_from : (bucket low from : ℕ) → low ≤ from → (all : List StoredRow) → count_by (is_from bucket from) all ≤ count_by (is_from bucket low) all
  fewer_from bucket low from le [] = omega arith
  fewer_from bucket low from le (r ∷ all) =
      omega (
        arith,
        count_cons (is_from bucket from) r all,
        count_cons (is_from bucket low) r all,
        fewer_from bucket low from le all,
        one (is_stored_in_bucket seg bucket r),
      ) where
        one : (t : Bool) → bit (t && nat_le from r.place) ≤ bit (t && nat_le low r.place)
        one false = omega arith
        one true = grind (arith, le)

  -- the row of a place is not among those behind it
  one_less : (bucket low p : ℕ) → low ≤ p → (all : List StoredRow)
      → list_any (λ r. r.place == p && is_stored_in_bucket seg bucket r) all ≡ true
      → count_by (is_from bucket (p + 1)) all + 1 ≤ count_by (is_from bucket low) all
  one_less bucket low p le [] some = absurd cc
  one_less bucket low p le (r ∷ all) some =
      let behind = count_cons (is_from bucket (p + 1)) r all in
      let from = count_cons (is_from bucket low) r all in
      elim (cases_Bool (r.place == p && is_stored_in_bucket seg bucket r)) [
        | inl this ↦
            let e = and_parts (r.place == p) (is_stored_in_bucket seg bucket r) this in
            let here : r.place ≡ p = eqb-true r.place p e.0 in
            let out : nat_le (p + 1) r.place ≡ false = grind (arith, here) in
            let in_ : nat_le low r.place ≡ true = grind (arith, here, le) in
            let no : bit (is_from bucket (p + 1) r) ≡ 0 = ap (λ t. bit (is_stored_in_bucket seg bucket r && t)) out
            ∙ ap (λ t. bit (t && false)) e.1 in
            let yes : bit (is_from bucket low r) ≡ 1 = ap (λ t. bit (is_stored_in_bucket seg bucket r && t)) in_
            ∙ ap (λ t. bit (t && true)) e.1 in
            omega (arith, behind, from, no, yes, fewer_from bucket low (p + 1) (omega (arith, le)) all)
        | inr other ↦
            let rest = subst (λ t. (t || list_any (λ q. q.place == p && is_stored_in_bucket seg bucket q) all) ≡ true) other some in
            omega (arith, behind, from, one_less bucket low p le all rest, no_more (is_stored_in_bucket seg bucket r))
      ] where
        no_more : (t : Bool) → bit (t && nat_le (p + 1) r.place) ≤ bit (t && nat_le low r.place)
        no_more false = omega arith
        no_more true = grind (arith, le)

  all_from : (bucket low : ℕ) (all : List StoredRow) → count_by (is_from bucket low) all ≤ count_by (is_stored_in_bucket seg bucket) all
  all_from bucket low [] = omega arith
  all_from bucket low (r ∷ all) =
      omega (arith, count_cons (is_from bucket low) r all, count_cons (is_stored_in_bucket seg bucket) r all, all_from bucket low all, bit_and (is_stored_in_bucket seg bucket r) (nat_le low r.place))

  -- the rows of a segment, counted by bucket
  rows_total : (n : ℕ) (all : List StoredRow)
      → total (λ b. count_by (is_stored_in_bucket seg b) all) 0 n ≤ length (rows_of_one_segment seg all)
  rows_total n [] = omega (arith, total_none (λ b. count_by (is_stored_in_bucket seg b) []) 0 n (λ b. refl))
  rows_total n (r ∷ all) =
      let split = total_le (λ b. count_by (is_stored_in_bucket seg b) (r ∷ all))
      (λ b. bit (is_stored_in_bucket seg b r) + count_by (is_stored_in_bucket seg b) all) 0 n
      (λ b. let e = count_cons (is_stored_in_bucket seg b) r all in omega (arith, e)) in
      let sum = total_add (λ b. bit (is_stored_in_bucket seg b r)) (λ b. count_by (is_stored_in_bucket seg b) all) 0 n in
      omega (arith, split, sum, one (r.segment == seg), rows_total n all, longer (r.segment == seg) (rows_of_one_segment seg all)) where
        one : (t : Bool) → total (λ b. bit (t && r.bucket == b)) 0 n ≤ bit t
        one true = one_most r.bucket 0 n
        one false = omega (arith, total_none (λ b. 0) 0 n (λ b. refl))

        longer : (t : Bool) (rest : List StoredRow) → length (cond t (r ∷ rest) rest) ≡ bit t + length rest
        longer true rest = omega arith
        longer false rest = omega arith

  -- a row of this segment, which is told at its place under the key of its piece
  abbrev pub IsTold : Row → Type 0
  IsTold row = (segment_of g (key_of_piece row.id) ≡ seg) × (list_any (λ r. r.place == row.place && is_under g (key_of_piece row.id) r) rows ≡ true)

  told_in : (row : Row) (bucket : ℕ) → IsTold row → bucket_of g (key_of_piece row.id) ≡ bucket → list_any (λ r. r.place == row.place && is_stored_in_bucket seg bucket r) rows ≡ true
  told_in row bucket told is =
      let key = key_of_piece row.id in
      let own : list_any (λ r. r.place == row.place && is_stored_in_bucket (segment_of g key) (bucket_of g key) r) rows ≡ true =
      any_weaker (λ r. r.place == row.place && is_under g key r)
      (λ r. r.place == row.place && is_stored_in_bucket (segment_of g key) (bucket_of g key) r)
      (λ r. first_three (r.place == row.place) (r.segment == segment_of g key) (r.bucket == bucket_of g key) (r.tag == tag_of key)) rows told.1 in
      subst (λ b. list_any (λ r. r.place == row.place && is_stored_in_bucket seg b r) rows ≡ true) is
      (subst (λ n. list_any (λ r. r.place == row.place && is_stored_in_bucket n (bucket_of g key) r) rows ≡ true) told.0 own)

  -- rows that rise, of which each is told, are told apart
  bucket_counted : (bucket low high : ℕ) (all : List Row) → AreRising low all high → AllByRecursion IsTold all
      → count_by (λ (row : Row). bucket_of g (key_of_piece row.id) == bucket) all ≤ count_by (is_from bucket low) rows
  bucket_counted bucket low high [] rise told = omega arith
  bucket_counted bucket low high (x ∷ all) rise told =
      let count = count_cons (λ (row : Row). bucket_of g (key_of_piece row.id) == bucket) x all in
      let rest = bucket_counted bucket (x.place + 1) high all rise.3 told.1 in
      elim (cases_Bool (bucket_of g (key_of_piece x.id) == bucket)) [
        | inl here ↦
            let is : bucket_of g (key_of_piece x.id) ≡ bucket = eqb-true (bucket_of g (key_of_piece x.id)) bucket here in
            omega (arith, count, ap bit here, rest, one_less bucket low x.place rise.0 rows (told_in x bucket told.0 is))
        | inr other ↦ omega (arith, count, ap bit other, rest, fewer_from bucket low (x.place + 1) (omega (arith, rise.0)) rows)
      ]

  module _ (low high : ℕ) (all : List Row) (rise : AreRising low all high) (told : AllByRecursion IsTold all) where
    abbrev has : ℕ → Bool
    has bucket = list_any (λ (row : Row). bucket_of g (key_of_piece row.id) == bucket) all

    abbrev of_bucket : ℕ → ℕ
    of_bucket bucket = count_by (λ (row : Row). bucket_of g (key_of_piece row.id) == bucket) all

    -- a bucket has as many more than its first as it is told, or fewer
    one_bucket : (b : ℕ)
        → of_bucket b + bit (list_any (is_stored_in_bucket seg b) rows) ≤ count_by (is_stored_in_bucket seg b) rows + bit (has b)
    one_bucket b =
        let in_all = bucket_counted b low high all rise told in
        let from = all_from b low rows in
        let used = any_le (is_stored_in_bucket seg b) rows in
        elim (cases_Bool (has b)) [
          | inl some ↦ omega (arith, in_all, from, ap bit some, one_bit (list_any (is_stored_in_bucket seg b) rows))
          | inr lacks ↦ omega (arith, used, ap bit lacks, none_counted (λ (row : Row). bucket_of g (key_of_piece row.id)) b all lacks)
        ] where
          one_bit : (t : Bool) → bit t ≤ 1
          one_bit true = omega arith
          one_bit false = omega arith

    buckets_below : (xs : List Row) → AllByRecursion (λ (row : Row). bucket_of g (key_of_piece row.id) < g.buckets) xs
    buckets_below [] = tt
    buckets_below (x ∷ xs) = (mod-lt (word_of (key_of_piece x.id) 1) (let fit = g.accepted.buckets_fit in omega (arith, fit.0)), buckets_below xs)

    -- so there are slots for all of them
    pub rows_fit : length (rows_of_one_segment seg rows) ≤ 3 * g.buckets + stored_buckets g seg rows
        → length all ≤ 3 * g.buckets + count_by (λ b. list_any (λ (row : Row). bucket_of g (key_of_piece row.id) == b) all) (range_with_len 0 g.buckets)
    rows_fit fits =
        let n = g.buckets in
        let mine = all_counted (λ (row : Row). bucket_of g (key_of_piece row.id)) n all (buckets_below all) in
        let its = rows_total n rows in
        let sums = total_le (λ b. of_bucket b + bit (list_any (is_stored_in_bucket seg b) rows)) (λ b. count_by (is_stored_in_bucket seg b) rows + bit (has b)) 0 n one_bucket in
        let left = total_add of_bucket (λ b. bit (list_any (is_stored_in_bucket seg b) rows)) 0 n in
        let right = total_add (λ b. count_by (is_stored_in_bucket seg b) rows) (λ b. bit (has b)) 0 n in
        let used = count_range (λ b. list_any (is_stored_in_bucket seg b) rows) 0 n in
        let has_some = count_range has 0 n in
        omega (arith, fits, mine, its, sums, left, right, used, has_some)
