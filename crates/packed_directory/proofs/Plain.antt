-- What a packed directory says as a directory of any kind: of its rows without what is kept beside places.
use Rattle.std.proofs.Common.{◌≡◌, ℕ, zero, suc, ◌+◌, ◌-◌, ◌*◌, ◌^◌, ◌<◌, ◌≤◌, Bool, true, false, cond, eqb, min, List, [], ◌∷◌, ◌++◌, length, get_or, map, refl, sym, ap, subst, ◌∙◌, arith, inl, inr}
use Rattle.std.specs.Prelude.{filter, ◌&&◌, ◌||◌, Option, Some, IsSome, MatchBool, IsTrue}
use Rattle.std.specs.Bool.{OnTrue}
use Rattle.std.specs.List.{All, list_any, range_with_len, count_by}
use Rattle.std.specs.List.Sorted.{IsPermutation}
use mathlib.Core.Path.{fun_ext}
use Rattle.std.proofs.lemmas.Bool.{cases_lt, and_parts, eqb-true, eq-eqb, le-leb, lt-ltb, and_from}
use Rattle.std.proofs.lemmas.Bool.Decides.{nat_tests}
use Rattle.std.proofs.lemmas.Nat.{mod_below}
use Rattle.std.proofs.lemmas.List.{length-map, map-append}
use Rattle.std.proofs.lemmas.List.Elements.{All-nil, All-cons, All-head, All-tail, All-weaker, All-get_or}
use Rattle.std.proofs.lemmas.List.Sorted.{IsPermutation-sym, All-permutation}
use Rattle.std.proofs.lemmas.List.Sums.{sum_by-cons, sum_by-append}
use Rattle.tape_base.specs.declared.geometries.Geometry.{Geometry}
use Rattle.tape_base.specs.declared.keys.Key.{Key}
use Rattle.tape_base.specs.Key.{segment_of, bucket_of}
use Rattle.dir_segment.specs.Lists.{SlotRow, Lists, chain_of, entry_count, first_of_tag, steps_to, ticked}
use Rattle.dir_segment.specs.Entries.{AreCounted, used_roots}
use Rattle.dir_segment.specs.Purging.{purged}
use Rattle.dir_table.specs.declared.rows.DirRow.{DirRow}
use Rattle.dir_table.specs.declared.rows.StoredRow.{StoredRow}
use Rattle.dir_table.specs.declared.window.Window.{Window}
use Rattle.dir_table.specs.Candidates.{candidates_of, Counts}
use Rattle.dir_table.specs.Displacement.{Displacement, Displaces, IsPurge, NoneGoes, AreFew, segment_rows_in_range, is_used, buckets_in_range}
use Rattle.dir_table.specs.Displacement as plain
use Rattle.dir_table.specs.Rows.{is_in_bucket, same_row, has_row, spot_of_key, plain_row, plain_rows, LosesPlain}
use Rattle.dir_table.specs.Links.{stands_at}
use Rattle.dir_table.specs.Window.{is_in_range}
use Rattle.dir_table.proofs.RowLists.{plain_filter, plain_places, places_under as listed_under}
use Rattle.packed_directory.specs.Entering.{BucketEntry, entries_from}
use Rattle.packed_directory.specs.Full.{is_stored_in_bucket, rows_of_one_segment, stored_buckets, is_bucket_full}
use Rattle.packed_directory.specs.Leaving.{is_row, LosesRow}
use Rattle.packed_directory.specs.Phases.{place_of_entry}
use Rattle.packed_directory.specs.StoredRows.{row_of_entry, stored_rows_of_segment, rows_of_segments, is_under, is_spot}
use Rattle.packed_directory.specs.Packed.{Packed, packed_rows, window_of, segment_at, IsPacked, IsReadable, GoesOut}
use Rattle.packed_directory.specs.PackedWalks.{places_under, slot_before}
use Rattle.packed_directory.proofs.Enters.{all_before}
use Rattle.packed_directory.proofs.Fullness.{rows_counted, in_use, none_past}
use Rattle.packed_directory.proofs.Gathering.{entries_of, in_bucket, entries-cons}
use Rattle.packed_directory.proofs.Leaves.{any-filter, any-map}
use Rattle.packed_directory.proofs.Readable.{rows_readable}

-- ---- one row of a place

same_test : (row : DirRow) (r : StoredRow) → is_row row.segment row.bucket row.tag row.place r ≡ same_row row (plain_row r)
same_test row r = grind (arith, nat_tests)

pub has_plain : (row : DirRow) (rows : List StoredRow) → list_any (is_row row.segment row.bucket row.tag row.place) rows ≡ has_row row (plain_rows rows)
has_plain row [] = refl
has_plain row (r ∷ rows) = λ i. same_test row r i || has_plain row rows i

pub loses_plain : (row : DirRow) (before after : List StoredRow) → LosesRow (is_row row.segment row.bucket row.tag row.place) before after → LosesPlain row before after
loses_plain row before after l =
    let r : StoredRow = l.row in
    let outer = and_parts (is_spot row.segment row.bucket row.tag r) (eqb r.place row.place) l.is in
    let spot = and_parts (eqb r.segment row.segment) (eqb r.bucket row.bucket && eqb r.tag row.tag) outer.0 in
    let rest = and_parts (eqb r.bucket row.bucket) (eqb r.tag row.tag) spot.1 in
    let segment = eqb-true r.segment row.segment spot.0 in
    let bucket = eqb-true r.bucket row.bucket rest.0 in
    let tag = eqb-true r.tag row.tag rest.1 in
    let place = eqb-true r.place row.place outer.1 in
    record {
      it = r;
      is = λ i. record { segment = segment i; bucket = bucket i; tag = tag i; place = place i };
      left = IsPermutation-sym (r ∷ after) before l.left;
    }

pub on_true : {P : Type 0} (b : Bool) → (b ≡ true → P) → OnTrue b P
on_true true h = h refl
on_true false h = tt

-- ---- all rows are in range

pub all_in_range : (d : Packed) → d.geometry.content ≤ d.cursor → IsPacked d.geometry d.cursor d.floor d.end d.segments → All (λ r. is_in_range (window_of d) r.place ≡ true) (packed_rows d)
all_in_range d first h =
    let count : 0 + length d.segments ≡ d.geometry.segments = omega (arith, h.count) in
    All-weaker (IsReadable d.geometry d.cursor d.floor d.end) (λ r. is_in_range (window_of d) r.place ≡ true)
    (λ r k. and_from _ _ (le-leb d.floor r.place k.low) (lt-ltb r.place d.end k.high)) (packed_rows d)
    (rows_readable d.geometry d.cursor d.floor d.end first 0 d.segments count h.widths h.between)

pub all_ended : (d : Packed) → d.geometry.content ≤ d.cursor → IsPacked d.geometry d.cursor d.floor d.end d.segments → All (λ r. r.place < d.end) (packed_rows d)
all_ended d first h =
    let count : 0 + length d.segments ≡ d.geometry.segments = omega (arith, h.count) in
    All-weaker (IsReadable d.geometry d.cursor d.floor d.end) (λ r. r.place < d.end) (λ r k. k.high) (packed_rows d)
    (rows_readable d.geometry d.cursor d.floor d.end first 0 d.segments count h.widths h.between)

and-true : (b : Bool) → (b && true) ≡ b
and-true true = refl
and-true false = refl

-- ---- how many rows a segment has

plain_segment : (seg : ℕ) (rows : List StoredRow)
    → length (plain.segment_rows seg (plain_rows rows)) ≡ length (rows_of_one_segment seg rows)
plain_segment seg rows =
    ap (λ (q : List DirRow). length q) (plain_filter (λ (r : DirRow). eqb r.segment seg) rows) ∙ length-map (rows_of_one_segment seg rows) plain_row

plain_in_use : (g : Geometry) (seg : ℕ) (rows : List StoredRow) → plain.buckets_in_use g seg (plain_rows rows) ≡ stored_buckets g seg rows
plain_in_use g seg rows = ap (λ (f : ℕ → Bool). count_by f (range_with_len 0 g.buckets)) (fun_ext (λ b. any-map (plain.is_in seg b) plain_row rows))

module _ (g : Geometry) (cursor : ℕ) (segments : List Lists) (widths : All (λ (l : Lists). length l.chains ≡ g.buckets) segments)
    (counted : (k : ℕ) → k < length segments → AreCounted (segment_at segments k)) where
  few_stored : (seg : ℕ) → length (rows_of_one_segment seg (rows_of_segments g cursor 0 segments)) ≤ 3 * g.buckets + stored_buckets g seg (rows_of_segments g cursor 0 segments)
  few_stored seg = elim (cases_lt seg (length segments)) [
    | inl lt ↦
        let wide : length (segment_at segments seg).chains ≡ g.buckets = All-get_or (λ (l : Lists). length l.chains ≡ g.buckets) segments seg (record { chains = []; free = [] }) lt widths in
        let used = in_use g cursor seg segments lt wide in
        let rows = rows_counted g cursor seg segments lt in
        let all : entry_count (segment_at segments seg).chains + length (segment_at segments seg).free
        ≡ 3 * length (segment_at segments seg).chains + used_roots (segment_at segments seg).chains = counted seg lt in
        omega (arith, used, rows, all, wide)
    | inr le ↦
        let none = ap (λ (q : List StoredRow). length q) (none_past g cursor seg 0 segments (omega (arith, le))) in
        omega (arith, none)
  ]

  pub few_plain : AreFew g (plain_rows (rows_of_segments g cursor 0 segments))
  few_plain seg =
      let rows : List StoredRow = rows_of_segments g cursor 0 segments in
      let few = few_stored seg in
      let count = plain_segment seg rows in
      let used = plain_in_use g seg rows in
      omega (arith, few, count, used)

-- ---- what an insert displaces

module _ (w : Window) where
  abbrev Ranged : StoredRow → Type 0
  Ranged r = is_in_range w r.place ≡ true

  live_plain : (seg : ℕ) (rows : List StoredRow) → All (λ r. is_in_range w r.place ≡ true) rows → segment_rows_in_range w seg (plain_rows rows) ≡ plain_rows (rows_of_one_segment seg rows)
  live_plain seg [] all = refl
  live_plain seg (r ∷ rows) all =
      let L : List DirRow = segment_rows_in_range w seg (plain_rows rows) in
      ap (λ (b : Bool). cond (eqb r.segment seg && b) (plain_row r ∷ L) L) (All-head Ranged r rows all)
      ∙ go (eqb r.segment seg) (live_plain seg rows (All-tail Ranged r rows all)) where
        go : (t : Bool) → segment_rows_in_range w seg (plain_rows rows) ≡ plain_rows (rows_of_one_segment seg rows)
            → cond (t && true) (plain_row r ∷ segment_rows_in_range w seg (plain_rows rows)) (segment_rows_in_range w seg (plain_rows rows)) ≡ plain_rows (cond t (r ∷ rows_of_one_segment seg rows) (rows_of_one_segment seg rows))
        go true rest = ap (λ (q : List DirRow). plain_row r ∷ q) rest
        go false rest = rest

  used_plain : (seg : ℕ) (rows : List StoredRow) → All (λ r. is_in_range w r.place ≡ true) rows → (b : ℕ) → is_used w seg (plain_rows rows) b ≡ list_any (is_stored_in_bucket seg b) rows
  used_plain seg rows all b =
      ap (list_any (λ (r : DirRow). eqb r.bucket b)) (live_plain seg rows all)
      ∙ any-map (λ (r : DirRow). eqb r.bucket b) plain_row (rows_of_one_segment seg rows)
      ∙ sym (any-filter (λ (r : StoredRow). eqb r.segment seg) (λ (r : StoredRow). eqb r.bucket b) rows)

  live_length : (seg : ℕ) (rows : List StoredRow) → All (λ r. is_in_range w r.place ≡ true) rows → length (segment_rows_in_range w seg (plain_rows rows)) ≡ length (rows_of_one_segment seg rows)
  live_length seg rows all = ap (λ (q : List DirRow). length q) (live_plain seg rows all)
      ∙ length-map (rows_of_one_segment seg rows) plain_row

  pub full_plain : (row : StoredRow) (rows : List StoredRow) → All (λ r. is_in_range w r.place ≡ true) rows → plain.is_full w (plain_row row) (plain_rows rows) ≡ is_bucket_full w.geometry row.segment row.bucket rows
  full_plain row rows all =
      let seg : ℕ = row.segment in
      let used = ap (λ (f : ℕ → Bool). count_by f (range_with_len 0 w.geometry.buckets)) (fun_ext (used_plain seg rows all)) in
      λ i. used_plain seg rows all row.bucket i && eqb (live_length seg rows all i) (3 * w.geometry.buckets + used i)

  all_plain : (P : DirRow → Type 0) (rows : List StoredRow) → All (λ r. P (plain_row r)) rows → All P (plain_rows rows)
  all_plain P [] all = All-nil P
  all_plain P (r ∷ rows) all =
      All-cons P (plain_row r) (plain_rows rows) (All-head (λ (q : StoredRow). P (plain_row q)) r rows all) (all_plain P rows (All-tail (λ (q : StoredRow). P (plain_row q)) r rows all))

  module _ (lists : Lists) (row : StoredRow) (before gone left : List StoredRow) (goes : Bool) (d : Displacement)
      (all : All (λ r. is_in_range w r.place ≡ true) before) (parted : IsPermutation before (gone ++ left))
      (places : d.places ≡ map (λ (r : StoredRow). r.place) gone) where
    gone_ranged : All (λ (r : StoredRow). is_in_range w r.place ≡ true) gone
    gone_ranged = all_before Ranged gone left (All-permutation Ranged before (gone ++ left) parted all)

    told : (b : Bool) → d.segment ≡ row.segment → d.live ≡ length (rows_of_one_segment row.segment before) → GoesOut b w.geometry w.cursor lists row gone
        → MatchBool b (IsPurge w (plain_row row) (plain_rows before) (plain_rows gone) d) (NoneGoes (plain_rows gone) d)
    told true segment live due = record {
      segment = segment;
      live = live ∙ sym (live_length row.segment before all);
      places = places ∙ sym (plain_places gone);
      count = length-map gone plain_row ∙ due.1;
      own = all_plain (λ (r : DirRow). r.segment ≡ row.segment) gone due.2;
      in_range = all_plain (λ (r : DirRow). IsTrue (is_in_range w r.place)) gone gone_ranged;
    }
    told false segment live due = record {
      none = ap plain_rows due.1;
      untold = places ∙ ap (map (λ (r : StoredRow). r.place)) due.1;
    }

    pub displaces : d.segment ≡ row.segment → d.live ≡ length (rows_of_one_segment row.segment before) → goes ≡ is_bucket_full w.geometry row.segment row.bucket before
        → GoesOut goes w.geometry w.cursor lists row gone
        → Displaces true w (plain_row row) (plain_rows before) (plain_rows gone) d
    displaces segment live full due =
        subst (λ (b : Bool). MatchBool b (IsPurge w (plain_row row) (plain_rows before) (plain_rows gone) d) (NoneGoes (plain_rows gone) d))
        (full ∙ sym (full_plain row before all)) (told goes segment live due)

    -- the places that go are those due
    pub places_due : goes ≡ is_bucket_full w.geometry row.segment row.bucket before → GoesOut goes w.geometry w.cursor lists row gone
        → plain.is_full w (plain_row row) (plain_rows before) ≡ true
        → d.places ≡ map (place_of_entry w.geometry w.cursor) (map (λ (r : SlotRow). r.entry) (purged lists))
    places_due full due is = told_due goes (full ∙ sym (full_plain row before all) ∙ is) due where
      of_entries : (its : List BucketEntry)
          → map (λ (r : StoredRow). r.place) (map (λ (it : BucketEntry). row_of_entry w.geometry w.cursor row.segment it.bucket it.entry) its)
          ≡ map (place_of_entry w.geometry w.cursor) (map (λ (it : BucketEntry). it.entry) its)
      of_entries [] = refl
      of_entries (it ∷ its) = ap (λ (q : List ℕ). place_of_entry w.geometry w.cursor it.entry ∷ q) (of_entries its)

      told_due : (b : Bool) → b ≡ true → GoesOut b w.geometry w.cursor lists row gone
          → d.places ≡ map (place_of_entry w.geometry w.cursor) (map (λ (r : SlotRow). r.entry) (purged lists))
      told_due true same due =
          let taken = due.3 in
          places ∙ ap (map (λ (r : StoredRow). r.place)) taken.are ∙ of_entries taken.its ∙ ap (map (place_of_entry w.geometry w.cursor)) taken.entries
      told_due false same due = absurd (cc same)

-- ---- what a walk has ahead

pub segment_below : (g : Geometry) (key : Key) → segment_of g key < g.segments
segment_below g key = mod_below _ g.segments (omega (arith, g.accepted.segments_fit.0))

pub bucket_below : (g : Geometry) (key : Key) → bucket_of g key < g.buckets
bucket_below g key = mod_below _ g.buckets (omega (arith, g.accepted.buckets_fit.0))

under_test : (g : Geometry) (key : Key) (r : StoredRow) → is_under g key r ≡ stands_at (spot_of_key g key) r
under_test g key r = grind (arith, nat_tests)

pub candidates_plain : (w : Window) (key : Key) (rows : List StoredRow) → All (λ r. is_in_range w r.place ≡ true) rows → places_under w.geometry key rows ≡ candidates_of w key (plain_rows rows)
candidates_plain w key rows all =
    ap (map (λ (r : StoredRow). r.place)) (same rows all) ∙ listed_under w (spot_of_key w.geometry key) rows where
      same : (rows : List StoredRow) → All (λ r. is_in_range w r.place ≡ true) rows
          → filter (is_under w.geometry key) rows ≡ filter (λ r. stands_at (spot_of_key w.geometry key) r && is_in_range w r.place) rows
      same [] all = refl
      same (r ∷ rows) all =
          let here = All-head (Ranged w) r rows all in
          let rest = same rows (All-tail (Ranged w) r rows all) in
          let test : is_under w.geometry key r ≡ (stands_at (spot_of_key w.geometry key) r && is_in_range w r.place) =
          under_test w.geometry key r ∙ sym (ap (λ (b : Bool). stands_at (spot_of_key w.geometry key) r && b) here ∙ and-true (stands_at (spot_of_key w.geometry key) r)) in
          λ i. cond (test i) (r ∷ rest i) (rest i)

module _ (g : Geometry) (cursor : ℕ) (key : Key) where
  abbrev seg : ℕ
  seg = segment_of g key

  abbrev here : List StoredRow → ℕ
  here rows = count_by (is_in_bucket g key) (plain_rows rows)

  abbrev row_at : ℕ → BucketEntry → StoredRow
  row_at s it = row_of_entry g cursor s it.bucket it.entry

  here-cons : (r : StoredRow) (rows : List StoredRow) → here (r ∷ rows) ≡ cond (is_in_bucket g key (plain_row r)) 1 0 + here rows
  here-cons r rows = sum_by-cons (λ (q : DirRow). cond {A = ℕ} (is_in_bucket g key q) 1 0) (plain_row r) (plain_rows rows)

  here-append : (xs ys : List StoredRow) → here (xs ++ ys) ≡ here xs + here ys
  here-append xs ys =
      ap (λ (q : List DirRow). count_by (is_in_bucket g key) q) (map-append plain_row xs ys)
      ∙ sum_by-append (λ (q : DirRow). cond {A = ℕ} (is_in_bucket g key q) 1 0) (plain_rows xs) (plain_rows ys)

  own : (b : ℕ) (c : List SlotRow) → b ≡ bucket_of g key
      → here (map (row_at (segment_of g key)) (map (in_bucket b) (entries_of c))) ≡ length c
  own b [] is = refl
  own b (r ∷ c) is =
      let first : StoredRow = row_at seg (in_bucket b r.entry) in
      let test : is_in_bucket g key (plain_row first) ≡ true =
      and_from (eqb seg seg) (eqb (bucket_of g key) b) (eq-eqb seg seg refl) (eq-eqb (bucket_of g key) b (sym is)) in
      let one : cond {A = ℕ} (is_in_bucket g key (plain_row first)) 1 0 ≡ 1 = ap (λ (t : Bool). cond {A = ℕ} t 1 0) test in
      omega (arith, here-cons first (map (row_at seg) (map (in_bucket b) (entries_of c))), one, own b c is)

  in_chains : (b k : ℕ) (cs : List (List SlotRow)) → b + k ≡ bucket_of g key → length (get_or cs k []) ≤ here (map (row_at (segment_of g key)) (entries_from b cs))
  in_chains b k [] is = omega arith
  in_chains b zero (c ∷ cs) is =
      let f : BucketEntry → StoredRow = row_at seg in
      let parts = ap (λ (q : List BucketEntry). here (map f q)) (entries-cons b c cs)
      ∙ ap here (map-append f (map (in_bucket b) (entries_of c)) (entries_from (suc b) cs))
      ∙ here-append (map f (map (in_bucket b) (entries_of c))) (map f (entries_from (suc b) cs)) in
      omega (arith, parts, own b c (omega (arith, is)))
  in_chains b (suc k) (c ∷ cs) is =
      let f : BucketEntry → StoredRow = row_at seg in
      let parts = ap (λ (q : List BucketEntry). here (map f q)) (entries-cons b c cs)
      ∙ ap here (map-append f (map (in_bucket b) (entries_of c)) (entries_from (suc b) cs))
      ∙ here-append (map f (map (in_bucket b) (entries_of c))) (map f (entries_from (suc b) cs)) in
      omega (arith, parts, in_chains (suc b) k cs (omega (arith, is)))

  in_segments : (s i : ℕ) (segments : List Lists) (none : Lists) → i < length segments → s + i ≡ segment_of g key
      → here (stored_rows_of_segment g cursor (segment_of g key) (get_or segments i none)) ≤ here (rows_of_segments g cursor s segments)
  in_segments s i [] none lt is = absurd (omega (arith, lt))
  in_segments s zero (l ∷ rest) none lt is =
      let same : s ≡ seg = omega (arith, is) in
      let parts = here-append (stored_rows_of_segment g cursor s l) (rows_of_segments g cursor (suc s) rest) in
      let first = ap (λ n. here (stored_rows_of_segment g cursor n l)) same in
      omega (arith, parts, first)
  in_segments s (suc i) (l ∷ rest) none lt is =
      let parts = here-append (stored_rows_of_segment g cursor s l) (rows_of_segments g cursor (suc s) rest) in
      let later = in_segments (suc s) i rest none (omega (arith, lt)) (omega (arith, is)) in
      omega (arith, parts, later)

  pub chain_few : (segments : List Lists) → segment_of g key < length segments
      → length (chain_of (segment_at segments (segment_of g key)) (bucket_of g key)) ≤ count_by (is_in_bucket g key) (plain_rows (rows_of_segments g cursor 0 segments))
  chain_few segments within =
      let all = in_segments 0 seg segments (record { chains = []; free = [] }) within (omega arith) in
      let chain = in_chains 0 (bucket_of g key) (segment_at segments seg).chains (omega arith) in
      omega (arith, all, chain)

-- ---- the steps of a walk

tick_least : (n c : ℕ) → c ≤ 2 ^ 64 - 1 → c ≤ ticked n c
tick_least zero c h = omega arith
tick_least (suc n) c h =
    let rest = tick_least n (min (c + 1) (2 ^ 64 - 1)) (omega arith) in
    omega (arith, rest, h)

tick_most : (n c : ℕ) → ticked n c ≤ c + n
tick_most zero c = omega arith
tick_most (suc n) c =
    let rest = tick_most n (min (c + 1) (2 ^ 64 - 1)) in
    omega (arith, rest)

tick_one : (n c : ℕ) → 1 ≤ n → min (c + 1) (2 ^ 64 - 1) ≤ ticked n c
tick_one zero c some = absurd (omega (arith, some))
tick_one (suc n) c some = tick_least n (min (c + 1) (2 ^ 64 - 1)) (omega arith)

pub counts : (n ahead ahead' before after : ℕ) (place : Option ℕ) → before ≤ 2 ^ 64 - 1 → after ≡ ticked n before → n + ahead' ≤ ahead → (IsSome place → 1 ≤ n) → Counts ahead ahead' place before after
counts n ahead ahead' before after place below is fewer some =
    let most = tick_most n before in
    record {
      later = rw is (tick_least n before below);
      given = λ s. rw is (tick_one n before (some s));
      passed = omega (arith, is, most, fewer);
    }

pub steps_one : (tag : ℕ) (rows : List SlotRow) (first : SlotRow) → first_of_tag tag rows ≡ Some first → 1 ≤ steps_to tag rows
steps_one tag [] first some = absurd (cc some)
steps_one tag (r ∷ rows) first some = omega arith

pub slot_behind : (slot : ℕ) → slot_before (slot + 1) ≡ Some slot
slot_behind slot = grind (arith, nat_tests)
