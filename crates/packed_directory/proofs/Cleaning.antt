-- What a clean of each segment leaves of the rows, also beside a later cursor.
use Rattle.std.proofs.Common.{◌≡◌, ℕ, zero, suc, ◌+◌, ◌-◌, ◌*◌, ◌/◌, ◌<◌, ◌≤◌, Bool, true, false, cond, List, [], ◌∷◌, ◌++◌, length, get_or, map, refl, sym, ap, ◌∙◌, arith}
use Rattle.std.specs.Prelude.{filter, ◌&&◌, nat_le, nat_lt}
use Rattle.std.specs.List.{All}
use Rattle.std.proofs.lemmas.Bool.{leb-true, lt-ltb}
use Rattle.std.proofs.lemmas.List.Elements.{All-nil, All-cons, All-head, All-tail, All-same, All-weaker, All-get_or, All-from_get_or, filter-append, filter_passes}
use Rattle.std.proofs.lemmas.Nat.{le-div}
use Rattle.std.proofs.Math.Nat.{div-mul-le_self, mul-div-le}
use Rattle.tape_base.specs.declared.geometries.Geometry.{Geometry}
use Rattle.tape_base.specs.Place.{lap_of, floor_of}
use Rattle.dir_entry.specs.declared.entry.Entry.{Entry}
use Rattle.dir_segment.specs.Lists.{SlotRow, Lists}
use Rattle.dir_segment.specs.Cleaning.{clean_buckets}
use Rattle.dir_segment.specs.Entries.{CleanKeeps, EntriesAreStored}
use Rattle.dir_table.specs.declared.rows.StoredRow.{StoredRow}
use Rattle.packed_directory.specs.Entering.{BucketEntry, entries_from}
use Rattle.packed_directory.specs.Phases.{IsCursor, least_place, place_of_entry, has_block, stands_between}
use Rattle.packed_directory.specs.StoredRows.{row_of_entry, rows_of_segments}
use Rattle.packed_directory.specs.Packed.{AreBetween, IsPacked, segment_at}
use Rattle.packed_directory.specs.Cleaned.{IsCleaned, AreCleaned}
use Rattle.packed_directory.proofs.Enters.{all_behind, all_before}
use Rattle.packed_directory.proofs.Gathering.{entries_of, in_bucket, entries-cons}
use Rattle.packed_directory.proofs.Phasing.{content_some, one_lap, of_place, place_back, parts_between, between_from}
use Rattle.dir_table.specs.Wrap.{stored_from}

map-filter : (t : Entry → Bool) (b : ℕ) (es : List Entry) → map (in_bucket b) (filter t es) ≡ filter (λ (it : BucketEntry). t it.entry) (map (in_bucket b) es)
map-filter t b [] = refl
map-filter t b (e ∷ es) =
    elim (t e) as (λ k. map (in_bucket b) (cond k (e ∷ filter t es) (filter t es)) ≡ cond k (in_bucket b e ∷ filter (λ (it : BucketEntry). t it.entry) (map (in_bucket b) es)) (filter (λ (it : BucketEntry). t it.entry) (map (in_bucket b) es)))
    [ true ↦ ap (λ (q : List BucketEntry). in_bucket b e ∷ q) (map-filter t b es) | false ↦ map-filter t b es ]

entries_kept : (t : Entry → Bool) (b : ℕ) (cs ds : List (List SlotRow)) → length ds ≡ length cs → ((j : ℕ) → entries_of (get_or ds j []) ≡ filter t (entries_of (get_or cs j [])))
    → entries_from b ds ≡ filter (λ (it : BucketEntry). t it.entry) (entries_from b cs)
entries_kept t b [] [] long each = refl
entries_kept t b [] (d ∷ ds) long each = absurd (omega (arith, long))
entries_kept t b (c ∷ cs) [] long each = absurd (omega (arith, long))
entries_kept t b (c ∷ cs) (d ∷ ds) long each =
    let T : BucketEntry → Bool = λ it. t it.entry in
    let rest : entries_from (suc b) ds ≡ filter T (entries_from (suc b) cs) = entries_kept t (suc b) cs ds (omega (arith, long)) (λ j. each (suc j)) in
    entries-cons b d ds
    ∙ (λ i. map (in_bucket b) (each 0 i) ++ rest i)
    ∙ ap (λ (q : List BucketEntry). q ++ filter T (entries_from (suc b) cs)) (map-filter t b (entries_of c))
    ∙ sym (filter-append T (map (in_bucket b) (entries_of c)) (entries_from (suc b) cs))
    ∙ ap (filter T) (sym (entries-cons b c cs))

pub cleaned_from_law : (law : CleanKeeps) (g : Geometry) (cursor low high : ℕ) (before after : Lists) → EntriesAreStored before
    → after ≡ clean_buckets (stands_between g cursor low high) 0 (length before.chains) before → length after.chains ≡ length before.chains → IsCleaned g cursor low high before after
cleaned_from_law law g cursor low high before after stored is wide = record {
  entries = entries_kept (stands_between g cursor low high) 0 before.chains after.chains wide
      (λ j. ap (λ (q : Lists). entries_of (get_or q.chains j [])) is ∙ law before (stands_between g cursor low high) j stored);
  width = wide;
}

unmap_all : {X Y : Type 0} (P : Y → Type 0) (f : X → Y) (xs : List X) → All P (map f xs) → All (λ x. P (f x)) xs
unmap_all P f [] h = All-nil (λ x. P (f x))
unmap_all P f (x ∷ xs) h = All-cons (λ y. P (f y)) x xs (All-head P (f x) (map f xs) h) (unmap_all P f xs (All-tail P (f x) (map f xs) h))

and_both : (x : Bool) → (true && (x && true)) ≡ x
and_both true = refl
and_both false = refl

-- the lap before begins a lap below a place of the cursor's
pub least_back : (g : Geometry) (cursor : ℕ) → g.content ≤ cursor → least_place g cursor ≤ cursor - g.content
least_back g cursor first =
    let n : ℕ = g.content in
    let back : n * (cursor / n - 1) + n ≡ n * (cursor / n) = step (cursor / n) (one_lap g cursor first) in
    let whole : n * (cursor / n) ≤ cursor = mul-div-le cursor n in
    omega (arith, back, whole) where
      step : (l : ℕ) → 1 ≤ l → g.content * (l - 1) + g.content ≡ g.content * l
      step zero one = absurd (omega (arith, one))
      step (suc l) one =
          let less : suc l - 1 ≡ l = omega arith in
          let q : g.content * suc l ≡ g.content * l + g.content = omega arith in
          rw less (sym q)

pub least_by_floor : (g : Geometry) (cursor floor : ℕ) → IsCursor g.content cursor → floor_of g cursor ≤ floor → least_place g cursor ≤ floor
least_by_floor g cursor floor begun readable = omega (arith, least_back g cursor begun.first, readable)

-- a buffer begins at a later cursor
module _ (g : Geometry) (cursor floor end cursor' floor' : ℕ) (first : g.content ≤ cursor) (begun : IsCursor g.content cursor') (least : least_place g cursor' ≤ floor') where
  same_place : (e : Entry) → has_block g e ≡ true → floor' ≤ place_of_entry g cursor e → place_of_entry g cursor e < cursor' → place_of_entry g cursor' e ≡ place_of_entry g cursor e
  same_place e block low high =
      let p : ℕ = place_of_entry g cursor e in
      let lap : lap_of g p ≤ lap_of g cursor' = le-div (p / g.content) cursor' g.content (content_some g) (omega (arith, high, div-mul-le_self p g.content)) in
      place_back g cursor' p e begun.first (omega (arith, least, low)) lap (of_place g cursor e first block)

  abbrev Old : BucketEntry → Type 0
  Old it = stands_between g cursor floor end it.entry ≡ true

  abbrev Below : BucketEntry → Type 0
  Below it = place_of_entry g cursor it.entry < cursor'

  kept_is : (it : BucketEntry) → Old it → Below it → stands_between g cursor floor' cursor' it.entry ≡ nat_le floor' (place_of_entry g cursor it.entry)
  kept_is it old below =
      let block : has_block g it.entry ≡ true = (parts_between g cursor floor end it.entry old).0 in
      let under : nat_lt (place_of_entry g cursor it.entry) cursor' ≡ true = lt-ltb (place_of_entry g cursor it.entry) cursor' below in
      (λ i. block i && (nat_le floor' (place_of_entry g cursor it.entry) && under i)) ∙ and_both (nat_le floor' (place_of_entry g cursor it.entry))

  abbrev row_at : ℕ → ℕ → BucketEntry → StoredRow
  row_at c s it = row_of_entry g c s it.bucket it.entry

  segment_turned : (s : ℕ) (its : List BucketEntry) → All Old its → All Below its
      → map (row_at cursor' s) (filter (λ (it : BucketEntry). stands_between g cursor floor' cursor' it.entry) its) ≡ stored_from floor' (map (row_at cursor s) its)
  segment_turned s [] old below = refl
  segment_turned s (it ∷ its) old below =
      let o : Old it = All-head Old it its old in
      let u : Below it = All-head Below it its below in
      let rest = segment_turned s its (All-tail Old it its old) (All-tail Below it its below) in
      ap (λ (t : Bool). map (row_at cursor' s) (cond t (it ∷ filter T its) (filter T its))) (kept_is it o u)
      ∙ go (nat_le floor' (place_of_entry g cursor it.entry)) refl o u rest where
        T : BucketEntry → Bool
        T k = stands_between g cursor floor' cursor' k.entry

        go : (t : Bool) → nat_le floor' (place_of_entry g cursor it.entry) ≡ t → Old it → Below it
            → map (row_at cursor' s) (filter (λ (k : BucketEntry). stands_between g cursor floor' cursor' k.entry) its) ≡ stored_from floor' (map (row_at cursor s) its)
            → map (row_at cursor' s) (cond t (it ∷ filter (λ (k : BucketEntry). stands_between g cursor floor' cursor' k.entry) its) (filter (λ (k : BucketEntry). stands_between g cursor floor' cursor' k.entry) its))
            ≡ cond t (row_at cursor s it ∷ stored_from floor' (map (row_at cursor s) its)) (stored_from floor' (map (row_at cursor s) its))
        go true is o u rest =
            let block : has_block g it.entry ≡ true = (parts_between g cursor floor end it.entry o).0 in
            let low : floor' ≤ place_of_entry g cursor it.entry = leb-true floor' (place_of_entry g cursor it.entry) is in
            let same = same_place it.entry block low u in
            λ i. record (row_at cursor s it) { place = same i } ∷ rest i
        go false is o u rest = rest

  segments_turned : (s : ℕ) (before after : List Lists) → length after ≡ length before
      → ((i : ℕ) → i < length before → IsCleaned g cursor floor' cursor' (segment_at before i) (segment_at after i))
      → All (AreBetween g cursor floor end) before → All (λ (r : StoredRow). r.place < cursor') (rows_of_segments g cursor s before)
      → rows_of_segments g cursor' s after ≡ stored_from floor' (rows_of_segments g cursor s before)
  segments_turned s [] [] long each between below = refl
  segments_turned s [] (l ∷ after) long each between below = absurd (omega (arith, long))
  segments_turned s (l ∷ before) [] long each between below = absurd (omega (arith, long))
  segments_turned s (l ∷ before) (k ∷ after) long each between below =
      let P : StoredRow → Type 0 = λ r. r.place < cursor' in
      let its : List BucketEntry = entries_from 0 l.chains in
      let cleaned = each 0 (omega arith) in
      let under : All Below its = unmap_all P (row_at cursor s) its (all_before P (map (row_at cursor s) its) (rows_of_segments g cursor (suc s) before) below) in
      let here : map (row_at cursor' s) (entries_from 0 k.chains) ≡ stored_from floor' (map (row_at cursor s) its) =
      ap (map (row_at cursor' s)) cleaned.entries ∙ segment_turned s its (All-head (AreBetween g cursor floor end) l before between) under in
      let rest = segments_turned (suc s) before after (omega (arith, long)) (λ i lt. each (suc i) (omega (arith, lt))) (All-tail (AreBetween g cursor floor end) l before between)
      (all_behind P (map (row_at cursor s) its) (rows_of_segments g cursor (suc s) before) below) in
      (λ i. here i ++ rest i) ∙ sym (filter-append (λ (r : StoredRow). nat_le floor' r.place) (map (row_at cursor s) its) (rows_of_segments g cursor (suc s) before))

  -- each entry that is left stands for the same place beside the later cursor
  segment_between : (l k : Lists) → IsCleaned g cursor floor' cursor' l k → AreBetween g cursor' floor' cursor' k
  segment_between l k cleaned =
      let T : BucketEntry → Bool = λ it. stands_between g cursor floor' cursor' it.entry in
      let Q : BucketEntry → Type 0 = λ it. stands_between g cursor' floor' cursor' it.entry ≡ true in
      let passed : All (λ (it : BucketEntry). T it ≡ true) (filter T (entries_from 0 l.chains)) = filter_passes T (entries_from 0 l.chains) in
      let one : (it : BucketEntry) → T it ≡ true → Q it = λ it h.
      let parts = parts_between g cursor floor' cursor' it.entry h in
      let same = same_place it.entry parts.0 parts.1 parts.2 in
      between_from g cursor' floor' cursor' it.entry parts.0 (omega (arith, same, parts.1)) (omega (arith, same, parts.2)) in
      All-same Q (entries_from 0 k.chains) (filter T (entries_from 0 l.chains)) cleaned.entries (All-weaker (λ (it : BucketEntry). T it ≡ true) Q one (filter T (entries_from 0 l.chains)) passed)

  pub turned_is_packed : (before after : List Lists) → IsPacked g cursor floor end before → AreCleaned g cursor floor' cursor' before after → floor' ≤ cursor' → IsPacked g cursor' floor' cursor' after
  turned_is_packed before after h cleaned low =
      let none : Lists = record { chains = []; free = [] } in
      record {
        begun = begun;
        readable = (least, low);
        behind = omega arith;
        count = cleaned.count ∙ h.count;
        widths = All-from_get_or (λ (lists : Lists). length lists.chains ≡ g.buckets) after none (λ i lt.
            let lt' : i < length before = omega (arith, lt, cleaned.count) in
            (cleaned.each i lt').width ∙ All-get_or (λ (lists : Lists). length lists.chains ≡ g.buckets) before i none lt' h.widths);
        between = All-from_get_or (AreBetween g cursor' floor' cursor') after none (λ i lt.
            segment_between (segment_at before i) (segment_at after i) (cleaned.each i (omega (arith, lt, cleaned.count))));
      }

  pub turned_rows : (before after : List Lists) → IsPacked g cursor floor end before → AreCleaned g cursor floor' cursor' before after
      → All (λ (r : StoredRow). r.place < cursor') (rows_of_segments g cursor 0 before)
      → rows_of_segments g cursor' 0 after ≡ stored_from floor' (rows_of_segments g cursor 0 before)
  turned_rows before after h cleaned below = segments_turned 0 before after cleaned.count cleaned.each h.between below
