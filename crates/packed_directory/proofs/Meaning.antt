-- What an image means beside its cursor is what the directory has.
use Rattle.std.proofs.Common.{◌≡◌, ℕ, suc, ◌+◌, ◌-◌, ◌*◌, ◌/◌, ◌%◌, ◌<◌, ◌≤◌, Bool, true, false, cond, eqb, List, [], ◌∷◌, ◌++◌, length, map, refl, sym, ap, ◌∙◌, arith, inl, inr}
use Rattle.std.specs.Prelude.{filter, ◌&&◌, nat_le, nat_lt, not}
use Rattle.std.specs.List.{All}
use mathlib.Core.Bool.{beq}
use Rattle.std.proofs.lemmas.Bool.{cases_lt, leb-true, leb-false, le-leb, le-ltb}
use Rattle.std.proofs.lemmas.Nat.{le-div}
use Rattle.std.proofs.lemmas.List.Elements.{All-head, All-tail, All-same, All-get_or, All-from_get_or, filter-append, filter_passes}
use Rattle.std.proofs.Math.Bool.{and-false}
use Rattle.std.proofs.Math.Nat.{div-mul-le_self, mul-div-le}
use Rattle.tape_base.specs.declared.geometries.Geometry.{Geometry}
use Rattle.tape_base.specs.Place.{lap_of, phase_of, lap_end_of}
use Rattle.dir_entry.specs.declared.entry.Entry.{Entry}
use Rattle.dir_segment.specs.Lists.{Lists}
use Rattle.dir_table.specs.declared.rows.StoredRow.{StoredRow}
use Rattle.packed_directory.specs.Entering.{BucketEntry, entries_from}
use Rattle.packed_directory.specs.Phases.{IsCursor, least_place, laps_back, place_of_entry, has_block, stands_between}
use Rattle.packed_directory.specs.StoredRows.{row_of_entry, rows_of_segments}
use Rattle.packed_directory.specs.Packed.{AreBetween, IsPacked, segment_at}
use Rattle.packed_directory.specs.Cleaned.{IsCleaned, AreCleaned}
use Rattle.packed_directory.specs.PackedImage.{meant_from}
use Rattle.packed_directory.proofs.Phasing.{content_some, one_lap, of_place, place_back, place_least, parts_between, between_from, next_phase, same_beq, not-not}
use Rattle.dir_table.specs.Wrap.{stored_from}

abbrev row_at : Geometry → ℕ → ℕ → BucketEntry → StoredRow
row_at g c s it = row_of_entry g c s it.bucket it.entry

-- ---- reading

module _ (g : Geometry) (cursor floor : ℕ) where
  abbrev Meant : BucketEntry → Bool
  Meant it = stands_between g cursor 0 cursor it.entry

  abbrev Kept : BucketEntry → Bool
  Kept it = stands_between g cursor floor cursor it.entry

  segment_meant : (s : ℕ) (its : List BucketEntry) → map (row_at g cursor s) (filter Kept its) ≡ stored_from floor (map (row_at g cursor s) (filter Meant its))
  segment_meant s [] = refl
  segment_meant s (it ∷ its) =
      go (has_block g it.entry) (nat_lt (place_of_entry g cursor it.entry) cursor) (nat_le floor (place_of_entry g cursor it.entry)) refl
      (nat_le 0 (place_of_entry g cursor it.entry)) (le-leb 0 (place_of_entry g cursor it.entry) (omega arith)) (segment_meant s its) where
        go : (a u l : Bool) → nat_le floor (place_of_entry g cursor it.entry) ≡ l → (z : Bool) → z ≡ true
            → map (row_at g cursor s) (filter Kept its) ≡ stored_from floor (map (row_at g cursor s) (filter Meant its))
            → map (row_at g cursor s) (cond (a && (l && u)) (it ∷ filter Kept its) (filter Kept its))
            ≡ stored_from floor (map (row_at g cursor s) (cond (a && (z && u)) (it ∷ filter Meant its) (filter Meant its)))
        go false u l is z zt rest = rest
        go true u l is false zt rest = absurd (cc zt)
        go true false true is true zt rest = rest
        go true false false is true zt rest = rest
        go true true true is true zt rest =
            sym (ap (λ (t : Bool). cond t (row_at g cursor s it ∷ stored_from floor (map (row_at g cursor s) (filter Meant its))) (stored_from floor (map (row_at g cursor s) (filter Meant its)))) is
            ∙ ap (λ (q : List StoredRow). row_at g cursor s it ∷ q) (sym rest))
        go true true false is true zt rest =
            rest ∙ sym (ap (λ (t : Bool). cond t (row_at g cursor s it ∷ stored_from floor (map (row_at g cursor s) (filter Meant its))) (stored_from floor (map (row_at g cursor s) (filter Meant its)))) is)

  meant_cleaned : (s : ℕ) (before after : List Lists) → length after ≡ length before
      → ((i : ℕ) → i < length before → IsCleaned g cursor floor cursor (segment_at before i) (segment_at after i))
      → rows_of_segments g cursor s after ≡ stored_from floor (meant_from g cursor s before)
  meant_cleaned s [] [] long each = refl
  meant_cleaned s [] (l ∷ after) long each = absurd (omega (arith, long))
  meant_cleaned s (l ∷ before) [] long each = absurd (omega (arith, long))
  meant_cleaned s (l ∷ before) (k ∷ after) long each =
      let its : List BucketEntry = entries_from 0 l.chains in
      let here : map (row_at g cursor s) (entries_from 0 k.chains) ≡ stored_from floor (map (row_at g cursor s) (filter Meant its)) = ap (map (row_at g cursor s)) (each 0 (omega arith)).entries ∙ segment_meant s its in
      let rest = meant_cleaned (suc s) before after (omega (arith, long)) (λ i lt. each (suc i) (omega (arith, lt))) in
      (λ i. here i ++ rest i) ∙ sym (filter-append (λ (r : StoredRow). nat_le floor r.place) (map (row_at g cursor s) (filter Meant its)) (meant_from g cursor (suc s) before))

  pub read_rows : (before after : List Lists) → AreCleaned g cursor floor cursor before after → rows_of_segments g cursor 0 after ≡ stored_from floor (meant_from g cursor 0 before)
  read_rows before after cleaned = meant_cleaned 0 before after cleaned.count cleaned.each

  segment_read : (l k : Lists) → IsCleaned g cursor floor cursor l k → AreBetween g cursor floor cursor k
  segment_read l k cleaned =
      All-same (λ (it : BucketEntry). Kept it ≡ true) (entries_from 0 k.chains) (filter Kept (entries_from 0 l.chains)) cleaned.entries (filter_passes Kept (entries_from 0 l.chains))

  pub read_is_packed : (before after : List Lists) → IsCursor g.content cursor → (least_place g cursor ≤ floor) × (floor ≤ cursor) → length before ≡ g.segments
      → All (λ (l : Lists). length l.chains ≡ g.buckets) before → AreCleaned g cursor floor cursor before after → IsPacked g cursor floor cursor after
  read_is_packed before after begun low count widths cleaned =
      let none : Lists = record { chains = []; free = [] } in
      record {
        begun = begun;
        readable = low;
        behind = omega arith;
        count = cleaned.count ∙ count;
        widths = All-from_get_or (λ (l : Lists). length l.chains ≡ g.buckets) after none (λ i lt.
            let lt' : i < length before = omega (arith, lt, cleaned.count) in
            (cleaned.each i lt').width ∙ All-get_or (λ (l : Lists). length l.chains ≡ g.buckets) before i none lt' widths);
        between = All-from_get_or (AreBetween g cursor floor cursor) after none (λ i lt.
            segment_read (segment_at before i) (segment_at after i) (cleaned.each i (omega (arith, lt, cleaned.count))));
      }

-- ---- writing

times_le : (n a b : ℕ) → a ≤ b → n * a ≤ n * b
times_le n a b le =
    let d : ℕ = b - a in
    let sum : b ≡ a + d = omega (arith, le) in
    let wide : n * b ≡ n * a + n * d = ap (λ k. n * k) sum ∙ (let q : n * (a + d) ≡ n * a + n * d = omega arith in q) in
    omega (arith, wide)

turned : (a b n : ℕ) → a * n ≤ b → n * a ≤ b
turned a b n le = let q : n * a ≡ a * n = omega arith in omega (arith, q, le)

module _ (g : Geometry) (cursor low high next : ℕ) (first : g.content ≤ cursor) (behind : high ≤ next) (begun : g.content ≤ next) (most : next ≤ lap_end_of g cursor) where
  abbrev Old : BucketEntry → Type 0
  Old it = stands_between g cursor low high it.entry ≡ true

  abbrev Then : BucketEntry → Bool
  Then it = stands_between g next 0 next it.entry

  -- the lap of the next cursor is the cursor's or the one behind
  lap_most : lap_of g next ≤ lap_of g cursor + 1
  lap_most =
      let whole : lap_of g next * g.content ≤ next = div-mul-le_self next g.content in
      let fits : g.content * lap_of g next ≤ g.content * (lap_of g cursor + 1) = omega (arith, turned (lap_of g next) next g.content whole, most) in
      step (lap_of g next) (lap_of g cursor + 1) fits where
        step : (a b : ℕ) → g.content * a ≤ g.content * b → a ≤ b
        step a b le = elim (cases_lt b a) [
          | inr ge ↦ ge
          | inl lt ↦
              let wide = times_le g.content (suc b) a lt in
              let q : g.content * suc b ≡ g.content * b + g.content = omega arith in
              absurd (omega (arith, wide, q, le, content_some g))
        ]

  -- what stands from the lap before the next cursor's on stands there then too
  still : (it : BucketEntry) → Old it → least_place g next ≤ place_of_entry g cursor it.entry → (place_of_entry g next it.entry ≡ place_of_entry g cursor it.entry) × (Then it ≡ true)
  still it old least =
      let p : ℕ = place_of_entry g cursor it.entry in
      let parts = parts_between g cursor low high it.entry old in
      let below : p < next = omega (arith, parts.2, behind) in
      let lap : lap_of g p ≤ lap_of g next = le-div (p / g.content) next g.content (content_some g) (omega (arith, below, div-mul-le_self p g.content)) in
      let same : place_of_entry g next it.entry ≡ p = place_back g next p it.entry begun least lap (of_place g cursor it.entry first parts.0) in
      (same, between_from g next 0 next it.entry parts.0 (omega arith) (omega (arith, same, below)))

  there_from : (e : Entry) → beq e.phase (phase_of g next) ≡ true → next ≤ g.content * lap_of g next → next ≤ place_of_entry g next e
  unfolding place_of_entry
  there_from e same begins =
      let none : lap_of g next - laps_back g next e ≡ lap_of g next = let k : laps_back g next e ≡ 0 = ap (λ (b : Bool). cond b 0 1) same in omega (arith, k) in
      omega (arith, ap (λ m. g.content * m) none, begins)

  -- what stands below has the phase of the lap that begins at the next cursor, and does not count
  passed : (it : BucketEntry) → Old it → place_of_entry g cursor it.entry < least_place g next → Then it ≡ false
  passed it old less =
      let e : Entry = it.entry in
      let n : ℕ = g.content in
      let l : ℕ = lap_of g cursor in
      let p : ℕ = place_of_entry g cursor e in
      let block = (parts_between g cursor low high e old).0 in
      let one : 1 ≤ l = one_lap g cursor first in
      let least : n * (l - 1) ≤ p = place_least g cursor e first block in
      let more : l - 1 < lap_of g next - 1 = elim (cases_lt (l - 1) (lap_of g next - 1)) [
        | inl lt ↦ lt
        | inr ge ↦ absurd (omega (arith, times_le n (lap_of g next - 1) (l - 1) ge, least, less))
      ] in
      let next-is : lap_of g next ≡ l + 1 = omega (arith, more, lap_most, one) in
      let less' : p < n * l = let k : lap_of g next - 1 ≡ l = omega (arith, next-is) in omega (arith, less, ap (λ m. n * m) k) in
      let from : l - 1 ≤ lap_of g p = le-div (l - 1) p n (content_some g) (let q : (l - 1) * n ≡ n * (l - 1) = omega arith in omega (arith, q, least)) in
      let to : lap_of g p < l = elim (cases_lt (lap_of g p) l) [
        | inl lt ↦ lt
        | inr ge ↦ absurd (omega (arith, times_le n l (lap_of g p) ge, mul-div-le p n, less'))
      ] in
      let there : lap_of g p ≡ l - 1 = omega (arith, from, to) in
      let two : suc (suc (lap_of g p)) ≡ lap_of g next = omega (arith, there, next-is, one) in
      let phases : phase_of g p ≡ phase_of g next =
      sym (not-not (phase_of g p)) ∙ ap not (sym (next_phase (lap_of g p))) ∙ sym (next_phase (suc (lap_of g p))) ∙ ap (λ k. eqb (k % 2) 1) two in
      let same : beq e.phase (phase_of g next) ≡ true = same_beq e.phase (phase_of g next) ((of_place g cursor e first block).phase ∙ phases) in
      let begins : next ≤ n * lap_of g next = let k : n * lap_of g next ≡ n * (l + 1) = ap (λ m. n * m) next-is in omega (arith, k, most) in
      let far : next ≤ place_of_entry g next e = there_from e same begins in
      let under : nat_lt (place_of_entry g next e) next ≡ false = le-ltb (place_of_entry g next e) next far in
      ap (λ (t : Bool). has_block g e && (nat_le 0 (place_of_entry g next e) && t)) under
      ∙ ap (λ (t : Bool). has_block g e && t) (and-false (nat_le 0 (place_of_entry g next e))) ∙ and-false (has_block g e)

  segment_told : (s : ℕ) (its : List BucketEntry) → All Old its → map (row_at g next s) (filter Then its) ≡ stored_from (least_place g next) (map (row_at g cursor s) its)
  segment_told s [] old = refl
  segment_told s (it ∷ its) old =
      go (nat_le (least_place g next) (place_of_entry g cursor it.entry)) refl (All-head Old it its old) (segment_told s its (All-tail Old it its old)) where
        go : (t : Bool) → nat_le (least_place g next) (place_of_entry g cursor it.entry) ≡ t → Old it
            → map (row_at g next s) (filter Then its) ≡ stored_from (least_place g next) (map (row_at g cursor s) its)
            → map (row_at g next s) (cond (Then it) (it ∷ filter Then its) (filter Then its))
            ≡ cond t (row_at g cursor s it ∷ stored_from (least_place g next) (map (row_at g cursor s) its)) (stored_from (least_place g next) (map (row_at g cursor s) its))
        go true is o rest =
            let s' = still it o (leb-true (least_place g next) (place_of_entry g cursor it.entry) is) in
            ap (λ (t : Bool). map (row_at g next s) (cond t (it ∷ filter Then its) (filter Then its))) s'.1
            ∙ (λ i. record (row_at g cursor s it) { place = s'.0 i } ∷ rest i)
        go false is o rest =
            ap (λ (t : Bool). map (row_at g next s) (cond t (it ∷ filter Then its) (filter Then its))) (passed it o (leb-false (least_place g next) (place_of_entry g cursor it.entry) is)) ∙ rest

  pub told_rows : (s : ℕ) (segments : List Lists) → All (AreBetween g cursor low high) segments
      → meant_from g next s segments ≡ stored_from (least_place g next) (rows_of_segments g cursor s segments)
  told_rows s [] between = refl
  told_rows s (l ∷ rest) between =
      let its : List BucketEntry = entries_from 0 l.chains in
      (λ i. segment_told s its (All-head (AreBetween g cursor low high) l rest between) i ++ told_rows (suc s) rest (All-tail (AreBetween g cursor low high) l rest between) i)
      ∙ sym (filter-append (λ (r : StoredRow). nat_le (least_place g next) r.place) (map (row_at g cursor s) its) (rows_of_segments g cursor (suc s) rest))
