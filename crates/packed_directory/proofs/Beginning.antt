-- A new directory, and one more row.
use Rattle.std.proofs.Common.{◌≡◌, ℕ, zero, suc, ◌+◌, ◌-◌, ◌*◌, ◌/◌, ◌≤◌, Bool, true, List, [], ◌++◌, length, map, refl, ap, ◌∙◌, arith}
use Rattle.std.specs.Prelude.{replicate}
use Rattle.std.specs.List.{All}
use Rattle.std.proofs.lemmas.List.{length-replicate}
use Rattle.std.proofs.lemmas.List.Elements.{All-nil, All-same, All-weaker, All-replicate}
use Rattle.std.proofs.Math.Nat.{div_self, div-add-mod}
use Rattle.tape_base.specs.declared.geometries.Geometry.{Geometry}
use Rattle.tape_base.specs.Place.{lap_of, floor_of}
use Rattle.dir_entry.specs.declared.entry.Entry.{Entry}
use Rattle.dir_segment.specs.Lists.{Lists, empty_chains, new_lists}
use Rattle.dir_table.specs.declared.rows.StoredRow.{StoredRow}
use Rattle.packed_directory.specs.Entering.{BucketEntry, entries_from}
use Rattle.packed_directory.specs.Phases.{least_place, place_of_entry, stands_between}
use Rattle.packed_directory.specs.StoredRows.{row_of_entry, entry_of_row, rows_of_segments}
use Rattle.packed_directory.specs.Packed.{AreBetween, IsPacked, EntersRow, packed_rows, first_packed, new_segments}
use Rattle.packed_directory.proofs.Phasing.{content_some, place_back, parts_between, between_from}

chains-length : (n : ℕ) → length (empty_chains n) ≡ n
chains-length zero = refl
chains-length (suc n) = ap suc (chains-length n)

no_entries : (b n : ℕ) → entries_from b (empty_chains n) ≡ []
no_entries b zero = refl
no_entries b (suc n) = no_entries (suc b) n

no_rows : (g : Geometry) (cursor s n : ℕ) → rows_of_segments g cursor s (replicate n (new_lists g.buckets)) ≡ []
no_rows g cursor s zero = refl
no_rows g cursor s (suc n) =
    let f : BucketEntry → StoredRow = λ it. row_of_entry g cursor s it.bucket it.entry in
    (λ i. map f (no_entries 0 g.buckets i) ++ no_rows g cursor (suc s) n i)

pub first_has_none : (g : Geometry) (segments : List Lists) → segments ≡ new_segments g → packed_rows (first_packed g segments) ≡ []
first_has_none g segments is = ap (rows_of_segments g g.content 0) is ∙ no_rows g g.content 0 g.segments

none_between : (g : Geometry) (cursor low high : ℕ) → AreBetween g cursor low high (new_lists g.buckets)
none_between g cursor low high =
    let P : BucketEntry → Type 0 = λ it. stands_between g cursor low high it.entry ≡ true in
    All-same P (entries_from 0 (empty_chains g.buckets)) [] (no_entries 0 g.buckets) (All-nil P)

pub first_is_packed : (g : Geometry) (segments : List Lists) → segments ≡ new_segments g → IsPacked g g.content (floor_of g g.content) g.content segments
first_is_packed g segments is =
    let content = g.accepted.content_fits in
    let agg = g.accepted.agg_fits in
    let one : g.content / g.content ≡ 1 = div_self (content_some g) in
    let none : g.content * (g.content / g.content - 1) ≡ 0 = ap (λ k. g.content * (k - 1)) one ∙ (let z : g.content * (1 - 1) ≡ 0 = omega arith in z) in
    let widths : All (λ (lists : Lists). length lists.chains ≡ g.buckets) (new_segments g) = All-replicate (λ (lists : Lists). length lists.chains ≡ g.buckets) g.segments (new_lists g.buckets) (chains-length g.buckets) in
    let between : All (AreBetween g g.content (floor_of g g.content) g.content) (new_segments g) =
    All-replicate (AreBetween g g.content (floor_of g g.content) g.content) g.segments (new_lists g.buckets) (none_between g g.content (floor_of g g.content) g.content) in
    record {
      begun = record { first = omega arith; bound = omega (arith, content) };
      readable = (omega (arith, none), omega (arith, content, agg));
      behind = omega arith;
      count = ap (λ (q : List Lists). length q) is ∙ length-replicate g.segments (new_lists g.buckets);
      widths = All-same (λ (lists : Lists). length lists.chains ≡ g.buckets) segments (new_segments g) is widths;
      between = All-same (AreBetween g g.content (floor_of g g.content) g.content) segments (new_segments g) is between;
    }

pub least_below : (g : Geometry) (cursor place : ℕ) → cursor ≤ place → least_place g cursor ≤ place
least_below g cursor place le =
    let whole = div-add-mod cursor g.content in
    let less : g.content * (lap_of g cursor - 1) ≤ g.content * lap_of g cursor = step (lap_of g cursor) in
    omega (arith, le, whole, less) where
      step : (l : ℕ) → g.content * (l - 1) ≤ g.content * l
      step zero = omega arith
      step (suc l) =
          let less : suc l - 1 ≡ l = omega arith in
          let q : g.content * suc l ≡ g.content * l + g.content = omega arith in
          rw less (omega (arith, q))

pub wider : (g : Geometry) (cursor low high high' : ℕ) → high ≤ high' → (segments : List Lists) → All (AreBetween g cursor low high) segments → All (AreBetween g cursor low high') segments
wider g cursor low high high' le segments all =
    let P : BucketEntry → Type 0 = λ it. stands_between g cursor low high it.entry ≡ true in
    let Q : BucketEntry → Type 0 = λ it. stands_between g cursor low high' it.entry ≡ true in
    let one : (it : BucketEntry) → P it → Q it = λ it h.
    let parts = parts_between g cursor low high it.entry h in
    between_from g cursor low high' it.entry parts.0 parts.1 (omega (arith, parts.2, le)) in
    All-weaker (AreBetween g cursor low high) (AreBetween g cursor low high') (λ lists h. All-weaker P Q one (entries_from 0 lists.chains) h) segments all

module _ (g : Geometry) (cursor floor end : ℕ) (before : List Lists) (h : IsPacked g cursor floor end before) (place : ℕ) (behind : end ≤ place) (lap : lap_of g place ≡ lap_of g cursor) where
  pub stands_there : (row : StoredRow) → row.place ≡ place → place_of_entry g cursor (entry_of_row g row) ≡ place
  stands_there row is =
      let least : least_place g cursor ≤ row.place = least_below g cursor row.place (omega (arith, is, behind, h.behind)) in
      let most : lap_of g row.place ≤ lap_of g cursor = omega (arith, ap (lap_of g) is ∙ lap) in
      place_back g cursor row.place (entry_of_row g row) h.begun.first least most (record { block = refl; phase = refl }) ∙ is

  pub entered_is_packed : (row : StoredRow) (purged : Bool) (out : List Entry) (after : List Lists) (blocks : ℕ) → row.place ≡ place → 1 ≤ blocks
      → EntersRow g cursor row purged out before after → IsPacked g cursor floor (place + blocks) after
  entered_is_packed row purged out after blocks is some enters =
      record {
        begun = h.begun;
        readable = h.readable;
        behind = omega (arith, h.behind, behind);
        count = enters.count ∙ h.count;
        widths = enters.widths;
        between = enters.between floor (place + blocks) (wider g cursor floor end (place + blocks) (omega (arith, behind)) before h.between)
            (omega (arith, is, h.readable, h.behind, behind)) (omega (arith, is, some));
      }
