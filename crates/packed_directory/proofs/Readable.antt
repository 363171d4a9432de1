-- Each row of a packed directory may be read.
use Rattle.std.proofs.Common.{◌≡◌, ℕ, suc, ◌+◌, ◌<◌, ◌≤◌, Bool, true, false, eqb, List, [], ◌∷◌, ◌++◌, length, map, sym, arith}
use Rattle.std.specs.Prelude.{◌&&◌}
use Rattle.std.specs.List.{All, list_any}
use Rattle.std.proofs.lemmas.Bool.{and_parts, eqb-true, false_from_ne_true}
use Rattle.std.proofs.lemmas.List.Elements.{All-nil, All-cons, All-append, All-head, All-tail, All-same, All-weaker}
use Rattle.std.proofs.lemmas.List.Folds.{list_any_none}
use Rattle.tape_base.specs.declared.geometries.Geometry.{Geometry}
use Rattle.dir_entry.specs.declared.entry.Entry.{Entry}
use Rattle.dir_segment.specs.Lists.{SlotRow, Lists}
use Rattle.dir_table.specs.declared.rows.StoredRow.{StoredRow}
use Rattle.packed_directory.specs.Entering.{BucketEntry, entries_from}
use Rattle.packed_directory.specs.Phases.{IsOfPlace, place_of_entry, stands_between}
use Rattle.packed_directory.specs.StoredRows.{row_of_entry, rows_of_segments, is_spot}
use Rattle.packed_directory.specs.Packed.{AreBetween, AreOfPlaces, IsReadable}
use Rattle.packed_directory.proofs.Gathering.{entries_of, in_bucket, entries-cons}
use Rattle.packed_directory.proofs.Phasing.{parts_between, lap_there, of_place}

-- entries stand in buckets from one on and below the last
buckets_below : (b : ℕ) (cs : List (List SlotRow)) → All (λ (it : BucketEntry). it.bucket < b + length cs) (entries_from b cs)
buckets_below b [] = All-nil (λ (it : BucketEntry). it.bucket < b + 0)
buckets_below b (c ∷ cs) =
    let P : BucketEntry → Type 0 = λ it. it.bucket < b + suc (length cs) in
    let Q : BucketEntry → Type 0 = λ it. it.bucket < suc b + length cs in
    All-same P (entries_from b (c ∷ cs)) (map (in_bucket b) (entries_of c) ++ entries_from (suc b) cs) (entries-cons b c cs)
    (All-append P (map (in_bucket b) (entries_of c)) (entries_from (suc b) cs) (own (entries_of c))
    (All-weaker Q P (λ it h. omega (arith, h)) (entries_from (suc b) cs) (buckets_below (suc b) cs))) where
      own : (es : List Entry) → All (λ (it : BucketEntry). it.bucket < b + suc (length cs)) (map (in_bucket b) es)
      own [] = All-nil (λ (it : BucketEntry). it.bucket < b + suc (length cs))
      own (e ∷ es) = All-cons (λ (it : BucketEntry). it.bucket < b + suc (length cs)) (in_bucket b e) (map (in_bucket b) es) (omega arith) (own es)

module _ (g : Geometry) (cursor low high : ℕ) (first : g.content ≤ cursor) where
  abbrev Wide : Lists → Type 0
  Wide l = length l.chains ≡ g.buckets

  abbrev Readable : StoredRow → Type 0
  Readable = IsReadable g cursor low high

  pub rows_readable : (s : ℕ) (segments : List Lists) → s + length segments ≡ g.segments → All (λ (l : Lists). length l.chains ≡ g.buckets) segments
      → All (AreBetween g cursor low high) segments → All (IsReadable g cursor low high) (rows_of_segments g cursor s segments)
  rows_readable s [] count wide h = All-nil (IsReadable g cursor low high)
  rows_readable s (l ∷ rest) count wide h =
      let f : BucketEntry → StoredRow = λ it. row_of_entry g cursor s it.bucket it.entry in
      let its : List BucketEntry = entries_from 0 l.chains in
      let here : length l.chains ≡ g.buckets = All-head Wide l rest wide in
      let one : (it : BucketEntry) → stands_between g cursor low high it.entry ≡ true → it.bucket < 0 + length l.chains → IsReadable g cursor low high (f it) = λ it b k.
      let parts = parts_between g cursor low high it.entry b in
      record { segment = omega (arith, count); bucket = omega (arith, here, k); low = parts.1; high = parts.2; lap = omega (arith, lap_there g cursor it.entry first parts.0) } in
      All-append (IsReadable g cursor low high) (map f its) (rows_of_segments g cursor (suc s) rest)
      (own f one its (All-head (AreBetween g cursor low high) l rest h) (buckets_below 0 l.chains))
      (rows_readable (suc s) rest (omega (arith, count)) (All-tail Wide l rest wide) (All-tail (AreBetween g cursor low high) l rest h)) where
        own : (f : BucketEntry → StoredRow) → ((it : BucketEntry) → stands_between g cursor low high it.entry ≡ true → it.bucket < 0 + length l.chains → IsReadable g cursor low high (f it)) → (its : List BucketEntry)
            → All (λ it. stands_between g cursor low high it.entry ≡ true) its → All (λ it. it.bucket < 0 + length l.chains) its → All (IsReadable g cursor low high) (map f its)
        own f one [] b k = All-nil (IsReadable g cursor low high)
        own f one (it ∷ its) b k =
            All-cons (IsReadable g cursor low high) (f it) (map f its)
            (one it (All-head (λ q. stands_between g cursor low high q.entry ≡ true) it its b) (All-head (λ q. q.bucket < 0 + length l.chains) it its k))
            (own f one its (All-tail (λ q. stands_between g cursor low high q.entry ≡ true) it its b) (All-tail (λ q. q.bucket < 0 + length l.chains) it its k))

  pub entries_of_places : (segments : List Lists) → All (AreBetween g cursor low high) segments → All (AreOfPlaces g cursor) segments
  entries_of_places segments h =
      let P : BucketEntry → Type 0 = λ it. stands_between g cursor low high it.entry ≡ true in
      let Q : BucketEntry → Type 0 = λ it. IsOfPlace g (place_of_entry g cursor it.entry) it.entry in
      All-weaker (AreBetween g cursor low high) (AreOfPlaces g cursor)
      (λ l k. All-weaker P Q (λ it b. of_place g cursor it.entry first (parts_between g cursor low high it.entry b).0) (entries_from 0 l.chains) k) segments h

  -- no row stands at a spot or at a place that is outside
  pub none_outside : (spot : StoredRow → Bool) (place : ℕ) (rows : List StoredRow) → All (IsReadable g cursor low high) rows
      → ((r : StoredRow) → IsReadable g cursor low high r → spot r ≡ true → r.place ≡ place → ⊥)
      → false ≡ list_any (λ r. spot r && eqb r.place place) rows
  none_outside spot place rows all outside =
      sym (list_any_none (λ r. spot r && eqb r.place place) rows
      (All-weaker (IsReadable g cursor low high) (λ r. (spot r && eqb r.place place) ≡ false)
      (λ r h. false_from_ne_true (spot r && eqb r.place place) (λ q.
      let both = and_parts (spot r) (eqb r.place place) q in
      outside r h both.0 (eqb-true r.place place both.1))) rows all))

pub spot_parts : (s b t : ℕ) (r : StoredRow) → is_spot s b t r ≡ true → (r.segment ≡ s) × (r.bucket ≡ b)
spot_parts s b t r q =
    let outer = and_parts (eqb r.segment s) (eqb r.bucket b && eqb r.tag t) q in
    let inner = and_parts (eqb r.bucket b) (eqb r.tag t) outer.1 in
    (eqb-true r.segment s outer.0, eqb-true r.bucket b inner.0)
