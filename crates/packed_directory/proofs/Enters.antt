-- A row that goes into its segment.
use Rattle.std.proofs.Common.{◌≡◌, ℕ, ◌+◌, ◌<◌, ◌≤◌, Bool, true, false, List, [], ◌∷◌, ◌++◌, length, set, map, refl, sym, ap, subst, ◌∙◌, arith, length-set}
use Rattle.std.specs.List.{All}
use Rattle.std.specs.List.Sorted.{IsPermutation}
use Rattle.std.proofs.lemmas.Nat.{mod_below}
use Rattle.std.proofs.lemmas.List.{length-map, map-append}
use Rattle.std.proofs.lemmas.List.Elements.{All-nil, All-cons, All-head, All-tail, All-get_or, All-set, All-weaker, All-map, All-same}
use Rattle.std.proofs.lemmas.List.Sorted.{IsPermutation-map, All-permutation}
use Rattle.tape_base.specs.declared.geometries.Geometry.{Geometry}
use Rattle.tape_base.specs.Place.{slot_of}
use Rattle.dir_entry.specs.declared.entry.Entry.{Entry}
use Rattle.dir_segment.specs.Lists.{Lists}
use Rattle.dir_segment.specs.Entries.{AreCounted}
use Rattle.dir_segment.specs.Purging.{tenth_of}
use Rattle.dir_table.specs.declared.rows.StoredRow.{StoredRow}
use Rattle.packed_directory.specs.Entering.{BucketEntry, entries_from, GoOut, TakesIn}
use Rattle.packed_directory.specs.Full.{is_bucket_full}
use Rattle.packed_directory.specs.Phases.{place_of_entry, has_block, stands_between}
use Rattle.packed_directory.specs.StoredRows.{row_of_entry, entry_of_row, stored_rows_of_segment, rows_of_segments}
use Rattle.packed_directory.specs.Packed.{AreBetween, segment_at, GoesOut, EntersRow}
use Rattle.packed_directory.proofs.Fullness.{full_by_rows, open_by_rows}
use Rattle.packed_directory.proofs.Gathering.{in_bucket}
use Rattle.packed_directory.proofs.Phasing.{content_some, parts_between, between_from, block_from}
use Rattle.packed_directory.proofs.Segments.{all_take}
use Rattle.dir_table.specs.Entering.{TakesRow}

pub all_behind : {X : Type 0} (P : X → Type 0) (xs ys : List X) → All P (xs ++ ys) → All P ys
all_behind P [] ys h = h
all_behind P (x ∷ xs) ys h = all_behind P xs ys (All-tail P x (xs ++ ys) h)

pub all_before : {X : Type 0} (P : X → Type 0) (xs ys : List X) → All P (xs ++ ys) → All P xs
all_before P [] ys h = All-nil P
all_before P (x ∷ xs) ys h = All-cons P x xs (All-head P x (xs ++ ys) h) (all_before P xs ys (All-tail P x (xs ++ ys) h))

module _ (g : Geometry) (cursor : ℕ) (row : StoredRow) (purged : Bool) (out : List Entry) (before : List Lists) (new : Lists)
    (within : row.segment < length before)
    (widths : All (λ (lists : Lists). length lists.chains ≡ g.buckets) before)
    (stands : place_of_entry g cursor (entry_of_row g row) ≡ row.place)
    (t : TakesIn (in_bucket row.bucket (entry_of_row g row)) purged out (segment_at before row.segment) new)
    (counted : AreCounted (segment_at before row.segment)) where
  wide : length (segment_at before row.segment).chains ≡ g.buckets
  wide = All-get_or (λ (lists : Lists). length lists.chains ≡ g.buckets) before row.segment (record { chains = []; free = [] }) within widths

  gone : List StoredRow
  gone = map (λ (it : BucketEntry). row_of_entry g cursor row.segment it.bucket it.entry) t.gone

  segment_takes : TakesRow row gone (stored_rows_of_segment g cursor row.segment (segment_at before row.segment)) (stored_rows_of_segment g cursor row.segment new)
  unfolding gone
  segment_takes =
      let f : BucketEntry → StoredRow = λ it. row_of_entry g cursor row.segment it.bucket it.entry in
      let it : BucketEntry = in_bucket row.bucket (entry_of_row g row) in
      let is : f it ≡ row = λ i. record row { place = stands i } in
      record {
        left = map f t.enters.left;
        parted = subst (λ (q : List StoredRow). IsPermutation (map f (entries_from 0 (segment_at before row.segment).chains)) q) (map-append f t.gone t.enters.left)
            (IsPermutation-map f (entries_from 0 (segment_at before row.segment).chains) (t.gone ++ t.enters.left) t.enters.parted);
        entered = subst (λ (r : StoredRow). IsPermutation (r ∷ map f t.enters.left) (map f (entries_from 0 new.chains))) is
            (IsPermutation-map f (it ∷ t.enters.left) (entries_from 0 new.chains) t.enters.entered);
      }

  told : map (λ (r : StoredRow). r.place) gone ≡ map (place_of_entry g cursor) out
  unfolding gone
  told = places t.gone ∙ ap (map (place_of_entry g cursor)) t.told where
    places : (its : List BucketEntry) → map (λ (r : StoredRow). r.place) (map (λ (it : BucketEntry). row_of_entry g cursor row.segment it.bucket it.entry) its) ≡ map (place_of_entry g cursor) (map (λ (it : BucketEntry). it.entry) its)
    places [] = refl
    places (it ∷ its) = ap (λ (q : List ℕ). place_of_entry g cursor it.entry ∷ q) (places its)

  own : All (λ (r : StoredRow). r.segment ≡ row.segment) gone
  unfolding gone
  own = go t.gone where
    go : (its : List BucketEntry) → All (λ (r : StoredRow). r.segment ≡ row.segment) (map (λ (it : BucketEntry). row_of_entry g cursor row.segment it.bucket it.entry) its)
    go [] = All-nil (λ (r : StoredRow). r.segment ≡ row.segment)
    go (it ∷ its) = All-cons (λ (r : StoredRow). r.segment ≡ row.segment) (row_of_entry g cursor row.segment it.bucket it.entry) (map (λ (q : BucketEntry). row_of_entry g cursor row.segment q.bucket q.entry) its) refl (go its)

  due : GoesOut purged g cursor (segment_at before row.segment) row gone
  unfolding gone
  due = go purged t.due own where
    go : (b : Bool) → GoOut b t.gone (segment_at before row.segment) row.bucket → All (λ (r : StoredRow). r.segment ≡ row.segment) gone → GoesOut b g cursor (segment_at before row.segment) row gone
    go true d o = (d.0, length-map t.gone (λ (it : BucketEntry). row_of_entry g cursor row.segment it.bucket it.entry) ∙ d.1 ∙ ap tenth_of wide, o, record { its = t.gone; are = refl; entries = d.2 })
    go false d o = (d.0, ap (map (λ (it : BucketEntry). row_of_entry g cursor row.segment it.bucket it.entry)) d.1)

  full : (b : Bool) → GoOut b t.gone (segment_at before row.segment) row.bucket → b ≡ is_bucket_full g row.segment row.bucket (rows_of_segments g cursor 0 before)
  full true d = sym (full_by_rows g cursor row.segment before within wide counted row.bucket d.0)
  full false d = sym (open_by_rows g cursor row.segment before within wide counted row.bucket d.0)

  between_new : (low high : ℕ) → All (AreBetween g cursor low high) before → low ≤ row.place → row.place < high → AreBetween g cursor low high new
  between_new low high all least most =
      let P : BucketEntry → Type 0 = λ it. stands_between g cursor low high it.entry ≡ true in
      let it : BucketEntry = in_bucket row.bucket (entry_of_row g row) in
      let here : AreBetween g cursor low high (segment_at before row.segment) = All-get_or (AreBetween g cursor low high) before row.segment (record { chains = []; free = [] }) within all in
      let parted : All P (t.gone ++ t.enters.left) = All-permutation P (entries_from 0 (segment_at before row.segment).chains) (t.gone ++ t.enters.left) t.enters.parted here in
      let slot : slot_of g row.place < g.content = mod_below row.place g.content (content_some g) in
      let block : has_block g (entry_of_row g row) ≡ true = block_from g (entry_of_row g row) (omega arith) (omega (arith, slot)) in
      let own : stands_between g cursor low high (entry_of_row g row) ≡ true = between_from g cursor low high (entry_of_row g row) block (omega (arith, stands, least)) (omega (arith, stands, most)) in
      All-permutation P (it ∷ t.enters.left) (entries_from 0 new.chains) t.enters.entered
      (All-cons P it t.enters.left own (all_behind P t.gone t.enters.left parted))

  blocks : (low high : ℕ) → All (AreBetween g cursor low high) before → All (λ (e : Entry). has_block g e ≡ true) out
  blocks low high all =
      let P : BucketEntry → Type 0 = λ it. stands_between g cursor low high it.entry ≡ true in
      let Q : BucketEntry → Type 0 = λ it. has_block g it.entry ≡ true in
      let here : AreBetween g cursor low high (segment_at before row.segment) = All-get_or (AreBetween g cursor low high) before row.segment (record { chains = []; free = [] }) within all in
      let parted : All P (t.gone ++ t.enters.left) = All-permutation P (entries_from 0 (segment_at before row.segment).chains) (t.gone ++ t.enters.left) t.enters.parted here in
      let gone' : All Q t.gone = All-weaker P Q (λ it h. (parts_between g cursor low high it.entry h).0) t.gone (all_before P t.gone t.enters.left parted) in
      let told' : All (λ (e : Entry). has_block g e ≡ true) (map (λ (it : BucketEntry). it.entry) t.gone) = All-map (λ (e : Entry). has_block g e ≡ true) (λ (it : BucketEntry). it.entry) t.gone gone' in
      All-same (λ (e : Entry). has_block g e ≡ true) out (map (λ (it : BucketEntry). it.entry) t.gone) (sym t.told) told'

  pub enters_row : EntersRow g cursor row purged out before (set before row.segment new)
  enters_row =
      let place : 0 + row.segment ≡ row.segment = omega arith in
      record {
        gone = gone;
        takes = all_take g cursor row gone new (record { chains = []; free = [] }) 0 row.segment before within
            (subst (λ n. TakesRow row gone (stored_rows_of_segment g cursor n (segment_at before row.segment)) (stored_rows_of_segment g cursor n new)) (sym place) segment_takes);
        told = told;
        full = full purged t.due;
        due = due;
        count = length-set before row.segment new;
        widths = All-set (λ (lists : Lists). length lists.chains ≡ g.buckets) before row.segment new (t.enters.width ∙ wide) widths;
        between = λ low high all least most. All-set (AreBetween g cursor low high) before row.segment new (between_new low high all least most) all;
        blocks = blocks;
      }
