-- How many rows of a segment of the directory are in range, by the pieces that the records have live there.
use Rattle.std.proofs.Common.{◌≡◌, ℕ, zero, suc, ◌+◌, ◌*◌, ◌<◌, ◌≤◌, List, [], ◌∷◌, ◌++◌, length, refl, sym, ◌∙◌, ap, subst, arith, Bool, true, false, cond, inl, inr}
use Rattle.std.specs.Prelude.{◌==◌, ◌&&◌, ◌||◌, not, filter, map, IsPermutation, MatchBool, Some, nat_le, nat_lt}
use Rattle.std.specs.List.{AllByRecursion, list_any, range_with_len, count_by}
use Rattle.std.proofs.lemmas.Bool.{and_left, and_parts, eqb-true, eq-eqb, false_from_ne_true, leb-true, lt-leb, ne_eqb, or_cases, or_left}
use Rattle.std.proofs.lemmas.List.{length-map}
use Rattle.std.proofs.lemmas.List.Filters.{length-filter_both}
use Rattle.std.proofs.lemmas.List.Folds.{list_any-append}
use Rattle.std.proofs.lemmas.List.Sums.{length-filter}
use Rattle.std.proofs.lemmas.List.Sorted.{IsPermutation-append_comm, IsPermutation-filter_both, IsPermutation-refl, IsPermutation-sym, length_permutation, list_any-IsPermutation}
use mathlib.Core.Path.{fun_ext}
use Rattle.tape_base.specs.declared.geometries.Geometry.{Geometry}
use Rattle.tape_base.specs.declared.pieces.PieceId.{PieceId}
use Rattle.tape_base.specs.Piece.{key_of_piece, same_piece}
use Rattle.tape_base.proofs.NameLaws.{same_piece-true}
use Rattle.dir_table.specs.declared.rows.DirRow.{DirRow}
use Rattle.dir_table.specs.declared.window.Window.{Window}
use Rattle.dir_table.specs.Rows.{has_row, row_of_key}
use Rattle.dir_table.specs.Window.{is_in_range}
use Rattle.dir_table.specs.Displacement as directory
use Rattle.cyclone.specs.Cyclone.{Seen, TakesOut, row_of_piece}
use Rattle.cache_model.specs.State.{State, Row, floor_now, is_live, live_rows, row_in, row_of, without}
use Rattle.cache_model.specs.Permit.{IsAmong}
use Rattle.cache_model.specs.Tape.{IsSound}
use Rattle.cache_model.specs.Room.{bucket_of_piece, is_bucket_used, is_full_for, is_full_with, rows_of_segment, segment_of_piece, used_buckets}
use Rattle.cache_model.specs.Slots.{AllFit, HasSlotForCopy}
use Rattle.cache_model.proofs.Buckets.{fewer}
use Rattle.cache_model.proofs.Found.{same_some}
use Rattle.cache_model.proofs.Rows.{each_part, part-filter}
use Rattle.cache_model.proofs.SoundFlush.{among_part}
use Rattle.cache_model.proofs.Walks.{all_among, among_found}
use Rattle.cache_model.proofs.Written.{passes}
use Rattle.held_pieces.specs.Held.{IsHeld, SameRows, entry_of_piece, times}
use Rattle.held_pieces.proofs.Entries.{kept}
use Rattle.held_pieces.proofs.Holding.{floor_is}
use Rattle.held_pieces.proofs.Permuted.{permuted_passed, same_rows_permute, times_passed}

-- ---- the live pieces of a segment are its rows in range

passed_entries : (g : Geometry) (test : DirRow → Bool) (rows : List Row)
    → filter test (map (entry_of_piece g) rows) ≡ map (entry_of_piece g) (filter (λ (r : Row). test (entry_of_piece g r)) rows)
passed_entries g test [] = refl
passed_entries g test (row ∷ rows) = by (test (entry_of_piece g row)) (passed_entries g test rows)
  where
    left : List Row
    left = filter (λ (r : Row). test (entry_of_piece g r)) rows

    by : (b : Bool) → filter test (map (entry_of_piece g) rows) ≡ map (entry_of_piece g) left
        → cond b (entry_of_piece g row ∷ filter test (map (entry_of_piece g) rows)) (filter test (map (entry_of_piece g) rows)) ≡ map (entry_of_piece g) (cond b (row ∷ left) left)
    by true h = ap (λ xs. entry_of_piece g row ∷ xs) h
    by false h = h

any_entry : (g : Geometry) (test : DirRow → Bool) (rows : List Row) → list_any test (map (entry_of_piece g) rows) ≡ list_any (λ (r : Row). test (entry_of_piece g r)) rows
any_entry g test [] = refl
any_entry g test (row ∷ rows) = ap (λ b. test (entry_of_piece g row) || b) (any_entry g test rows)

kept_both : (a b : Bool) (n : ℕ) → kept (a && b) n ≡ kept a (kept b n)
kept_both true b n = refl
kept_both false b n = refl

abbrev of_segment : ℕ → DirRow → Bool
of_segment segment r = r.segment == segment

-- the geometry is one
geometry_is : (s : State) (c : Seen) → IsHeld s c → c.window.geometry ≡ s.geometry
geometry_is s c h = h.turning.geometry ∙ h.geometry

module _ (s : State) (c : Seen) (segment : ℕ) (h : IsHeld s c) where
  abbrev pieces : List Row
  pieces = rows_of_segment s segment

  live_rows_are : SameRows (directory.segment_rows_in_range c.window segment c.rows) (map (entry_of_piece s.geometry) pieces)
  live_rows_are = λ x.
      let in_range : Bool = is_in_range c.window x.place in
      times_passed (λ r. r.segment == segment && is_in_range c.window r.place) x c.rows
      ∙ (kept_both (of_segment segment x) in_range (times x c.rows)
      ∙ (ap (kept (of_segment segment x)) (sym (times_passed (λ r. is_in_range c.window r.place) x c.rows) ∙ h.entered x)
      ∙ (sym (times_passed (of_segment segment) x (map (entry_of_piece s.geometry) (live_rows s)))
      ∙ ap (times x) (passed_entries s.geometry (of_segment segment) (live_rows s)))))

  live_permute : IsPermutation (directory.segment_rows_in_range c.window segment c.rows)
      (map (entry_of_piece s.geometry) (rows_of_segment s segment))
  live_permute =
      same_rows_permute (directory.segment_rows_in_range c.window segment c.rows) (map (entry_of_piece s.geometry) pieces) live_rows_are

  -- as many
  pub live_are : length (directory.segment_rows_in_range c.window segment c.rows) ≡ length (rows_of_segment s segment)
  live_are =
      sym (length_permutation (directory.segment_rows_in_range c.window segment c.rows) (map (entry_of_piece s.geometry) pieces)
      live_permute)
      ∙ length-map pieces (entry_of_piece s.geometry)

  -- the same buckets are used
  used_are : (bucket : ℕ) → directory.is_used c.window segment c.rows bucket ≡ is_bucket_used s (rows_of_segment s segment) bucket
  used_are bucket =
      list_any-IsPermutation (λ (r : DirRow). r.bucket == bucket) (directory.segment_rows_in_range c.window segment c.rows) (map (entry_of_piece s.geometry) pieces) live_permute
      ∙ any_entry s.geometry (λ (r : DirRow). r.bucket == bucket) pieces

  buckets_are : directory.buckets_in_range c.window segment c.rows ≡ used_buckets s (rows_of_segment s segment)
  buckets_are = λ i. count_by (fun_ext used_are i) (range_with_len 0 (geometry_is s c h i).buckets)

-- a piece finds its segment full in the directory where the records say so
pub full_is : (s : State) (c : Seen) (id : PieceId) (place : ℕ) → IsHeld s c
    → directory.is_full c.window (row_of_key c.geometry (key_of_piece id) place) c.rows ≡ is_full_for s id
full_is s c id place h =
    let segment : ℕ = segment_of_piece s id in
    ap (λ g. directory.is_full c.window (row_of_key g (key_of_piece id) place) c.rows) h.geometry
    ∙ (λ i. used_are s c segment h (bucket_of_piece s id) i && live_are s c segment h i == 3 * (geometry_is s c h i).buckets + buckets_are s c segment h i)

-- ---- rows that take a slot each

full_same : (w : Window) (row : DirRow) (a b : List DirRow) → IsPermutation (directory.segment_rows_in_range w row.segment a) (directory.segment_rows_in_range w row.segment b)
    → directory.is_full w row a ≡ directory.is_full w row b
full_same w row a b p =
    let segment : ℕ = row.segment in
    let used : (bucket : ℕ) → directory.is_used w segment a bucket ≡ directory.is_used w segment b bucket =
    λ bucket. list_any-IsPermutation (λ (r : DirRow). r.bucket == bucket) (directory.segment_rows_in_range w segment a) (directory.segment_rows_in_range w segment b) p in
    let count : length (directory.segment_rows_in_range w segment a) ≡ length (directory.segment_rows_in_range w segment b) =
    sym (length_permutation (directory.segment_rows_in_range w segment a) (directory.segment_rows_in_range w segment b) p) in
    λ i. used row.bucket i && count i == 3 * w.geometry.buckets + count_by (fun_ext used i) (range_with_len 0 w.geometry.buckets)

-- a row that is out of range takes none
out_of_range : (w : Window) (segment : ℕ) (row : DirRow) (rows : List DirRow) → is_in_range w row.place ≡ false
    → directory.segment_rows_in_range w segment (row ∷ rows) ≡ directory.segment_rows_in_range w segment rows
out_of_range w segment row rows out = by (row.segment == segment) (is_in_range w row.place) out
  where
    rest : List DirRow
    rest = directory.segment_rows_in_range w segment rows

    by : (a b : Bool) → b ≡ false → cond (a && b) (row ∷ rest) rest ≡ rest
    by true b e = rw e refl
    by false b e = refl

left_live : (w : Window) (segment : ℕ) (row : DirRow) (rows left : List DirRow) (found : Bool) → is_in_range w row.place ≡ false
    → MatchBool found (IsPermutation rows (row ∷ left)) (left ≡ rows) → IsPermutation (directory.segment_rows_in_range w segment left) (directory.segment_rows_in_range w segment rows)
left_live w segment row rows left true out p =
    IsPermutation-sym (directory.segment_rows_in_range w segment rows) (directory.segment_rows_in_range w segment left)
    (subst (IsPermutation (directory.segment_rows_in_range w segment rows)) (out_of_range w segment row left out)
    (permuted_passed (λ r. r.segment == segment && is_in_range w r.place) rows (row ∷ left) p))
left_live w segment row rows left false out same =
    subst (λ rs. IsPermutation (directory.segment_rows_in_range w segment left) (directory.segment_rows_in_range w segment rs)) same (IsPermutation-refl (directory.segment_rows_in_range w segment left))

-- ---- a piece that is not live

left_rows : (id : PieceId) (rows : List Row) → AllByRecursion (λ (r : Row). same_piece r.id id ≡ false) rows → without id rows ≡ rows
left_rows id [] others = refl
left_rows id (row ∷ rows) others = rw others.0 (ap (λ rs. row ∷ rs) (left_rows id rows others.1))

module _ (s : State) (id : PieceId) (row : Row) (sound : IsSound s) (found : row_of s id ≡ Some row) (below : row.place < floor_now s) where
  other_by : (r : Row) (b : Bool) → same_piece r.id id ≡ b → IsAmong r (live_rows s) → b ≡ false
  other_by r false e m = refl
  other_by r true e m =
      let there : row_in s.rows r.id ≡ Some r = among_found s.rows r sound.apart (among_part r (part-filter (is_live s) s.rows) m) in
      let same : r ≡ row = same_some r row (row_of s id) (ap (row_in s.rows) (sym (same_piece-true r.id id e)) ∙ there) found in
      let low : floor_now s ≤ row.place = leb-true (floor_now s) row.place (ap (is_live s) (sym same) ∙ passes (is_live s) s.rows r m) in
      absurd (omega (arith, low, below))

  -- none of its segment's live ones is of it
  stays_whole : (segment : ℕ) → without id (rows_of_segment s segment) ≡ rows_of_segment s segment
  stays_whole segment =
      left_rows id (rows_of_segment s segment) (each_part (λ (r : Row). same_piece r.id id ≡ false) (part-filter _ (live_rows s))
      (all_among (λ (r : Row). same_piece r.id id ≡ false) (live_rows s) (λ r m. other_by r (same_piece r.id id) refl m)))

-- without its old row, which is out of range, there is a slot for the copy where the records say so
pub slot_free : (s : State) (c : Seen) (id : PieceId) (row : Row) (place : ℕ) (left : List DirRow) → IsHeld s c → row_of s id ≡ Some row → row.place < floor_now s
    → TakesOut (row_of_piece c id row.place) c.rows left → HasSlotForCopy s id → directory.is_full c.window (row_of_key c.geometry (key_of_piece id) place) left ≡ false
slot_free s c id row place left h found below taken slot =
    let new : DirRow = row_of_key c.geometry (key_of_piece id) place in
    let old : DirRow = row_of_piece c id row.place in
    let low : row.place < c.window.floor = subst (λ n. row.place < n) (sym (floor_is s c h)) below in
    let out : is_in_range c.window row.place ≡ false = and_left (nat_le c.window.floor row.place) (nat_lt row.place c.window.end) (lt-leb c.window.floor row.place low) in
    full_same c.window new left c.rows (left_live c.window new.segment old c.rows left (has_row old c.rows) out taken)
    ∙ (full_is s c id place h
    ∙ (ap (is_full_with s (bucket_of_piece s id)) (sym (stays_whole s id row h.sound found below (segment_of_piece s id))) ∙ slot))

-- ---- buckets in use

none_at : (k a n : ℕ) → k < a → length (filter (λ b. k == b) (range_with_len a n)) ≡ 0
none_at k a zero less = refl
none_at k a (suc n) less = rw (ne_eqb k a (λ same. absurd (omega (arith, less, same)))) (none_at k (a + 1) n (omega (arith, less)))

one_at : (k a n : ℕ) → length (filter (λ b. k == b) (range_with_len a n)) ≤ 1
one_at k a zero = omega arith
one_at k a (suc n) = by (k == a) refl (one_at k (a + 1) n)
  where
    rest : List ℕ
    rest = filter (λ b. k == b) (range_with_len (a + 1) n)

    by : (t : Bool) → (k == a) ≡ t → length rest ≤ 1 → length (cond t (a ∷ rest) rest) ≤ 1
    by true e h = let same : k ≡ a = eqb-true k a e in let none = none_at k (a + 1) n (omega (arith, same)) in omega (arith, none)
    by false e h = h

of_either : (p q : ℕ → Bool) (ns : List ℕ) → length (filter (λ b. p b || q b) ns) ≤ length (filter p ns) + length (filter q ns)
of_either p q [] = omega arith
of_either p q (n ∷ ns) = by (p n) (q n) (of_either p q ns)
  where
    first : List ℕ
    first = filter p ns

    others : List ℕ
    others = filter q ns

    both : List ℕ
    both = filter (λ b. p b || q b) ns

    by : (a b : Bool) → length both ≤ length first + length others
        → length (cond (a || b) (n ∷ both) both) ≤ length (cond a (n ∷ first) first) + length (cond b (n ∷ others) others)
    by true true h = omega (arith, h)
    by true false h = omega (arith, h)
    by false true h = omega (arith, h)
    by false false h = h

abbrev has_bucket : List DirRow → ℕ → Bool
has_bucket rows bucket = list_any (λ (r : DirRow). r.bucket == bucket) rows

-- how many of the first buckets have a row
abbrev in_use : ℕ → List DirRow → ℕ
in_use n rows = length (filter (has_bucket rows) (range_with_len 0 n))

-- each row brings one at most
in_use_behind : (n : ℕ) (some rows : List DirRow) → in_use n (some ++ rows) ≤ length some + in_use n rows
in_use_behind n [] rows = omega arith
in_use_behind n (row ∷ some) rows =
    let one = one_at row.bucket 0 n in
    let split = of_either (λ b. row.bucket == b) (has_bucket (some ++ rows)) (range_with_len 0 n) in
    let rest = in_use_behind n some rows in
    omega (arith, one, split, rest)

in_use_permuted : (n : ℕ) (a b : List DirRow) → IsPermutation a b → in_use n a ≡ in_use n b
in_use_permuted n a b p =
    ap (λ (f : ℕ → Bool). length (filter f (range_with_len 0 n))) (fun_ext (λ bucket. list_any-IsPermutation (λ (r : DirRow). r.bucket == bucket) a b p))

-- rows that pass a test take no more slots behind the first of each bucket than all of them
passed_room : (test : DirRow → Bool) (n : ℕ) (rows : List DirRow) → length (filter test rows) + in_use n rows ≤ length rows + in_use n (filter test rows)
passed_room test n rows =
    let others : List DirRow = filter (λ r. not (test r)) rows in
    let count : length (filter test rows) + length others ≡ length rows = length-filter_both test (λ r. not (test r)) (λ r. refl) rows in
    let same : in_use n rows ≡ in_use n (others ++ filter test rows) =
    in_use_permuted n rows (filter test rows ++ others) (IsPermutation-filter_both test (λ r. not (test r)) (λ r. refl) rows)
    ∙ in_use_permuted n (filter test rows ++ others) (others ++ filter test rows) (IsPermutation-append_comm (filter test rows) others) in
    let few = in_use_behind n others (filter test rows) in
    omega (arith, count, same, few)

both_tests : (p q : DirRow → Bool) (rows : List DirRow) → filter (λ r. p r && q r) rows ≡ filter q (filter p rows)
both_tests p q [] = refl
both_tests p q (row ∷ rows) = by (p row) (both_tests p q rows)
  where
    by : (b : Bool) → filter (λ r. p r && q r) rows ≡ filter q (filter p rows)
        → cond (b && q row) (row ∷ filter (λ r. p r && q r) rows) (filter (λ r. p r && q r) rows) ≡ filter q (cond b (row ∷ filter p rows) (filter p rows))
    by true h = ap (λ rs. cond (q row) (row ∷ rs) rs) h
    by false h = h

any_both : (p q : DirRow → Bool) (rows : List DirRow) → list_any (λ r. p r && q r) rows ≡ list_any q (filter p rows)
any_both p q [] = refl
any_both p q (row ∷ rows) = by (p row) (any_both p q rows)
  where
    by : (b : Bool) → list_any (λ r. p r && q r) rows ≡ list_any q (filter p rows)
        → ((b && q row) || list_any (λ r. p r && q r) rows) ≡ list_any q (cond b (row ∷ filter p rows) (filter p rows))
    by true h = ap (λ t. q row || t) h
    by false h = h

module _ (w : Window) (segment : ℕ) (rows : List DirRow) where
  abbrev all : List DirRow
  all = directory.segment_rows segment rows

  in_use_is : directory.buckets_in_use w.geometry segment rows ≡ in_use w.geometry.buckets all
  in_use_is =
      ap (λ (f : ℕ → Bool). count_by f (range_with_len 0 w.geometry.buckets)) (fun_ext (λ bucket. any_both (of_segment segment) (λ r. r.bucket == bucket) rows))
      ∙ sym (length-filter (has_bucket all) (range_with_len 0 w.geometry.buckets))

  -- what is out of range takes no slot from what is in range
  live_room : length (directory.segment_rows_in_range w segment rows) + directory.buckets_in_use w.geometry segment rows
      ≤ length (directory.segment_rows segment rows) + directory.buckets_in_range w segment rows
  live_room =
      let live : directory.segment_rows_in_range w segment rows ≡ filter (λ r. is_in_range w r.place) all = both_tests (of_segment segment) (λ r. is_in_range w r.place) rows in
      let room = passed_room (λ r. is_in_range w r.place) w.geometry.buckets all in
      let count : length (directory.segment_rows_in_range w segment rows) ≡ length (filter (λ r. is_in_range w r.place) all) = ap (λ (rs : List DirRow). length rs) live in
      let used : directory.buckets_in_range w segment rows ≡ in_use w.geometry.buckets (filter (λ r. is_in_range w r.place) all) =
      sym (length-filter (has_bucket (directory.segment_rows_in_range w segment rows)) (range_with_len 0 w.geometry.buckets)) ∙ ap (in_use w.geometry.buckets) live in
      omega (arith, in_use_is, room, count, used)

-- each segment has slots for its live pieces
pub held_fit : (s : State) (c : Seen) → IsHeld s c → directory.AreFew c.window.geometry c.rows → AllFit s
held_fit s c h few segment =
    let all = few segment in
    let room = live_room c.window segment c.rows in
    let count = live_are s c segment h in
    let used = buckets_are s c segment h in
    let buckets : c.window.geometry.buckets ≡ s.geometry.buckets = ap (λ (g : Geometry). g.buckets) (geometry_is s c h) in
    omega (arith, all, room, count, used, buckets)

-- ---- a row more

any_within : (p q : DirRow → Bool) (rows : List DirRow) → list_any q (filter p rows) ≡ true → list_any q rows ≡ true
any_within p q rows h =
    let others : List DirRow = filter (λ r. not (p r)) rows in
    list_any-IsPermutation q rows (filter p rows ++ others) (IsPermutation-filter_both p (λ r. not (p r)) (λ r. refl) rows)
    ∙ (list_any-append q (filter p rows) others ∙ or_left (list_any q (filter p rows)) (list_any q others) h)

module _ (w : Window) (row : DirRow) (rows after : List DirRow) (entered : IsPermutation (row ∷ rows) after) where
  abbrev its : List DirRow
  its = directory.segment_rows row.segment rows

  own_rows : directory.segment_rows row.segment (row ∷ rows) ≡ row ∷ its
  own_rows = ap (λ b. cond b (row ∷ its) its) (eq-eqb row.segment row.segment refl)

  rows_after : IsPermutation (row ∷ its) (directory.segment_rows row.segment after)
  rows_after = subst (λ rs. IsPermutation rs (directory.segment_rows row.segment after)) own_rows (permuted_passed (of_segment row.segment) (row ∷ rows) after entered)

  one_longer : length (directory.segment_rows row.segment after) ≡ length its + 1
  one_longer = length_permutation (row ∷ its) (directory.segment_rows row.segment after) rows_after ∙ omega arith

  used_before : directory.is_used w row.segment rows row.bucket ≡ true → has_bucket its row.bucket ≡ true
  used_before used =
      any_within (λ r. is_in_range w r.place) (λ r. r.bucket == row.bucket) its
      (ap (λ rs. has_bucket rs row.bucket) (sym (both_tests (of_segment row.segment) (λ r. is_in_range w r.place) rows)) ∙ used)

  -- in a bucket in use it brings none more
  none_more : directory.is_used w row.segment rows row.bucket ≡ true
      → in_use w.geometry.buckets (directory.segment_rows row.segment after) ≤ in_use w.geometry.buckets its
  none_more used =
      let same = in_use_permuted w.geometry.buckets (row ∷ its) (directory.segment_rows row.segment after) rows_after in
      let within : in_use w.geometry.buckets (row ∷ its) ≤ in_use w.geometry.buckets its =
      fewer (has_bucket (row ∷ its)) (has_bucket its) 0 w.geometry.buckets (λ b from is. elim (or_cases (row.bucket == b) (has_bucket its b) is) [
        | inl here ↦ subst (λ k. has_bucket its k ≡ true) (eqb-true row.bucket b here) (used_before used)
        | inr there ↦ there
      ]) in
      omega (arith, same, within)

  -- so where there were slots for all of them behind it there was one for it
  not_full : directory.AreFew w.geometry after → directory.is_full w row rows ≡ false
  not_full few = false_from_ne_true (directory.is_full w row rows) (λ full.
      let parts = and_parts (directory.is_used w row.segment rows row.bucket)
      (length (directory.segment_rows_in_range w row.segment rows) == 3 * w.geometry.buckets
      + directory.buckets_in_range w row.segment rows) full in
      let all = few row.segment in
      let room = live_room w row.segment rows in
      let before = in_use_is w row.segment rows in
      let behind = in_use_is w row.segment after in
      let more = none_more parts.0 in
      let count = eqb-true (length (directory.segment_rows_in_range w row.segment rows)) (3 * w.geometry.buckets + directory.buckets_in_range w row.segment rows) parts.1 in
      omega (arith, all, room, before, behind, more, one_longer, count))

-- what was entered had a slot
pub slot_made : (t : State) (c new : Seen) (id : PieceId) (place : ℕ) → IsHeld t c → new.window.geometry ≡ c.window.geometry
    → directory.AreFew new.window.geometry new.rows → IsPermutation (row_of_key c.geometry (key_of_piece id) place ∷ c.rows) new.rows → is_full_for t id ≡ false
slot_made t c new id place h same few entered =
    sym (full_is t c id place h)
    ∙ not_full c.window (row_of_key c.geometry (key_of_piece id) place) c.rows new.rows entered (subst (λ g. directory.AreFew g new.rows) same few)
