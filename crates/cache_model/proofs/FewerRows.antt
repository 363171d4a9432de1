-- Where no piece is live that was not, each segment has slots for its live pieces as before.
use Rattle.std.proofs.Common.{◌≡◌, ℕ, zero, suc, ◌+◌, ◌*◌, ◌≤◌, List, [], ◌∷◌, length, refl, sym, ◌∙◌, ap, subst, arith, inl, inr, ◌⊎◌, Bool, true, false, cond}
use Rattle.std.specs.Prelude.{not, filter, ◌==◌, ◌&&◌, Option, Some, None, if◌then◌else◌, option_and_then}
use Rattle.std.specs.List.{range_with_len}
use Rattle.std.proofs.lemmas.Bool.{eqb-true, eq-eqb, or_cases, or_left, or_right}
use Rattle.tape_base.specs.declared.pieces.PieceId.{PieceId}
use Rattle.tape_base.specs.Piece.{same_piece}
use Rattle.tape_base.proofs.NameLaws.{same_piece-same, same_piece-true}
use Rattle.cache_model.specs.State.{State, Row, is_live, live_row_of, live_rows, only_live, row_in, without}
use Rattle.cache_model.specs.Permit.{IsAmong}
use Rattle.cache_model.specs.Room.{bucket_of_piece, is_bucket_used, is_full_with, rows_of_segment, segment_of_piece, used_buckets}
use Rattle.cache_model.specs.Tape.{AreApart, NotAmong}
use Rattle.cache_model.proofs.Found.{no_truth, none_is}
use Rattle.cache_model.proofs.Lists.{found_row, own_piece}
use Rattle.cache_model.proofs.Rows.{apart-part, part-filter, part-trans}
use Rattle.cache_model.proofs.SoundFlush.{among_part}
use Rattle.cache_model.proofs.Walks.{all_among, among_found, differs}
use Rattle.cache_model.proofs.Written.{passes}
use Rattle.cache_model.proofs.Buckets.{bucket_below, fewer, length-taken, one_more, used, used_is, used_less}
use Rattle.cache_model.specs.Slots.{AllFit, HasNoMoreLive, IsLivePiece}

-- ---- rows that pass a test

stays_by : (test : Row → Bool) (x row : Row) (rows : List Row) (b : Bool) → test x ≡ b → test row ≡ true → (row ≡ x) ⊎ IsAmong row (filter test rows)
    → IsAmong row (cond b (x ∷ filter test rows) (filter test rows))
stays_by test x row rows true e h m = m
stays_by test x row rows false e h m = elim m [ inl same ↦ no_truth (sym h ∙ (ap test same ∙ e)) | inr k ↦ k ]

among_passed : (test : Row → Bool) (row : Row) (rows : List Row) → test row ≡ true → IsAmong row rows → IsAmong row (filter test rows)
among_passed test row [] h m = absurd m
among_passed test row (x ∷ rows) h m = stays_by test x row rows (test x) refl h (elim m [ inl same ↦ inl same | inr k ↦ inr (among_passed test row rows h k) ])

turned : (a b : PieceId) (t : Bool) → same_piece b a ≡ t → same_piece a b ≡ false → t ≡ false
turned a b false e h = refl
turned a b true e h = no_truth (sym (same_piece-same a) ∙ (ap (same_piece a) (sym (same_piece-true b a e)) ∙ h))

among_others : (id : PieceId) (row : Row) (rows : List Row) → same_piece row.id id ≡ false → IsAmong row rows → IsAmong row (without id rows)
among_others id row rows h m = among_passed (λ (r : Row). not (same_piece r.id id)) row rows (ap not h) m

-- ---- pieces that are among others

-- a row of these is of the piece
abbrev HasPiece : List Row → PieceId → Type 0
HasPiece rows id = (row : Row) × IsAmong row rows × (row.id ≡ id)

-- each piece of some rows is one of the others
abbrev AreOf : List Row → List Row → Type 0
AreOf some rows = (row : Row) → IsAmong row some → HasPiece rows row.id

-- the pieces behind the first are those of the others without that
others_of : (x : Row) (some rows : List Row) → NotAmong x.id some → AreOf (x ∷ some) rows → AreOf some (without x.id rows)
others_of x some rows apart of row m =
    let found : HasPiece rows row.id = of row (inr m) in
    let other : same_piece found.0.id x.id ≡ false =
    turned x.id found.0.id (same_piece found.0.id x.id) refl (ap (same_piece x.id) found.2 ∙ differs x.id some row apart m) in
    (found.0, among_others x.id found.0 rows other found.1, found.2)

taken : (x : Row) (rows : List Row) → HasPiece rows x.id → length (without x.id rows) + 1 ≤ length rows
taken x rows found = subst (λ i. length (without i rows) + 1 ≤ length rows) found.2 (length-taken found.0 rows found.1)

none_pass : (a n : ℕ) → length (filter (λ (b : ℕ). false) (range_with_len a n)) ≡ 0
none_pass a zero = refl
none_pass a (suc n) = none_pass (a + 1) n

module _ (s : State) where
  -- a bucket in use has a row
  row_used : (rows : List Row) (b : ℕ) → is_bucket_used s rows b ≡ true → (row : Row) × IsAmong row rows × ((bucket_of_piece s row.id == b) ≡ true)
  row_used [] b h = no_truth (sym h)
  row_used (x ∷ rows) b h = elim (or_cases (bucket_of_piece s x.id == b) (is_bucket_used s rows b) h) [
    | inl here ↦ (x, inl refl, here)
    | inr there ↦ let rest = row_used rows b there in (rest.0, inr rest.1, rest.2)
  ]

  used_row : (row : Row) (rows : List Row) (b : ℕ) → IsAmong row rows → (bucket_of_piece s row.id == b) ≡ true → is_bucket_used s rows b ≡ true
  used_row row [] b m h = absurd m
  used_row row (x ∷ rows) b m h = elim m [
    | inl same ↦ or_left (bucket_of_piece s x.id == b) (is_bucket_used s rows b) (ap (λ (r : Row). bucket_of_piece s r.id == b) (sym same) ∙ h)
    | inr k ↦ or_right (bucket_of_piece s x.id == b) (is_bucket_used s rows b) (used_row row rows b k h)
  ]

  -- the bucket of a piece of these is in use
  used_piece : (id : PieceId) (rows : List Row) (b : ℕ) → HasPiece rows id → (bucket_of_piece s id == b) ≡ true → is_bucket_used s rows b ≡ true
  used_piece id rows b found h = used_row found.0 rows b found.1 (ap (λ i. bucket_of_piece s i == b) found.2 ∙ h)

  used_within : (some rows : List Row) (b : ℕ) → AreOf some rows → is_bucket_used s some b ≡ true → is_bucket_used s rows b ≡ true
  used_within some rows b of h = let row = row_used some b h in used_piece row.0.id rows b (of row.0 row.1) row.2

  used_none : used s [] ≡ 0
  used_none = none_pass 0 s.geometry.buckets

  -- no more buckets are in use than there are rows
  used_few : (n : ℕ) (rows : List Row) → length rows ≤ n → used s rows ≤ length rows
  used_few n [] h = let none = used_none in omega (arith, none)
  used_few zero (x ∷ rows) h = absurd (omega (arith, h))
  used_few (suc n) (x ∷ rows) h =
      let one : used s (x ∷ rows) ≤ used s (without x.id (x ∷ rows)) + 1 = used_less s x.id (x ∷ rows) in
      let less : length (without x.id (x ∷ rows)) + 1 ≤ length (x ∷ rows) = length-taken x (x ∷ rows) (inl refl) in
      let rest : used s (without x.id (x ∷ rows)) ≤ length (without x.id (x ∷ rows)) = used_few n (without x.id (x ∷ rows)) (omega (arith, h, less)) in
      omega (arith, one, less, rest)

  module _ (x : Row) (some rows : List Row) (apart : NotAmong x.id some) (of : AreOf (x ∷ some) rows) where
    -- where the bucket of the first piece has another one, all buckets in use still are without it
    shared_by : (row : Row) (b : ℕ) (t : Bool) → same_piece row.id x.id ≡ t → IsAmong row rows → (bucket_of_piece s row.id == b) ≡ true
        → is_bucket_used s some (bucket_of_piece s x.id) ≡ true → is_bucket_used s (without x.id rows) b ≡ true
    shared_by row b true e m h shared =
        let its : bucket_of_piece s x.id ≡ b = ap (bucket_of_piece s) (sym (same_piece-true row.id x.id e)) ∙ eqb-true (bucket_of_piece s row.id) b h in
        used_within some (without x.id rows) b (others_of x some rows apart of) (subst (λ k. is_bucket_used s some k ≡ true) its shared)
    shared_by row b false e m h shared = used_row row (without x.id rows) b (among_others x.id row rows e m) h

    still_used : is_bucket_used s some (bucket_of_piece s x.id) ≡ true → used s rows ≤ used s (without x.id rows)
    still_used shared = fewer (is_bucket_used s rows) (is_bucket_used s (without x.id rows)) 0 s.geometry.buckets
        (λ b from is. let row = row_used rows b is in shared_by row.0 b (same_piece row.0.id x.id) refl row.1 row.2 shared)

    more_used : used s some ≤ used s (x ∷ some)
    more_used = fewer (is_bucket_used s some) (is_bucket_used s (x ∷ some)) 0 s.geometry.buckets
        (λ b from is. or_right (bucket_of_piece s x.id == b) (is_bucket_used s some b) is)

    one_used : is_bucket_used s some (bucket_of_piece s x.id) ≡ false → used s some + 1 ≤ used s (x ∷ some)
    one_used none =
        let below = bucket_below s x.id in
        one_more (is_bucket_used s some) (is_bucket_used s (x ∷ some)) (bucket_of_piece s x.id) 0 s.geometry.buckets (omega (arith, below)) (omega arith) none
        (or_left (bucket_of_piece s x.id == bucket_of_piece s x.id) (is_bucket_used s some (bucket_of_piece s x.id)) (eq-eqb (bucket_of_piece s x.id) (bucket_of_piece s x.id) refl))
        (λ b is. or_right (bucket_of_piece s x.id == b) (is_bucket_used s some b) is)

    less_by : (t : Bool) → is_bucket_used s some (bucket_of_piece s x.id) ≡ t
        → length some + used s (without x.id rows) ≤ length (without x.id rows) + used s some
        → length (x ∷ some) + used s rows ≤ length rows + used s (x ∷ some)
    less_by true shared rest =
        let still = still_used shared in
        let more = more_used in
        let less = taken x rows (of x (inl refl)) in
        omega (arith, still, more, less, rest)
    less_by false none rest =
        let still = used_less s x.id rows in
        let more = one_used none in
        let less = taken x rows (of x (inl refl)) in
        omega (arith, still, more, less, rest)

  -- fewer pieces take no more slots that are no roots
  pub less_room : (some rows : List Row) → AreApart some → AreOf some rows → length some + used s rows ≤ length rows + used s some
  less_room [] rows apart of = let few = used_few (length rows) rows (omega arith) in omega (arith, few)
  less_room (x ∷ some) rows apart of =
      less_by x some rows apart.0 of (is_bucket_used s some (bucket_of_piece s x.id)) refl
      (less_room some (without x.id rows) apart.1 (others_of x some rows apart.0 of))

-- ---- live pieces

-- the row that stands for a piece, from the floor on
abbrev StandsLive : State → PieceId → Row → Type 0
StandsLive s id row = (row_in s.rows id ≡ Some row) × (is_live s row ≡ true)

stands_by : (s : State) (other row : Row) (b : Bool) → is_live s other ≡ b → (if b then Some other else None) ≡ Some row → (other ≡ row) × (is_live s row ≡ true)
stands_by s other row true e h = let same : other ≡ row = cc in (same, ap (is_live s) (sym same) ∙ e)
stands_by s other row false e h = none_is h

stands_in : (s : State) (o : Option Row) (row : Row) → option_and_then (only_live s) o ≡ Some row → (o ≡ Some row) × (is_live s row ≡ true)
stands_in s None row h = none_is h
stands_in s (Some other) row h = let both = stands_by s other row (is_live s other) refl h in (ap Some both.0, both.1)

pub live_stands : (s : State) (id : PieceId) (row : Row) → live_row_of s id ≡ Some row → StandsLive s id row
live_stands s id row h = stands_in s (row_in s.rows id) row h

pub stands_live : (s : State) (id : PieceId) (row : Row) → StandsLive s id row → live_row_of s id ≡ Some row
stands_live s id row h = rw (h.0, h.1) refl

pub row_among : (id : PieceId) (rows : List Row) (row : Row) → row_in rows id ≡ Some row → IsAmong row rows
row_among id rows row h = found_row (λ r. IsAmong r rows) id rows row (all_among (λ r. IsAmong r rows) rows (λ r m. m)) h

-- a live piece has a row in its segment
in_segment : (s : State) (id : PieceId) (segment : ℕ) → IsLivePiece s id → (segment_of_piece s id == segment) ≡ true → HasPiece (rows_of_segment s segment) id
in_segment s id segment live at =
    let stands : StandsLive s id live.0 = live_stands s id live.0 live.1 in
    let its : live.0.id ≡ id = own_piece id s.rows live.0 stands.0 in
    let among : IsAmong live.0 (live_rows s) = among_passed (is_live s) live.0 s.rows stands.1 (row_among id s.rows live.0 stands.0) in
    (live.0, among_passed (λ (row : Row). segment_of_piece s row.id == segment) live.0 (live_rows s) (ap (λ i. segment_of_piece s i == segment) its ∙ at) among, its)

-- and each row of a segment is of a live piece
of_segment : (s : State) (segment : ℕ) (row : Row) → AreApart s.rows → IsAmong row (rows_of_segment s segment) → IsLivePiece s row.id × ((segment_of_piece s row.id == segment) ≡ true)
of_segment s segment row apart m =
    let live : IsAmong row (live_rows s) = among_part row (part-filter (λ (r : Row). segment_of_piece s r.id == segment) (live_rows s)) m in
    let among : IsAmong row s.rows = among_part row (part-filter (is_live s) s.rows) live in
    ((row, stands_live s row.id row (among_found s.rows row apart among, passes (is_live s) s.rows row live)), passes (λ (r : Row). segment_of_piece s r.id == segment) (live_rows s) row m)

segment_apart : (s : State) (segment : ℕ) → AreApart s.rows → AreApart (rows_of_segment s segment)
segment_apart s segment apart = apart-part (part-trans (part-filter (λ (r : Row). segment_of_piece s r.id == segment) (live_rows s)) (part-filter (is_live s) s.rows)) apart

-- so many rows fit a segment
abbrev FitsRows : State → List Row → Type 0
FitsRows s rows = length rows ≤ 3 * s.geometry.buckets + used_buckets s rows

rows_fit : (s : State) (some rows : List Row) → AreApart some → AreOf some rows → FitsRows s rows → FitsRows s some
rows_fit s some rows apart of fits =
    let less = less_room s some rows apart of in
    let one = used_is s some in
    let all = used_is s rows in
    omega (arith, fits, less, one, all)

-- what is live of t is live of s, so a segment of t has pieces of that of s
segment_among : (s t : State) → AreApart t.rows → t.geometry ≡ s.geometry → HasNoMoreLive s t
    → (segment : ℕ) → AreOf (rows_of_segment t segment) (rows_of_segment s segment)
segment_among s t apart geometry less segment row m =
    let live = of_segment t segment row apart m in
    in_segment s row.id segment (less row.id live.0)
    (subst (λ g. (segment_of_piece (record s { geometry = g }) row.id == segment) ≡ true) geometry live.1)

pub less_fits : (s t : State) → AreApart t.rows → t.geometry ≡ s.geometry → HasNoMoreLive s t → AllFit s → AllFit t
less_fits s t apart geometry less fit segment =
    let some : List Row = rows_of_segment t segment in
    let of : AreOf some (rows_of_segment s segment) = segment_among s t apart geometry less segment in
    let fits : FitsRows s some = rows_fit s some (rows_of_segment s segment) (segment_apart t segment apart) of (fit segment) in
    subst (λ g. FitsRows (record s { geometry = g }) some) (sym geometry) fits

-- ---- a piece that comes back

none_of_piece : (id : PieceId) (rows : List Row) → NotAmong id (without id rows)
none_of_piece id [] = tt
none_of_piece id (x ∷ rows) = by (same_piece x.id id) refl (none_of_piece id rows)
  where
    by : (b : Bool) → same_piece x.id id ≡ b → NotAmong id (without id rows) → NotAmong id (cond (not b) (x ∷ without id rows) (without id rows))
    by true e rest = rest
    by false e rest = (turned x.id id (same_piece id x.id) refl e, rest)

others_apart : (id : PieceId) (rows : List Row) → AreApart rows → AreApart (without id rows)
others_apart id rows apart = apart-part (part-filter (λ (r : Row). not (same_piece r.id id)) rows) apart

not_as_many : (a b : ℕ) (t : Bool) → (a == b) ≡ t → a + 1 ≤ b → t ≡ false
not_as_many a b false e h = refl
not_as_many a b true e h = let same : a ≡ b = eqb-true a b e in absurd (omega (arith, h, same))

module _ (s : State) (x : Row) (some : List Row) where
  abbrev its_bucket : ℕ
  its_bucket = bucket_of_piece s x.id

  used_as_before : is_bucket_used s some its_bucket ≡ true → used s (x ∷ some) ≤ used s some
  used_as_before shared = fewer (is_bucket_used s (x ∷ some)) (is_bucket_used s some) 0 s.geometry.buckets
      (λ b from is. elim (or_cases (bucket_of_piece s x.id == b) (is_bucket_used s some b) is) [
        | inl here ↦ subst (λ k. is_bucket_used s some k ≡ true) (eqb-true its_bucket b here) shared
        | inr there ↦ there
      ])

  full_by : (t : Bool) → is_bucket_used s some its_bucket ≡ t → FitsRows s (x ∷ some) → (t && length some == 3 * s.geometry.buckets + used_buckets s some) ≡ false
  full_by false none fits = refl
  full_by true shared fits =
      let still = used_as_before shared in
      let one = used_is s some in
      let all = used_is s (x ∷ some) in
      not_as_many (length some) (3 * s.geometry.buckets + used_buckets s some) (length some == 3 * s.geometry.buckets + used_buckets s some) refl
      (omega (arith, fits, still, one, all))

-- of pieces that fit one has a slot beside the others
slot_among : (s : State) (x : Row) (some : List Row) → FitsRows s (x ∷ some) → is_full_with s (bucket_of_piece s x.id) some ≡ false
slot_among s x some fits = full_by s x some (is_bucket_used s some (bucket_of_piece s x.id)) refl fits

module _ (s t : State) (apart : AreApart t.rows) (geometry : t.geometry ≡ s.geometry) (less : HasNoMoreLive s t) (fit : AllFit s)
    (piece : PieceId) (live : IsLivePiece s piece) where
  abbrev its_segment : ℕ
  its_segment = segment_of_piece t piece

  abbrev its_others : List Row
  its_others = without piece (rows_of_segment t its_segment)

  its_id : live.0.id ≡ piece
  its_id = own_piece piece s.rows live.0 (live_stands s piece live.0 live.1).0

  among_them : AreOf (live.0 ∷ its_others) (rows_of_segment s its_segment)
  among_them row m = elim m [
    | inl same ↦ in_segment s row.id its_segment (subst (IsLivePiece s) (sym (ap (λ (r : Row). r.id) same ∙ its_id)) live)
        (subst (λ g. (segment_of_piece (record s { geometry = g }) row.id == its_segment) ≡ true) geometry
        (eq-eqb (segment_of_piece t row.id) its_segment (ap (segment_of_piece t) (ap (λ (r : Row). r.id) same ∙ its_id))))
    | inr k ↦ segment_among s t apart geometry less its_segment row (among_part row (part-filter (λ (r : Row). not (same_piece r.id piece)) (rows_of_segment t its_segment)) k)
  ]

  pub slot_left : is_full_with t (bucket_of_piece t piece) its_others ≡ false
  slot_left =
      let alone : NotAmong live.0.id its_others = subst (λ i. NotAmong i its_others) (sym its_id) (none_of_piece piece (rows_of_segment t its_segment)) in
      let fits : FitsRows s (live.0 ∷ its_others) = rows_fit s (live.0 ∷ its_others) (rows_of_segment s its_segment)
      (alone, others_apart piece (rows_of_segment t its_segment) (segment_apart t its_segment apart)) among_them (fit its_segment) in
      let slot : is_full_with s (bucket_of_piece s piece) its_others ≡ false =
      subst (λ i. is_full_with s (bucket_of_piece s i) its_others ≡ false) its_id (slot_among s live.0 its_others fits) in
      subst (λ g. is_full_with (record s { geometry = g }) (bucket_of_piece (record s { geometry = g }) piece) its_others ≡ false) (sym geometry) slot
