-- Each segment has room for its live pieces, also behind an insert.
use Rattle.std.proofs.Common.{◌≡◌, ℕ, ◌+◌, ◌*◌, ◌≤◌, List, [], ◌∷◌, ◌++◌, length, refl, sym, ◌∙◌, ap, subst, arith, inl, inr, ◌⊎◌, Bool, true, false, cond, append-nil, length-append}
use Rattle.std.specs.Prelude.{not, filter, map, ◌==◌, ◌&&◌, ◌||◌, ◌≢◌}
use Rattle.std.proofs.lemmas.Bool.{eqb-false, eqb-true, eq-eqb, or_cases, or_left, or_right}
use Rattle.std.proofs.lemmas.List.Elements.{filter-append}
use Rattle.std.proofs.lemmas.List.Folds.{list_any-append}
use Rattle.tape_base.specs.declared.pieces.PieceId.{PieceId}
use Rattle.tape_base.specs.declared.digests.Digest.{Digest}
use Rattle.tape_base.specs.Piece.{same_piece}
use Rattle.cache_model.specs.declared.record.Rec.{Rec}
use Rattle.cache_model.specs.declared.record.Rec.TheVariants as rec
use Rattle.cache_model.specs.State.{State, Row, after_all, is_live, placed_row, state_after, without}
use Rattle.cache_model.specs.Permit.{Permit}
use Rattle.cache_model.specs.Room.{MayDisplace, bucket_of_piece, displaced_record, displaces, is_bucket_used, is_full_for, is_full_with, rows_left, rows_of_segment, segment_of_piece, used_buckets}
use Rattle.cache_model.specs.Openings.{FitsSegment}
use Rattle.cache_model.proofs.Found.{no_truth}
use Rattle.cache_model.proofs.Steps.{after_all-append}
use Rattle.session_laws.proofs.Forgetting.{not_true}
use Rattle.cache_model.proofs.Buckets.{bucket_below, fewer, length-without, one_more, used, used_is, used_less}
use Rattle.cache_model.specs.Slots.{AllFit}

-- ---- a piece that goes

module _ {X : Type 0} (f g : X → Bool) where
  -- two tests of a list, one after the other, may be turned round
  filter_turned : (xs : List X) → filter f (filter g xs) ≡ filter g (filter f xs)
  filter_turned [] = refl
  filter_turned (x ∷ xs) = by (f x) (g x) refl refl (filter_turned xs)
    where
      by : (b c : Bool) → f x ≡ b → g x ≡ c → filter f (filter g xs) ≡ filter g (filter f xs)
          → filter f (cond c (x ∷ filter g xs) (filter g xs)) ≡ filter g (cond b (x ∷ filter f xs) (filter f xs))
      by true true e k h = rw (e, k) (ap (λ ys. x ∷ ys) h)
      by true false e k h = rw k h
      by false true e k h = rw e h
      by false false e k h = h

abbrev in_segment : State → ℕ → Row → Bool
in_segment s segment row = segment_of_piece s row.id == segment

-- the live rows of a segment, of any rows
abbrev of_segment : State → ℕ → List Row → List Row
of_segment s segment rows = filter (in_segment s segment) (filter (is_live s) rows)

of_segment-without : (s : State) (segment : ℕ) (id : PieceId) (rows : List Row) → of_segment s segment (without id rows) ≡ without id (of_segment s segment rows)
of_segment-without s segment id rows =
    ap (filter (in_segment s segment)) (filter_turned (is_live s) (λ (row : Row). not (same_piece row.id id)) rows)
    ∙ filter_turned (in_segment s segment) (λ (row : Row). not (same_piece row.id id)) (filter (is_live s) rows)

gone_or_same : (id : PieceId) (rows : List Row) → (without id rows ≡ rows) ⊎ (length (without id rows) + 1 ≤ length rows)
gone_or_same id [] = inl refl
gone_or_same id (x ∷ rows) = by (same_piece x.id id) (gone_or_same id rows)
  where
    by : (b : Bool) → (without id rows ≡ rows) ⊎ (length (without id rows) + 1 ≤ length rows)
        → (cond (not b) (x ∷ without id rows) (without id rows) ≡ x ∷ rows) ⊎ (length (cond (not b) (x ∷ without id rows) (without id rows)) + 1 ≤ length (x ∷ rows))
    by true h = let less : length (without id rows) ≤ length rows = length-without id rows in inr (omega (arith, less))
    by false h = elim h [ inl same ↦ inl (ap (λ rs. x ∷ rs) same) | inr less ↦ inr (omega (arith, less)) ]

-- so many pieces more would have room, as far as buckets in use go
abbrev HasRoom : State → ℕ → List Row → Type 0
HasRoom s more rows = length rows + more ≤ 3 * s.geometry.buckets + used s rows

room_without : (s : State) (more : ℕ) (id : PieceId) (rows : List Row) → HasRoom s more rows → HasRoom s more (without id rows)
room_without s more id rows h = elim (gone_or_same id rows) [
  | inl same ↦ subst (HasRoom s more) (sym same) h
  | inr less ↦ let used_fewer : used s rows ≤ used s (without id rows) + 1 = used_less s id rows in omega (arith, h, less, used_fewer)
]

fits_room : (s : State) (segment : ℕ) → FitsSegment s segment → HasRoom s 0 (rows_of_segment s segment)
fits_room s segment h = let same = used_is s (rows_of_segment s segment) in omega (arith, h, same)

room_fits : (s : State) (rows : List Row) → HasRoom s 0 rows → length rows ≤ 3 * s.geometry.buckets + used_buckets s rows
room_fits s rows h = let same = used_is s rows in omega (arith, h, same)

displaced_fits : (s : State) (segment live : ℕ) (row : Row) → AllFit s → AllFit (state_after s (displaced_record segment live row))
displaced_fits s segment live row h n =
    room_fits s (of_segment s n (without row.id s.rows))
    (subst (HasRoom s 0) (sym (of_segment-without s n row.id s.rows)) (room_without s 0 row.id (rows_of_segment s n) (fits_room s n (h n))))

all_displaced_fit : (s : State) (segment live : ℕ) (purged : List Row) → AllFit s → AllFit (after_all s (map (displaced_record segment live) purged))
all_displaced_fit s segment live [] h = h
all_displaced_fit s segment live (row ∷ purged) h =
    all_displaced_fit (state_after s (displaced_record segment live row)) segment live purged (displaced_fits s segment live row h)

-- ---- the slot that a purge makes

full_behind : (s : State) (piece : PieceId) (segment live : ℕ) (purged : List Row)
    → is_full_for (after_all s (map (displaced_record segment live) purged)) piece
    ≡ is_full_with s (bucket_of_piece s piece) (rows_left purged (rows_of_segment s (segment_of_piece s piece)))
full_behind s piece segment live [] = refl
full_behind s piece segment live (row ∷ purged) =
    full_behind (state_after s (displaced_record segment live row)) piece segment live purged
    ∙ ap (λ rows. is_full_with s (bucket_of_piece s piece) (rows_left purged rows)) (of_segment-without s (segment_of_piece s piece) row.id s.rows)

slot_by : (p : Permit) (s : State) (piece : PieceId) (added : List Rec) (b : Bool) → displaces p s piece ≡ b → p.packed ≡ true → MayDisplace p s piece added
    → is_full_for (after_all s added) piece ≡ false
slot_by p s piece added true e packed m =
    ap (λ recs. is_full_for (after_all s recs) piece) m.is
    ∙ (full_behind s piece (segment_of_piece s piece) (length (rows_of_segment s (segment_of_piece s piece))) m.purged ∙ (m.full e).slot)
slot_by p s piece added false e packed m =
    let none : added ≡ [] = m.is ∙ ap (map (displaced_record (segment_of_piece s piece) (length (rows_of_segment s (segment_of_piece s piece))))) (m.free e) in
    ap (λ recs. is_full_for (after_all s recs) piece) none ∙ (ap (λ b. b && is_full_for s piece) (sym packed) ∙ e)

pub slot_is_made : (p : Permit) (s : State) (piece : PieceId) (added : List Rec) → p.packed ≡ true → MayDisplace p s piece added
    → is_full_for (after_all s added) piece ≡ false
slot_is_made p s piece added packed m = slot_by p s piece added (displaces p s piece) refl packed m

-- ---- a piece that is placed

used_within : (s : State) (id : PieceId) (rows : List Row) (b : ℕ) → is_bucket_used s (without id rows) b ≡ true → is_bucket_used s rows b ≡ true
used_within s id [] b h = h
used_within s id (x ∷ rows) b h = by (same_piece x.id id) (used_within s id rows b) h
  where
    by : (gone : Bool) → (is_bucket_used s (without id rows) b ≡ true → is_bucket_used s rows b ≡ true)
        → is_bucket_used s (cond (not gone) (x ∷ without id rows) (without id rows)) b ≡ true → ((bucket_of_piece s x.id == b) || is_bucket_used s rows b) ≡ true
    by true rest m = or_right (bucket_of_piece s x.id == b) (is_bucket_used s rows b) (rest m)
    by false rest m = elim (or_cases (bucket_of_piece s x.id == b) (is_bucket_used s (without id rows) b) m) [
      | inl here ↦ or_left (bucket_of_piece s x.id == b) (is_bucket_used s rows b) here
      | inr there ↦ or_right (bucket_of_piece s x.id == b) (is_bucket_used s rows b) (rest there)
    ]

module _ (s : State) (rows : List Row) (new : Row) where
  abbrev more : List Row
  more = rows ++ new ∷ []

  abbrev is_new : ℕ → Bool
  is_new b = bucket_of_piece s new.id == b

  used_more : (b : ℕ) → is_bucket_used s more b ≡ (is_bucket_used s rows b || (is_new b || false))
  used_more b = list_any-append (λ (row : Row). bucket_of_piece s row.id == b) rows (new ∷ [])

  used_still : (b : ℕ) → is_bucket_used s rows b ≡ true → is_bucket_used s more b ≡ true
  used_still b h = used_more b ∙ or_left (is_bucket_used s rows b) (is_new b || false) h

  used_now : is_bucket_used s more (bucket_of_piece s new.id) ≡ true
  used_now =
      let b : ℕ = bucket_of_piece s new.id in
      used_more b ∙ or_right (is_bucket_used s rows b) (is_new b || false) (or_left (is_new b) false (eq-eqb b b refl))

  -- in a bucket without a piece there is a slot for the first one
  first_fits : is_bucket_used s rows (bucket_of_piece s new.id) ≡ false → HasRoom s 0 rows → HasRoom s 0 more
  first_fits none h =
      let count : length more ≡ length rows + 1 = length-append rows (new ∷ []) in
      let one : used s rows + 1 ≤ used s more =
      one_more (is_bucket_used s rows) (is_bucket_used s more) (bucket_of_piece s new.id) 0 s.geometry.buckets (let below = bucket_below s new.id in omega (arith, below)) (omega arith) none used_now used_still in
      omega (arith, h, count, one)

  other_fits : HasRoom s 1 rows → HasRoom s 0 more
  other_fits h =
      let count : length more ≡ length rows + 1 = length-append rows (new ∷ []) in
      let still : used s rows ≤ used s more = fewer (is_bucket_used s rows) (is_bucket_used s more) 0 s.geometry.buckets (λ b from. used_still b) in
      omega (arith, h, count, still)

module _ (s : State) (piece : PieceId) (rows : List Row) (new : Row) (its : new.id ≡ piece) (room : HasRoom s 0 rows) where
  abbrev bucket : ℕ
  bucket = bucket_of_piece s piece

  slot_fits : (b : Bool) → is_bucket_used s rows bucket ≡ b → (b && length rows == 3 * s.geometry.buckets + used_buckets s rows) ≡ false → HasRoom s 0 (without piece rows ++ new ∷ [])
  slot_fits false none e =
      first_fits s (without piece rows) new
      (not_true (is_bucket_used s (without piece rows) (bucket_of_piece s new.id)) (λ h.
      no_truth (sym (used_within s piece rows bucket (subst (λ i. is_bucket_used s (without piece rows) (bucket_of_piece s i) ≡ true) its h)) ∙ none)))
      (room_without s 0 piece rows room)
  slot_fits true some e =
      let other : length rows ≢ 3 * s.geometry.buckets + used_buckets s rows = eqb-false (length rows) (3 * s.geometry.buckets + used_buckets s rows) e in
      let same : used_buckets s rows ≡ used s rows = used_is s rows in
      let less : HasRoom s 1 rows = omega (arith, room, other, same) in
      other_fits s (without piece rows) new (room_without s 1 piece rows less)

module _ (s : State) (piece : PieceId) (new : Row) (its : new.id ≡ piece) (slot : is_full_for s piece ≡ false) (fit : AllFit s) (segment : ℕ) where
  abbrev before : List Row
  before = rows_of_segment s segment

  placed_by : (b c : Bool) → is_live s new ≡ b → in_segment s segment new ≡ c
      → HasRoom s 0 (without piece before ++ filter (in_segment s segment) (cond b (new ∷ []) []))
  placed_by false c e k = subst (HasRoom s 0) (sym (append-nil (without piece before))) (room_without s 0 piece before (fits_room s segment (fit segment)))
  placed_by true false e k = rw k (subst (HasRoom s 0) (sym (append-nil (without piece before))) (room_without s 0 piece before (fits_room s segment (fit segment))))
  placed_by true true e k =
      let same : segment_of_piece s piece ≡ segment = ap (segment_of_piece s) (sym its) ∙ eqb-true (segment_of_piece s new.id) segment k in
      let free : is_full_with s (bucket_of_piece s piece) before ≡ false = subst (λ n. is_full_with s (bucket_of_piece s piece) (rows_of_segment s n) ≡ false) same slot in
      rw k (slot_fits s piece before new its (fits_room s segment (fit segment)) (is_bucket_used s before (bucket_of_piece s piece)) refl free)

  placed_rows : of_segment s segment (without piece s.rows ++ new ∷ []) ≡ without piece before ++ of_segment s segment (new ∷ [])
  placed_rows =
      ap (filter (in_segment s segment)) (filter-append (is_live s) (without piece s.rows) (new ∷ []))
      ∙ (filter-append (in_segment s segment) (filter (is_live s) (without piece s.rows)) (filter (is_live s) (new ∷ []))
      ∙ ap (λ rows. rows ++ of_segment s segment (new ∷ [])) (of_segment-without s segment piece s.rows))

  placed_fits : HasRoom s 0 (of_segment s segment (without piece s.rows ++ new ∷ []))
  placed_fits = subst (HasRoom s 0) (sym placed_rows) (placed_by (is_live s new) (in_segment s segment new) refl refl)

place_fits : (s : State) (piece : PieceId) (place blocks pin : ℕ) (digest : Digest) → is_full_for s piece ≡ false → AllFit s
    → AllFit (state_after s (rec.Placed piece place blocks digest pin))
place_fits s piece place blocks pin digest slot fit segment =
    let new : Row = placed_row s piece place blocks digest pin in
    room_fits s (of_segment s segment (without piece s.rows ++ new ∷ [])) (placed_fits s piece new refl slot fit segment)

pub insert_fits : (p : Permit) (s : State) (piece : PieceId) (added : List Rec) (place blocks pin : ℕ) (digest : Digest) → p.packed ≡ true
    → MayDisplace p s piece added → AllFit s → AllFit (after_all s (added ++ rec.Placed piece place blocks digest pin ∷ []))
insert_fits p s piece added place blocks pin digest packed m fit =
    let behind : AllFit (after_all s added) =
    subst (λ recs. AllFit (after_all s recs)) (sym m.is) (all_displaced_fit s (segment_of_piece s piece) (length (rows_of_segment s (segment_of_piece s piece))) m.purged fit) in
    subst AllFit (sym (after_all-append s added (rec.Placed piece place blocks digest pin ∷ [])))
    (place_fits (after_all s added) piece place blocks pin digest (slot_is_made p s piece added packed m) behind)
