-- A segment that is full has pieces enough for those that an entry displaces.
use Rattle.std.proofs.Common.{◌≡◌, ℕ, zero, suc, ◌+◌, ◌*◌, ◌-◌, ◌/◌, ◌<◌, ◌≤◌, List, [], ◌∷◌, length, refl, sym, ◌∙◌, ap, arith, Bool, true, false, cond, inl, inr, subst, eqb-true, length-take}
use Rattle.std.specs.Prelude.{◌≢◌, not, ◌==◌, ◌&&◌, take, All, AllPairs, Contains, min}
use Rattle.std.proofs.lemmas.Bool.{and_parts}
use Rattle.std.proofs.lemmas.List.Elements.{All-nil, All-cons}
use Rattle.std.proofs.lemmas.List.Kept.{AllPairs-cons}
use Rattle.tape_base.specs.declared.pieces.PieceId.{PieceId}
use Rattle.tape_base.specs.Piece.{same_piece}
use Rattle.tape_base.proofs.NameLaws.{same_piece-same, same_piece-true}
use Rattle.cache_model.specs.declared.record.Rec.{Rec}
use Rattle.cache_model.specs.State.{State, Row, is_live, live_rows, without}
use Rattle.cache_model.specs.Permit.{IsAmong, Permit}
use Rattle.cache_model.specs.Room.{ArePurged, MayDisplace, is_full_with, rows_left, bucket_of_piece, displaces, is_bucket_used, is_full_for, rows_of_segment, segment_of_piece, used_buckets}
use Rattle.cache_model.specs.Tape.{AreApart, IsSound, NotAmong}
use Rattle.cache_model.proofs.Found.{no_truth}
use Rattle.cache_model.proofs.SoundFlush.{among_part}
use Rattle.cache_model.proofs.Buckets.{AreAmong, IsTwin, length-kept, length-left, twin_of, twin_used, used, used_is, used_left}
use Rattle.cache_model.proofs.Rows.{ArePart, done, keep, skip, apart-part, not_among-part, part-filter, part-trans}

part_none : (rows : List Row) → ArePart [] rows
part_none [] = done
part_none (row ∷ rows) = skip (part_none rows)

part_take : (n : ℕ) (rows : List Row) → ArePart (take n rows) rows
part_take zero rows = part_none rows
part_take (suc n) [] = done
part_take (suc n) (row ∷ rows) = keep (part_take n rows)

other_id : (id : PieceId) (row : Row) → same_piece id row.id ≡ false → id ≢ row.id
other_id id row e same = no_truth (sym (same_piece-same id) ∙ (ap (same_piece id) same ∙ e))

others : (id : PieceId) (rows : List Row) → NotAmong id rows → All (λ (b : Row). id ≢ b.id) rows
others id [] h = All-nil (λ (b : Row). id ≢ b.id)
others id (row ∷ rows) h = All-cons (λ (b : Row). id ≢ b.id) row rows (other_id id row h.0) (others id rows h.1)

no_pairs : AllPairs (λ (a b : Row). a.id ≢ b.id) []
no_pairs i j d less within = absurd (omega arith)

apart_pairs : (rows : List Row) → AreApart rows → AllPairs (λ (a b : Row). a.id ≢ b.id) rows
apart_pairs [] h = no_pairs
apart_pairs (row ∷ rows) h = AllPairs-cons (λ (a b : Row). a.id ≢ b.id) row rows (others row.id rows h.0) (apart_pairs rows h.1)

contains : (rows : List Row) (row : Row) → IsAmong row rows → Contains rows row
contains [] row m = absurd m
contains (x ∷ rows) row m = elim m [
  | inl same ↦ (0, omega arith, sym same)
  | inr there ↦ let at : Contains rows row = contains rows row there in let below : at.0 < length rows = at.1 in (suc at.0, omega (arith, below), at.2)
]

all_contained : (gone rows : List Row) → AreAmong gone rows → All (Contains rows) gone
all_contained [] rows h = All-nil (Contains rows)
all_contained (row ∷ gone) rows h = All-cons (Contains rows) row gone (contains rows row (h row (inl refl))) (all_contained gone rows (λ x m. h x (inr m)))

not_taken : (id : PieceId) (rows : List Row) → NotAmong id (without id rows)
not_taken id [] = tt
not_taken id (x ∷ rows) = by (same_piece x.id id) refl (not_taken id rows)
  where
    other : (b : Bool) → same_piece id x.id ≡ b → same_piece x.id id ≡ false → b ≡ false
    other false f e = refl
    other true f e = no_truth (sym (same_piece-same id) ∙ (ap (λ i. same_piece i id) (same_piece-true id x.id f) ∙ e))

    by : (b : Bool) → same_piece x.id id ≡ b → NotAmong id (without id rows) → NotAmong id (cond (not b) (x ∷ without id rows) (without id rows))
    by true e rest = rest
    by false e rest = (other (same_piece id x.id) refl e, rest)

not_full : (s : State) (bucket : ℕ) (rows : List Row) → length rows < 3 * s.geometry.buckets + used_buckets s rows → is_full_with s bucket rows ≡ false
not_full s bucket rows less = by (is_bucket_used s rows bucket) (length rows == 3 * s.geometry.buckets + used_buckets s rows) refl
  where
    by : (b c : Bool) → (length rows == 3 * s.geometry.buckets + used_buckets s rows) ≡ c → (b && c) ≡ false
    by false c e = refl
    by true false e = refl
    by true true e =
        let same : length rows ≡ 3 * s.geometry.buckets + used_buckets s rows = eqb-true (length rows) (3 * s.geometry.buckets + used_buckets s rows) e in
        absurd (omega (arith, less, same))

-- a piece whose bucket has another one, and the first ones beside it, serve
module _ (s : State) (bucket : ℕ) (rows : List Row) (some : 1 ≤ s.geometry.buckets) (many : length rows ≡ 3 * s.geometry.buckets + used_buckets s rows) (apart : AreApart rows) (row : Row)
    (twin : IsTwin s rows row) where
  abbrev beside : List Row
  beside = without row.id rows

  abbrev others_count : ℕ
  others_count = (3 * s.geometry.buckets + 9) / 10 - 1

  abbrev chosen : List Row
  chosen = row ∷ take others_count beside

  chosen_apart : AreApart chosen
  chosen_apart = (
    not_among-part row.id (part_take others_count beside) (not_taken row.id rows),
    apart-part (part-trans (part_take others_count beside) (part-filter _ rows)) apart,
  )

  chosen_among : AreAmong chosen rows
  chosen_among x m = elim m [
    | inl same ↦ subst (λ y. IsAmong y rows) (sym same) twin.among
    | inr there ↦ among_part x (part-trans (part_take others_count beside) (part-filter _ rows)) there
  ]

  chosen_count : length chosen ≡ (3 * s.geometry.buckets + 9) / 10
  chosen_count =
      let first : length (take others_count beside) ≡ min others_count (length beside) = length-take others_count beside in
      let fits : length rows ≤ length beside + 1 = length-kept row.id rows apart in
      omega (arith, first, fits, some, many)

  chosen_leave : length (rows_left chosen rows) < 3 * s.geometry.buckets + used_buckets s (rows_left chosen rows)
  chosen_leave =
      let left : length (rows_left chosen rows) + length chosen ≤ length rows = length-left chosen rows chosen_apart chosen_among in
      let first : used s rows ≤ used s beside = twin_used s rows row twin in
      let rest : used s beside ≤ used s (rows_left (take others_count beside) beside) + length (take others_count beside) = used_left s (take others_count beside) beside in
      let before : used_buckets s rows ≡ used s rows = used_is s rows in
      let behind : used_buckets s (rows_left chosen rows) ≡ used s (rows_left (take others_count beside) beside) = used_is s (rows_left chosen rows) in
      omega (arith, left, first, rest, before, behind, many)

  purges_with : ArePurged s bucket rows chosen
  purges_with = record {
    each = all_contained chosen rows chosen_among;
    apart = apart_pairs chosen chosen_apart;
    tenth = chosen_count;
    slot = not_full s bucket (rows_left chosen rows) chosen_leave;
  }

purges : (s : State) (bucket : ℕ) (rows : List Row) → 1 ≤ s.geometry.buckets → length rows ≡ 3 * s.geometry.buckets + used_buckets s rows → AreApart rows
    → (purged : List Row) × ArePurged s bucket rows purged
purges s bucket rows some many apart =
    let same : used_buckets s rows ≡ used s rows = used_is s rows in
    let twin = twin_of s rows apart (omega (arith, some, many, same)) in
    (chosen s bucket rows some many apart twin.0 twin.1, purges_with s bucket rows some many apart twin.0 twin.1)

full_is : (s : State) (piece : PieceId) (rows : List Row) → (is_bucket_used s rows (bucket_of_piece s piece) && length rows == 3 * s.geometry.buckets + used_buckets s rows) ≡ true
    → length rows ≡ 3 * s.geometry.buckets + used_buckets s rows
full_is s piece rows h =
    eqb-true (length rows) (3 * s.geometry.buckets + used_buckets s rows)
    (and_parts (is_bucket_used s rows (bucket_of_piece s piece)) (length rows == 3 * s.geometry.buckets + used_buckets s rows) h).1

displaces_by : (p : Permit) (s : State) (piece : PieceId) (t : Bool) → displaces p s piece ≡ t → IsSound s → (added : List Rec) × MayDisplace p s piece added
displaces_by p s piece false e h = (_, record { purged = []; full = (λ k. no_truth (sym k ∙ e)); free = (λ k. refl); is = refl })
displaces_by p s piece true e h =
    let rows : List Row = rows_of_segment s (segment_of_piece s piece) in
    let some : 1 ≤ s.geometry.buckets = s.geometry.accepted.buckets_fit.0 in
    let many : length rows ≡ 3 * s.geometry.buckets + used_buckets s rows = full_is s piece rows (and_parts p.packed (is_full_for s piece) e).1 in
    let apart : AreApart rows = apart-part (part-trans (part-filter _ (live_rows s)) (part-filter (is_live s) s.rows)) h.apart in
    let purge = purges s (bucket_of_piece s piece) rows some many apart in
    (_, record { purged = purge.0; full = (λ k. purge.1); free = (λ k. no_truth (sym e ∙ k)); is = refl })

-- there are records of what an entry displaces
pub can_displace : (p : Permit) (s : State) (piece : PieceId) → IsSound s → (added : List Rec) × MayDisplace p s piece added
can_displace p s piece h = displaces_by p s piece (displaces p s piece) refl h
