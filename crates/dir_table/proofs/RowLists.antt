-- Lists of rows, filtered twice, counted and left as they are.
use Rattle.std.proofs.Common.{ℕ, ◌≡◌, ◌≤◌, Bool, true, false, cond, List, [], ◌∷◌, filter, length, map, refl, sym, ap, subst, ◌∙◌, ◌&&◌, nat_eq, nat_le, arith}
use Rattle.std.specs.Prelude.{count_by, All, IsPermutation}
use Rattle.std.specs.Bool.{OnTrue}
use Rattle.std.proofs.lemmas.List.Elements.{All-tail, All-from_recursion, recursion_from_All}
use Rattle.std.proofs.lemmas.List.Sorted.{IsPermutation-refl, All-permutation}
use Rattle.tape_base.specs.declared.geometries.Geometry.{Geometry}
use Rattle.tape_base.specs.declared.keys.Key.{Key}
use Rattle.tape_base.specs.Key.{segment_of, bucket_of, tag_of}
use Rattle.dir_table.specs.Rows.{is_at, is_in_bucket, spot_of_key, plain_row, plain_rows, LosesPlain}
use Rattle.dir_table.specs.Candidates.{places_at}
use Rattle.dir_table.specs.Links.{stands_at}
use Rattle.dir_table.specs.Window.{is_in_range}
use Rattle.dir_table.specs.Wrap.{stored_from}
use Rattle.dir_table.proofs.Parts.{all_filter}
use Rattle.std.proofs.lemmas.List.{length-map}
use Rattle.std.proofs.lemmas.List.Sums.{sum_by-cons}
use Rattle.dir_table.specs.declared.rows.DirRow.{DirRow}
use Rattle.dir_table.specs.declared.rows.Spot.{Spot}
use Rattle.dir_table.specs.declared.rows.StoredRow.{StoredRow}
use Rattle.dir_table.specs.declared.window.Window.{Window}

pub filter_both : {X : Type 0} (p q : X → Bool) (xs : List X) → filter q (filter p xs) ≡ filter (λ x. p x && q x) xs
filter_both p q [] = refl
filter_both p q (x ∷ xs) =
    let rest = filter_both p q xs in
    elim (p x) as (λ b. filter q (cond b (x ∷ filter p xs) (filter p xs)) ≡ cond (b && q x) (x ∷ filter (λ x. p x && q x) xs) (filter (λ x. p x && q x) xs)) [
      | true ↦ ap (λ ys. cond (q x) (x ∷ ys) ys) rest
      | false ↦ rest
    ]

-- fewer pass a test that asks more
pub count_fewer : {X : Type 0} (p q : X → Bool) → ((x : X) → p x ≡ true → q x ≡ true) → (xs : List X) → length (filter p xs) ≤ count_by q xs
count_fewer {X} p q less [] = omega arith
count_fewer {X} p q less (x ∷ xs) =
    let rest = count_fewer p q less xs in
    let more = sum_by-cons {X = X} (λ y. cond (q y) 1 0) x xs in
    elim (p x) as (λ b. p x ≡ b → length (cond b (x ∷ filter p xs) (filter p xs)) ≤ count_by q (x ∷ xs)) [
      | true ↦ λ t. let one : cond {A = ℕ} (q x) 1 0 ≡ 1 = ap {B = ℕ} (λ b. cond b 1 0) (less x t) in omega (arith, one, rest, more)
      | false ↦ λ t. omega (arith, rest, more)
    ] refl

and_front : (a b c : Bool) → (a && (b && c)) ≡ true → (a && b) ≡ true
and_front a b c h =
    elim a as (λ a. (a && (b && c)) ≡ true → (a && b) ≡ true) [
      | true ↦ elim b as (λ b. (b && c) ≡ true → b ≡ true) [ true ↦ λ h. refl | false ↦ λ h. h ]
      | false ↦ λ h. h
    ] h

-- the rows of a key are in its bucket
pub count_at_spot : (g : Geometry) (key : Key) (rs : List DirRow) → length (filter (is_at (spot_of_key g key)) rs) ≤ count_by (is_in_bucket g key) rs
count_at_spot g key rs =
    count_fewer (is_at (spot_of_key g key)) (is_in_bucket g key)
    (λ r h. and_front (nat_eq (segment_of g key) r.segment) (nat_eq (bucket_of g key) r.bucket) (nat_eq (tag_of key) r.tag) h) rs

pub permutes_same : {X : Type 0} (xs ys : List X) → xs ≡ ys → IsPermutation xs ys
permutes_same {X} xs ys same = let P : List X → Type 0 = λ zs. IsPermutation xs zs in subst P same (IsPermutation-refl xs)

pub all_from : (P : StoredRow → Type 0) (low : ℕ) (rs : List StoredRow) → All P rs → All P (stored_from low rs)
all_from P low rs all = All-from_recursion P (stored_from low rs) (all_filter P (λ r. nat_le low r.place) rs (recursion_from_All P rs all))

pub all_taken : (P : StoredRow → Type 0) (b : Bool) (row : DirRow) (old new : List StoredRow) → OnTrue b (LosesPlain row old new) → (b ≡ false → new ≡ old) → All P old → All P new
all_taken P b row old new gone none all =
    elim b as (λ b. OnTrue b (LosesPlain row old new) → (b ≡ false → new ≡ old) → All P new) [
      | true ↦ λ gone none. All-tail P gone.it new (All-permutation P old (gone.it ∷ new) gone.left all)
      | false ↦ λ gone none. let Q : List StoredRow → Type 0 = λ rs. All P rs in subst Q (sym (none refl)) all
    ] gone none

-- what is kept beside the places plays no part in a test of places
pub plain_filter : (p : DirRow → Bool) (rs : List StoredRow) → filter p (plain_rows rs) ≡ plain_rows (filter (λ r. p (plain_row r)) rs)
plain_filter p [] = refl
plain_filter p (r ∷ rs) =
    elim (p (plain_row r)) as (λ b. cond b (plain_row r ∷ filter p (plain_rows rs)) (filter p (plain_rows rs)) ≡ plain_rows (cond b (r ∷ filter (λ r. p (plain_row r)) rs) (filter (λ r. p (plain_row r)) rs))) [
      | true ↦ ap (λ (q : List DirRow). plain_row r ∷ q) (plain_filter p rs)
      | false ↦ plain_filter p rs
    ]

pub plain_places : (rs : List StoredRow) → map (λ (r : DirRow). r.place) (plain_rows rs) ≡ map (λ (r : StoredRow). r.place) rs
plain_places [] = refl
plain_places (r ∷ rs) = ap (λ (q : List ℕ). r.place ∷ q) (plain_places rs)

pub places_under : (w : Window) (spot : Spot) (rs : List StoredRow)
    → map (λ (r : StoredRow). r.place) (filter (λ r. stands_at spot r && is_in_range w r.place) rs) ≡ places_at w spot (plain_rows rs)
places_under w spot rs =
    sym (plain_places (filter (λ r. stands_at spot r && is_in_range w r.place) rs))
    ∙ ap (map (λ (r : DirRow). r.place)) (sym (plain_filter (λ r. is_at spot r && is_in_range w r.place) rs))

pub count_stored : (g : Geometry) (key : Key) (rs : List StoredRow) → length (filter (stands_at (spot_of_key g key)) rs) ≤ count_by (is_in_bucket g key) (plain_rows rs)
count_stored g key rs =
    let few = count_at_spot g key (plain_rows rs) in
    let same = ap (λ (q : List DirRow). length q) (plain_filter (is_at (spot_of_key g key)) rs) in
    let long = length-map (filter (stands_at (spot_of_key g key)) rs) plain_row in
    omega (arith, few, same, long)
