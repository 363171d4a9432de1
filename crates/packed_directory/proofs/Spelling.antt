-- The segments of an image by their numbers.
use Rattle.std.proofs.Common.{◌≡◌, ℕ, zero, suc, ◌+◌, ◌-◌, ◌*◌, ◌<◌, ◌≤◌, List, [], ◌∷◌, ◌++◌, length, map, take, drop, sym, ap, ◌∙◌, arith}
use Rattle.std.specs.List.{range_with_len}
use Rattle.std.proofs.lemmas.List.{take-take, drop-take, ext_get_or}
use Rattle.std.proofs.lemmas.List.FromFn.{length-map-range_with_len, get_or-map-range_with_len}
use Rattle.tape_base.specs.declared.geometries.Geometry.{Geometry}
use Rattle.dir_segment.specs.Lists.{Lists}
use Rattle.dir_segment.specs.Image.{image_lists}
use Rattle.packed_directory.specs.PackedImage.{segment_length, segment_image, image_segments}
use Rattle.packed_directory.specs.Packed.{segment_at}

range_from : {X : Type 0} (f : ℕ → X) (a n : ℕ) → map f (range_with_len a n) ++ f (a + n) ∷ [] ≡ map f (range_with_len a (suc n))
range_from f a zero = let e : a + 0 ≡ a = omega arith in ap (λ k. f k ∷ []) e
range_from f a (suc n) =
    let e : a + suc n ≡ (a + 1) + n = omega arith in
    ap (λ k. f a ∷ (map f (range_with_len (a + 1) n) ++ f k ∷ [])) e ∙ ap (λ q. f a ∷ q) (range_from f (a + 1) n)

-- one number more
pub range_more : {X : Type 0} (f : ℕ → X) (n : ℕ) → map f (range_with_len 0 n) ++ f n ∷ [] ≡ map f (range_with_len 0 (n + 1))
range_more f n =
    let e : n ≡ 0 + n = omega arith in
    let e' : suc n ≡ n + 1 = omega arith in
    ap (λ k. map f (range_with_len 0 n) ++ f k ∷ []) e ∙ range_from f 0 n ∙ ap (λ k. map f (range_with_len 0 k)) e'

-- so many parts of one length end where the next begins
pub part_ends : (n k len : ℕ) → n < k → n * len + len ≤ k * len
part_ends n k len lt =
    let d : ℕ = k - suc n in
    let sum : k ≡ suc n + d = omega (arith, lt) in
    let wide : k * len ≡ n * len + len + d * len = ap (λ m. m * len) sum ∙ (let q : (suc n + d) * len ≡ n * len + len + d * len = omega arith in q) in
    omega (arith, wide)

part_of : {X : Type 0} (a len : ℕ) (xs ys : List X) (start : ℕ) → a + len ≤ start → take start xs ≡ take start ys → take len (drop a xs) ≡ take len (drop a ys)
part_of a len xs ys start le same =
    sym (drop-take a len xs)
    ∙ ap (drop a) (sym (take-take (a + len) start xs le) ∙ ap (take (a + len)) same ∙ take-take (a + len) start ys le)
    ∙ drop-take a len ys

-- the bytes of a segment are the same where all up to its end are
pub image_same : (g : Geometry) (n start : ℕ) (xs ys : List ℕ) → n * segment_length g + segment_length g ≤ start → take start xs ≡ take start ys → segment_image g n xs ≡ segment_image g n ys
image_same g n start xs ys le same = part_of (n * segment_length g) (segment_length g) xs ys start le same

pub all_spelled : (g : Geometry) (bytes : List ℕ) (segments : List Lists) → length segments ≡ g.segments
    → ((n : ℕ) → n < g.segments → image_lists g.buckets (segment_image g n bytes) ≡ segment_at segments n) → image_segments g bytes ≡ segments
all_spelled g bytes segments count each =
    let f : ℕ → Lists = λ n. image_lists g.buckets (segment_image g n bytes) in
    let none : Lists = record { chains = []; free = [] } in
    let long : length (map f (range_with_len 0 g.segments)) ≡ g.segments = length-map-range_with_len f 0 g.segments in
    ext_get_or none (map f (range_with_len 0 g.segments)) segments (long ∙ sym count) (λ i lt.
    let below : i < g.segments = omega (arith, lt, long) in
    get_or-map-range_with_len f 0 g.segments i i none below (omega arith) ∙ each i below)

pub image_count : (g : Geometry) (bytes : List ℕ) → length (image_segments g bytes) ≡ g.segments
image_count g bytes = length-map-range_with_len (λ n. image_lists g.buckets (segment_image g n bytes)) 0 g.segments
