-- What holds of each lane of a vector of four.
use Rattle.std.proofs.Common.{◌≡◌, ℕ, zero, suc, ◌<◌, ◌+◌, ◌-◌, ◌*◌, ◌/◌, ◌%◌, ◌^◌, List, [], ◌∷◌, ◌++◌, length, slice_index, bit_or, w32, arith, refl, ap, ◌∙◌}
use Rattle.std.specs.Int.{rotate_right}
use Rattle.std.specs.Simd.Lanes.{zip2}
use Rattle.sha_words.specs.Words.{IsFourFrom}
use lib.Lanes.{pick_l}

pub each_of_four : (P : ℕ → Type 0) → P 0 → P 1 → P 2 → P 3 → (j : ℕ) → j < 4 → P j
each_of_four P p0 p1 p2 p3 zero low = p0
each_of_four P p0 p1 p2 p3 (suc zero) low = p1
each_of_four P p0 p1 p2 p3 (suc (suc zero)) low = p2
each_of_four P p0 p1 p2 p3 (suc (suc (suc zero))) low = p3
each_of_four P p0 p1 p2 p3 (suc (suc (suc (suc j)))) low = absurd (omega arith)

pub by_lanes : (P : List ℕ → Type 0) → ((a b c d : ℕ) → P (a ∷ b ∷ c ∷ d ∷ [])) → (x : List ℕ) → length x ≡ 4 → P x
by_lanes P each (a ∷ b ∷ c ∷ d ∷ []) four = each a b c d
by_lanes P each [] four = absurd (omega arith)
by_lanes P each (a ∷ []) four = absurd (omega arith)
by_lanes P each (a ∷ b ∷ []) four = absurd (omega arith)
by_lanes P each (a ∷ b ∷ c ∷ []) four = absurd (omega arith)
by_lanes P each (a ∷ b ∷ c ∷ d ∷ e ∷ x) four = absurd (omega arith)

abbrev shifted_right : List ℕ → ℕ → List ℕ
shifted_right x k = zip2 (λ a n. a / 2 ^ n) x (k ∷ k ∷ k ∷ k ∷ [])

abbrev shifted_left : List ℕ → ℕ → List ℕ
shifted_left x k = zip2 (λ a n. a * 2 ^ n % 2 ^ 32) x (k ∷ k ∷ k ∷ k ∷ [])

abbrev Shifts : ℕ → List ℕ → Type 0
Shifts k x = (j : ℕ) → j < 4 → slice_index (shifted_right x k) j ≡ slice_index x j / 2 ^ k

pub shifts : (k : ℕ) → (x : List ℕ) → length x ≡ 4 → Shifts k x
shifts k = by_lanes (Shifts k) (λ a b c d. each_of_four _ refl refl refl refl)

abbrev Rotates : ℕ → List ℕ → Type 0
Rotates k x = (j : ℕ) → j < 4
    → slice_index (zip2 bit_or (shifted_right x k) (shifted_left x (32 - k))) j ≡ rotate_right w32 (slice_index x j) k

-- two shifts and an or
pub rotates : (k : ℕ) → 0 < k → k < 32 → (x : List ℕ) → length x ≡ 4 → Rotates k x
rotates k above below =
    let right : k % 32 ≡ k = omega arith in
    let left : (32 - k) % 32 ≡ 32 - k = omega arith in
    by_lanes (Rotates k) (λ a b c d.
    each_of_four _ (rw (right, left) refl) (rw (right, left) refl) (rw (right, left) refl) (rw (right, left) refl))

-- the word in lane j, by its place among the words
pub lane_is : (x ws : List ℕ) (t j k : ℕ) → IsFourFrom x ws t → j < 4 → t + j ≡ k → slice_index x j ≡ slice_index ws k
lane_is x ws t j k held low e = held j low ∙ ap (λ (i : ℕ). slice_index ws i) e

abbrev picked : List ℕ → List ℕ → List ℕ → List ℕ
picked x y places = pick_l 0 (x ++ y) places

abbrev IsOneLater : List ℕ → List ℕ → Type 0
IsOneLater x y = (ws : List ℕ) (t : ℕ) → IsFourFrom x ws t → IsFourFrom y ws (t + 4)
    → IsFourFrom (picked x y (1 ∷ 2 ∷ 3 ∷ 4 ∷ [])) ws (t + 1)

pub picks_one_later : (x : List ℕ) → length x ≡ 4 → (y : List ℕ) → length y ≡ 4 → IsOneLater x y
picks_one_later x x_four y y_four =
    by_lanes (λ x. IsOneLater x y) (λ a b c d. by_lanes (IsOneLater (a ∷ b ∷ c ∷ d ∷ [])) (λ e f g h. λ ws t first next.
    each_of_four _
    (lane_is (a ∷ b ∷ c ∷ d ∷ []) ws t 1 (t + 1 + 0) first (omega arith) (omega arith))
    (lane_is (a ∷ b ∷ c ∷ d ∷ []) ws t 2 (t + 1 + 1) first (omega arith) (omega arith))
    (lane_is (a ∷ b ∷ c ∷ d ∷ []) ws t 3 (t + 1 + 2) first (omega arith) (omega arith))
    (lane_is (e ∷ f ∷ g ∷ h ∷ []) ws (t + 4) 0 (t + 1 + 3) next (omega arith) (omega arith)))
    y y_four) x x_four

pub picks_last_two : (x : List ℕ) → length x ≡ 4
    → picked x (0 ∷ 0 ∷ 0 ∷ 0 ∷ []) (2 ∷ 3 ∷ 4 ∷ 4 ∷ []) ≡ slice_index x 2 ∷ slice_index x 3 ∷ 0 ∷ 0 ∷ []
picks_last_two = by_lanes _ (λ a b c d. refl)

pub picks_first_two : (x : List ℕ) → length x ≡ 4
    → picked x (0 ∷ 0 ∷ 0 ∷ 0 ∷ []) (4 ∷ 4 ∷ 0 ∷ 1 ∷ []) ≡ 0 ∷ 0 ∷ slice_index x 0 ∷ slice_index x 1 ∷ []
picks_first_two = by_lanes _ (λ a b c d. refl)
