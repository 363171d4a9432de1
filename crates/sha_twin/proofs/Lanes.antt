-- What holds of each lane of a vector of two.
use Rattle.std.proofs.Common.{◌≡◌, ℕ, zero, suc, ◌<◌, ◌*◌, ◌%◌, ◌^◌, List, [], ◌∷◌, length, slice_index, bit_and, bit_or, bit_xor, arith, ◌∙◌}
use Rattle.std.proofs.lemmas.Nat.{and_mask, and_mod, or_shifted, xor_mod}
use Rattle.std.specs.Simd.Lanes.{zip2}
use Rattle.sha_twin.specs.Lanes.{word_in}

pub each_of_two : (P : ℕ → Type 0) → P 0 → P 1 → (j : ℕ) → j < 2 → P j
each_of_two P p0 p1 zero low = p0
each_of_two P p0 p1 (suc zero) low = p1
each_of_two P p0 p1 (suc (suc j)) low = absurd (omega arith)

pub by_two_lanes : (P : List ℕ → Type 0) → ((a b : ℕ) → P (a ∷ b ∷ [])) → (x : List ℕ) → length x ≡ 2 → P x
by_two_lanes P each (a ∷ b ∷ []) two = each a b
by_two_lanes P each [] two = absurd (omega arith)
by_two_lanes P each (a ∷ []) two = absurd (omega arith)
by_two_lanes P each (a ∷ b ∷ c ∷ x) two = absurd (omega arith)

abbrev Xors : List ℕ → List ℕ → Type 0
Xors x y = (j : ℕ) → j < 2 → word_in (zip2 bit_xor x y) j ≡ bit_xor (word_in x j) (word_in y j)

pub xors : (x y : List ℕ) → length x ≡ 2 → length y ≡ 2 → Xors x y
xors x y x_two y_two =
    by_two_lanes (λ x. Xors x y)
    (λ a b. by_two_lanes (Xors (a ∷ b ∷ [])) (λ c d. each_of_two _ (xor_mod a c 32) (xor_mod b d 32)) y y_two) x x_two

abbrev Ands : List ℕ → List ℕ → Type 0
Ands x y = (j : ℕ) → j < 2 → word_in (zip2 bit_and x y) j ≡ bit_and (word_in x j) (word_in y j)

pub ands : (x y : List ℕ) → length x ≡ 2 → length y ≡ 2 → Ands x y
ands x y x_two y_two =
    by_two_lanes (λ x. Ands x y)
    (λ a b. by_two_lanes (Ands (a ∷ b ∷ [])) (λ c d. each_of_two _ (and_mod a c 32) (and_mod b d 32)) y y_two) x x_two

twice : (n : ℕ) → bit_or (n * 2 ^ 32 % 2 ^ 64) (bit_and n 4294967295) ≡ n % 2 ^ 32 * 4294967297
twice n =
    let low : bit_and n 4294967295 ≡ n % 2 ^ 32 = and_mask n 32 in
    let high : n * 2 ^ 32 % 2 ^ 64 ≡ n % 2 ^ 32 * 2 ^ 32 = omega arith in
    rw (low, high) (or_shifted (n % 2 ^ 32) 32 (n % 2 ^ 32) (omega arith) ∙ omega arith)

abbrev Doubles : List ℕ → Type 0
Doubles x = (j : ℕ) → j < 2
    → slice_index (zip2 bit_or (zip2 (λ a n. a * 2 ^ n % 2 ^ 64) x (32 ∷ 32 ∷ [])) (zip2 bit_and x (4294967295 ∷ 4294967295 ∷ []))) j
    ≡ word_in x j * 4294967297

pub doubles : (x : List ℕ) → length x ≡ 2 → Doubles x
doubles = by_two_lanes Doubles (λ a b. each_of_two _ (twice a) (twice b))
