-- A word twice over, shifted, is the word rotated.
use Rattle.std.proofs.Common.{◌≡◌, ℕ, ◌<◌, ◌+◌, ◌-◌, ◌*◌, ◌/◌, ◌%◌, ◌^◌, List, [], ◌∷◌, length, slice_index, w32, arith, ap, sym, ◌∙◌, mod-lt, pow_pos, inl, inr}
use Rattle.std.proofs.lemmas.Bool.{cases_lt}
use Rattle.std.proofs.lemmas.Nat.Bits.{bit_at_cat_high, bit_at_cat_low, same_from_bits_below}
use Rattle.std.specs.Int.{bit_at, rotate_right}
use Rattle.std.specs.Simd.Lanes.{zip2}
use Rattle.sha_words.proofs.Bits.{bit_of_low, bit_of_right, bit_of_rotated, rotated_lt}
use Rattle.sha_twin.proofs.Lanes.{by_two_lanes, each_of_two}
use Rattle.sha_twin.specs.Lanes.{word_in}

bit_of_twice : (n i : ℕ) → n < 2 ^ 32 → i < 64 → bit_at (n * (2 ^ 32 + 1)) i ≡ bit_at n (i % 32)
bit_of_twice n i fits low =
    let split : n * (2 ^ 32 + 1) ≡ n * 2 ^ 32 + n = omega arith in
    rw split (elim (cases_lt i 32) [
      | inl less ↦
          let place : i % 32 ≡ i = omega arith in
          rw place (bit_at_cat_low n 32 n i less)
      | inr more ↦
          let place : i % 32 ≡ i - 32 = omega arith in
          rw place (bit_at_cat_high n 32 n i fits more)
    ])

twice_turned : (n k : ℕ) → 0 < k → k < 32 → n < 2 ^ 32 → n * (2 ^ 32 + 1) / 2 ^ k % 2 ^ 32 ≡ rotate_right w32 n k
twice_turned n k above below fits =
    same_from_bits_below 32 _ _ (mod-lt (n * (2 ^ 32 + 1) / 2 ^ k) (pow_pos 32)) (rotated_lt n k fits) (λ i low.
    bit_of_low (n * (2 ^ 32 + 1) / 2 ^ k) i low ∙ bit_of_right (n * (2 ^ 32 + 1)) k i ∙ bit_of_twice n (k + i) fits (omega arith)
    ∙ ap (bit_at n) (omega arith) ∙ sym (bit_of_rotated n k i above below fits low))

abbrev Turns : ℕ → List ℕ → Type 0
Turns k x = (j n : ℕ) → j < 2 → n < 2 ^ 32 → slice_index x j ≡ n * (2 ^ 32 + 1)
    → word_in (zip2 (λ a m. a / 2 ^ m) x (k ∷ k ∷ [])) j ≡ rotate_right w32 n k

pub turns : (k : ℕ) → 0 < k → k < 32 → (x : List ℕ) → length x ≡ 2 → Turns k x
turns k above below =
    by_two_lanes (Turns k) (λ a b. λ j n low fits is.
    each_of_two (λ j. slice_index (a ∷ b ∷ []) j ≡ n * (2 ^ 32 + 1) → word_in (zip2 (λ a m. a / 2 ^ m) (a ∷ b ∷ []) (k ∷ k ∷ [])) j ≡ rotate_right w32 n k)
    (λ e. ap (λ (y : ℕ). y / 2 ^ k % 2 ^ 32) e ∙ twice_turned n k above below fits)
    (λ e. ap (λ (y : ℕ). y / 2 ^ k % 2 ^ 32) e ∙ twice_turned n k above below fits) j low is)
