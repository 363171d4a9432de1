-- The bytes of a key are those that it was read from, by induction on the bytes.
use Rattle.std.proofs.Common.{ℕ, zero, suc, ◌≡◌, ◌<◌, ◌+◌, ◌*◌, ◌/◌, ◌%◌, ◌^◌, List, [], ◌∷◌, length, slice_index, refl, sym, ◌∙◌, ap, arith}
use Rattle.std.proofs.Math.Nat.{div-div-eq-div-mul, pow-suc, div-one, mul_assoc}
use Rattle.std.specs.Int.{bytes_low_first, byte_at, byte_worth, sum_through, to_le_bytes, from_le_bytes, w128}
use Rattle.hex.specs.Hex.{IsBytes}
use Rattle.tape_base.specs.Key.{key_bytes, key_of_bytes}

abbrev digits : ℕ → ℕ → List ℕ
digits zero n = []
digits (suc k) n = n % 256 ∷ digits k (n / 256)

abbrev value : List ℕ → ℕ
value [] = 0
value (b ∷ bs) = b + 256 * value bs

byte_at-div : (i n : ℕ) → byte_at i n ≡ n / 256 ^ i % 256
byte_at-div zero n = ap (λ m. m % 256) (sym (div-one n))
byte_at-div (suc i) n = refl

bytes_low_first-digits : (i k n : ℕ) → bytes_low_first i k n ≡ digits k (n / 256 ^ i)
bytes_low_first-digits i zero n = refl
bytes_low_first-digits i (suc k) n =
    let front = byte_at-div i n in
    let shifted : n / 256 ^ suc i ≡ n / 256 ^ i / 256 = ap (λ p. n / p) (pow-suc 256 i) ∙ sym (div-div-eq-div-mul n (256 ^ i) 256) in
    let rest = bytes_low_first-digits (suc i) k n ∙ ap (digits k) shifted in
    λ j. front j ∷ rest j

digits-value : (bs : List ℕ) → ((i : ℕ) → slice_index bs i < 256) → digits (length bs) (value bs) ≡ bs
digits-value [] small = refl
digits-value (b ∷ bs) small =
    let fits : b < 256 = small 0 in
    let front : (b + 256 * value bs) % 256 ≡ b = omega arith in
    let behind : (b + 256 * value bs) / 256 ≡ value bs = omega arith in
    let rest = ap (digits (length bs)) behind ∙ digits-value bs (λ i. small (suc i)) in
    λ j. front j ∷ rest j

sum_through-cons : (k b : ℕ) (bs : List ℕ) → sum_through (λ i. byte_worth i (slice_index (b ∷ bs) i)) (suc k) ≡ b + 256 * sum_through (λ i. byte_worth i (slice_index bs i)) k
sum_through-cons zero b bs = omega arith
sum_through-cons (suc k) b bs =
    let x : ℕ = slice_index bs (suc k) in
    let p : ℕ = 256 ^ suc k in
    let last : x * 256 ^ suc (suc k) ≡ x * p * 256 = ap (λ q. x * q) (pow-suc 256 (suc k)) ∙ sym (mul_assoc x p 256) in
    let before = sum_through-cons k b bs in
    omega (arith, last, before)

sum_through-value : (k : ℕ) (bs : List ℕ) → length bs ≡ suc k → sum_through (λ i. byte_worth i (slice_index bs i)) k ≡ value bs
sum_through-value k [] l = absurd (omega arith)
sum_through-value zero (b ∷ []) l = omega arith
sum_through-value zero (b ∷ c ∷ bs) l = absurd (omega arith)
sum_through-value (suc k) (b ∷ bs) l = sum_through-cons k b bs ∙ ap (λ v. b + 256 * v) (sum_through-value k bs (omega arith))

-- the 16 bytes of the number that 16 bytes make are those bytes
to_le_bytes-from_le_bytes : (bs : List ℕ) → length bs ≡ 16 → ((i : ℕ) → slice_index bs i < 256) → to_le_bytes w128 (from_le_bytes w128 bs) ≡ bs
to_le_bytes-from_le_bytes bs sized small =
    let number = sum_through-value 15 bs sized in
    bytes_low_first-digits 0 16 _ ∙ (ap (digits 16) (div-one _ ∙ number) ∙ (ap (λ k. digits k (value bs)) (sym sized) ∙ digits-value bs small))

pub key_back : (bytes : List ℕ) → length bytes ≡ 16 → IsBytes bytes → key_bytes (key_of_bytes bytes) ≡ bytes
unfolding key_bytes key_of_bytes
key_back bytes long fits = to_le_bytes-from_le_bytes bytes long fits
