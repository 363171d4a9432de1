-- The bytes of blocks that stand together.
use Rattle.std.proofs.Common.{◌≡◌, ℕ, zero, suc, ◌+◌, ◌*◌, ◌<◌, ◌≤◌, [], ◌++◌, length, take, drop, sym, ◌∙◌, ap, refl, arith, append-nil, append_assoc, length-append}
use Rattle.std.proofs.Math.Seq.{take-append_seam, drop-append-add}
use Rattle.hex.specs.Hex.{IsBytes}
use Rattle.tape_base.proofs.Bytes.{IsBytes-append, IsBytes-nil}
use Rattle.device_log.specs.Image.{Image, SameBut, span}

pub span_none : (c : Image) (at : ℕ) → span c at 0 ≡ []
unfolding span
span_none c at = refl

pub span_first : (c : Image) (at n : ℕ) → span c at (suc n) ≡ c at ++ span c (at + 1) n
unfolding span
span_first c at n = refl

pub span_one : (c : Image) (at : ℕ) → span c at 1 ≡ c at
span_one c at = span_first c at 0 ∙ (ap (λ l. c at ++ l) (span_none c (at + 1)) ∙ append-nil (c at))

-- two spans of the same blocks
pub span_same : (c d : Image) (at n : ℕ) → ((j : ℕ) → at ≤ j → j < at + n → c j ≡ d j) → span c at n ≡ span d at n
span_same c d at zero same = span_none c at ∙ sym (span_none d at)
span_same c d at (suc n) same =
    span_first c at n
    ∙ (ap (λ l. l ++ span c (at + 1) n) (same at (omega arith) (omega arith))
    ∙ (ap (λ l. d at ++ l) (span_same c d (at + 1) n (λ j low high. same j (omega arith) (omega arith)))
    ∙ sym (span_first d at n)))

pub span_more : (c : Image) (at m n : ℕ) → span c at (m + n) ≡ span c at m ++ span c (at + m) n
span_more c at zero n =
    let none : 0 + n ≡ n = omega arith in
    let here : at + 0 ≡ at = omega arith in
    ap (span c at) none ∙ sym (ap (λ l. l ++ span c (at + 0) n) (span_none c at) ∙ ap (λ k. span c k n) here)
span_more c at (suc m) n =
    let longer : suc m + n ≡ suc (m + n) = omega arith in
    let place : at + 1 + m ≡ at + suc m = omega arith in
    ap (span c at) longer
    ∙ (span_first c at (m + n)
    ∙ (ap (λ l. c at ++ l) (span_more c (at + 1) m n ∙ ap (λ k. span c (at + 1) m ++ span c k n) place)
    ∙ (sym (append_assoc (c at) (span c (at + 1) m) (span c (at + suc m) n))
    ∙ ap (λ l. l ++ span c (at + suc m) n) (sym (span_first c at m)))))

-- one more block behind
pub span_push : (c : Image) (at n : ℕ) → span c at (n + 1) ≡ span c at n ++ c (at + n)
span_push c at n = span_more c at n 1 ∙ ap (λ l. span c at n ++ l) (span_one c (at + n))

pub length-span : (c : Image) (at n : ℕ) → ((j : ℕ) → length (c j) ≡ 512) → length (span c at n) ≡ 512 * n
length-span c at zero whole = ap length (span_none c at)
length-span c at (suc n) whole =
    ap length (span_first c at n) ∙ omega (arith, length-append (c at) (span c (at + 1) n), whole at, length-span c (at + 1) n whole)

-- a write beside a span leaves it
pub span_apart : (c d : Image) (at n from m : ℕ) → SameBut from m c d → ((j : ℕ) → at ≤ j → j < at + n → from ≤ j → j < from + m → ⊥) → span d at n ≡ span c at n
span_apart c d at n from m same apart = span_same d c at n (λ j low high. same j (λ above below. apart j low high above below))

pub span_bytes : (c : Image) (at n : ℕ) → ((j : ℕ) → IsBytes (c j)) → IsBytes (span c at n)
span_bytes c at zero bytes = rw (span_none c at) IsBytes-nil
span_bytes c at (suc n) bytes = rw (span_first c at n) (IsBytes-append (c at) (span c (at + 1) n) (bytes at) (span_bytes c (at + 1) n bytes))

-- a block of a span
pub block_of_span : (c : Image) → ((j : ℕ) → length (c j) ≡ 512) → (at n k : ℕ) → k < n → take 512 (drop (512 * k) (span c at n)) ≡ c (at + k)
block_of_span c whole at zero k low = absurd (omega (arith, low))
block_of_span c whole at (suc n) zero low =
    let front : 512 * 0 ≡ 0 = omega arith in
    let here : at ≡ at + 0 = omega arith in
    ap (λ l. take 512 (drop 0 l)) (span_first c at n)
    ∙ (ap (λ m. take m (c at ++ span c (at + 1) n)) (sym (whole at)) ∙ (take-append_seam (c at) (span c (at + 1) n) ∙ ap c here))
block_of_span c whole at (suc n) (suc k) low =
    let further : 512 * suc k ≡ 512 + 512 * k = omega arith in
    let next : at + 1 + k ≡ at + suc k = omega arith in
    ap (λ m. take 512 (drop m (span c at (suc n)))) further
    ∙ (ap (λ l. take 512 (drop (512 + 512 * k) l)) (span_first c at n)
    ∙ (ap (λ m. take 512 (drop (m + 512 * k) (c at ++ span c (at + 1) n))) (sym (whole at))
    ∙ (ap (take 512) (drop-append-add (c at) (span c (at + 1) n) (512 * k))
    ∙ (block_of_span c whole (at + 1) n k (omega (arith, low)) ∙ ap c next))))
