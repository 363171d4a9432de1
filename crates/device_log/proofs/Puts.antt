-- What a write puts, and that images stay images.
use Rattle.std.proofs.Common.{◌≡◌, ℕ, zero, suc, ◌+◌, ◌-◌, ◌*◌, ◌/◌, ◌%◌, ◌<◌, ◌≤◌, ◌==◌, ◌≢◌, Bool, true, false, if◌then◌else◌, List, ◌++◌, length, take, drop, replicate, slice_index, sym, ◌∙◌, ap, subst, refl, arith, inl, inr, length-take, length-drop, take-add}
use Rattle.std.proofs.lemmas.Bool.{cases_lt}
use Rattle.std.proofs.lemmas.Nat.{xor_lt}
use Rattle.std.proofs.lemmas.List.{take_all, length-replicate, length-set, get_or-set_same, get_or-set_other, get_or_past}
use Rattle.std.specs.Prelude.{bit_xor}
use Rattle.hex.specs.Hex.{IsBytes}
use Rattle.tape_base.proofs.Bytes.{IsBytes-take, IsBytes-drop, zeros_are_bytes, bytes_by_test}
use Rattle.device_log.specs.Image.{Image, IsImage, SameBut, span, zeros, blank, junk, in_range, put, within, turned, flipped}
use Rattle.device_log.proofs.Spans.{span_none, span_one, span_more, length-span, block_of_span}

-- a block outside of a range, and one inside
pub outside_range : (at n j : ℕ) → (at ≤ j → j < at + n → ⊥) → in_range at n j ≡ false
outside_range at n j outside = grind (arith, outside)

pub inside_range : (at n j : ℕ) → at ≤ j → j < at + n → in_range at n j ≡ true
inside_range at n j low high = grind (arith, low, high)

pub range_low : (at n j : ℕ) → in_range at n j ≡ true → at ≤ j
range_low at n j is = grind (arith, is)

pub range_high : (at n j : ℕ) → in_range at n j ≡ true → j < at + n
range_high at n j is = grind (arith, is)

pub put_others : (at : ℕ) (bytes : List ℕ) (c : Image) → SameBut at (length bytes / 512) c (put at bytes c)
put_others at bytes c j outside =
    ap (λ b. if b then take 512 (drop (512 * (j - at)) bytes) else c j) (outside_range at (length bytes / 512) j outside)

pub within_others : (at n : ℕ) (inside c : Image) → SameBut at n c (within at n inside c)
within_others at n inside c j outside = ap (λ b. if b then inside j else c j) (outside_range at n j outside)

pub put_here : (at k : ℕ) (bytes : List ℕ) (c : Image) → k < length bytes / 512 → put at bytes c (at + k) ≡ take 512 (drop (512 * k) bytes)
put_here at k bytes c low =
    let same : at + k - at ≡ k = omega arith in
    ap (λ b. if b then take 512 (drop (512 * (at + k - at)) bytes) else c (at + k)) (inside_range at (length bytes / 512) (at + k) (omega arith) (omega arith))
    ∙ ap (λ i. take 512 (drop (512 * i) bytes)) same

-- so many blocks of what was put are what was put
put_front : (at : ℕ) (bytes : List ℕ) (c : Image) (k : ℕ) → k ≤ length bytes / 512 → span (put at bytes c) at k ≡ take (512 * k) bytes
put_front at bytes c zero le = span_none (put at bytes c) at
put_front at bytes c (suc k) le =
    let more : suc k ≡ k + 1 = omega arith in
    let bytes_more : 512 * k + 512 ≡ 512 * suc k = omega arith in
    ap (span (put at bytes c) at) more
    ∙ (span_more (put at bytes c) at k 1
    ∙ (ap (λ l. l ++ span (put at bytes c) (at + k) 1) (put_front at bytes c k (omega arith))
    ∙ (ap (λ l. take (512 * k) bytes ++ l) (span_one (put at bytes c) (at + k) ∙ put_here at k bytes c (omega arith))
    ∙ (sym (take-add (512 * k) 512 bytes) ∙ ap (λ n. take n bytes) bytes_more))))

pub put_span : (at : ℕ) (bytes : List ℕ) (c : Image) → length bytes % 512 ≡ 0 → span (put at bytes c) at (length bytes / 512) ≡ bytes
put_span at bytes c whole =
    put_front at bytes c (length bytes / 512) (omega arith)
    ∙ take_all (512 * (length bytes / 512)) bytes (omega (arith, whole))

-- the first blocks of one image put over another
pub span_put_low : (new old : Image) → ((j : ℕ) → length (new j) ≡ 512) → (n j : ℕ) → j < n → put 0 (span new 0 n) old j ≡ new j
span_put_low new old whole n j low =
    let blocks : length (span new 0 n) / 512 ≡ n = omega (arith, length-span new 0 n whole) in
    let zero_and : 0 + j ≡ j = omega arith in
    ap (put 0 (span new 0 n) old) (sym zero_and)
    ∙ (put_here 0 j (span new 0 n) old (omega (arith, low, blocks)) ∙ (block_of_span new whole 0 n j low ∙ ap new zero_and))

pub span_put_high : (new old : Image) → ((j : ℕ) → length (new j) ≡ 512) → (n j : ℕ) → n ≤ j → put 0 (span new 0 n) old j ≡ old j
span_put_high new old whole n j high =
    let blocks : length (span new 0 n) / 512 ≡ n = omega (arith, length-span new 0 n whole) in
    put_others 0 (span new 0 n) old j (λ low below. absurd (omega (arith, high, below, blocks)))

-- Images.

pub either_holds : (P : List ℕ → Type 0) (b : Bool) (x y : List ℕ) → (b ≡ true → P x) → P y → P (if b then x else y)
either_holds P true x y one other = one refl
either_holds P false x y one other = other

pub zeros_whole : length zeros ≡ 512
unfolding zeros
zeros_whole = length-replicate {A = ℕ} 512 0

pub zeros_bytes : IsBytes zeros
unfolding zeros
zeros_bytes = zeros_are_bytes 512

pub blank_is_image : IsImage blank
blank_is_image = record { whole = λ j. zeros_whole; bytes = λ j. zeros_bytes }

pub junk_whole : length junk ≡ 512
unfolding junk
junk_whole = length-replicate {A = ℕ} 512 165

pub junk_bytes : IsBytes junk
unfolding junk
junk_bytes = bytes_by_test (replicate 512 165) refl

pub put_is_image : (at : ℕ) (bytes : List ℕ) (c : Image) → IsBytes bytes → IsImage c → IsImage (put at bytes c)
put_is_image at bytes c fits is = record {
  whole = λ j. either_holds (λ l. length l ≡ 512) (in_range at (length bytes / 512) j) (take 512 (drop (512 * (j - at)) bytes)) (c j)
      (λ inside. omega (
        arith,
        length-take 512 (drop (512 * (j - at)) bytes),
        length-drop (512 * (j - at)) bytes,
        range_low at (length bytes / 512) j inside,
        range_high at (length bytes / 512) j inside,
      ))
      (is.whole j);
  bytes = λ j. either_holds IsBytes (in_range at (length bytes / 512) j) (take 512 (drop (512 * (j - at)) bytes)) (c j)
      (λ inside. IsBytes-take 512 (drop (512 * (j - at)) bytes) (IsBytes-drop (512 * (j - at)) bytes fits))
      (is.bytes j);
}

pub within_is_image : (at n : ℕ) (inside c : Image) → IsImage inside → IsImage c → IsImage (within at n inside c)
within_is_image at n inside c one other = record {
  whole = λ j. either_holds (λ l. length l ≡ 512) (in_range at n j) (inside j) (c j) (λ here. one.whole j) (other.whole j);
  bytes = λ j. either_holds IsBytes (in_range at n j) (inside j) (c j) (λ here. one.bytes j) (other.bytes j);
}

turned_bytes : (byte : ℕ) (block : List ℕ) → IsBytes block → IsBytes (turned byte block)
turned_bytes byte block fits i =
    elim (cases_lt byte (length block)) [
      | inl within_it ↦ elim (i == byte) as (λ b. (i == byte) ≡ b → slice_index (turned byte block) i < 256) [
        | true ↦ λ is. let same : i ≡ byte = grind (arith, is) in
            subst (λ k. slice_index (turned byte block) k < 256) (sym same)
            (subst (λ x. x < 256) (sym (get_or-set_same block byte (bit_xor (slice_index block byte) 1) 0 within_it)) (xor_lt 8 (slice_index block byte) 1 (fits byte) (omega arith)))
        | false ↦ λ is. let other : i ≢ byte = grind (arith, is) in
            subst (λ x. x < 256) (sym (get_or-set_other block byte i (bit_xor (slice_index block byte) 1) 0 other)) (fits i)
      ] refl
      | inr past_it ↦ elim (i == byte) as (λ b. (i == byte) ≡ b → slice_index (turned byte block) i < 256) [
        | true ↦ λ is. let same : i ≡ byte = grind (arith, is) in
            subst (λ x. x < 256) (sym (get_or_past (turned byte block) i 0 (omega (arith, same, past_it, length-set block byte (bit_xor (slice_index block byte) 1))))) (omega arith)
        | false ↦ λ is. let other : i ≢ byte = grind (arith, is) in
            subst (λ x. x < 256) (sym (get_or-set_other block byte i (bit_xor (slice_index block byte) 1) 0 other)) (fits i)
      ] refl
    ]

pub flipped_is_image : (at byte : ℕ) (c : Image) → IsImage c → IsImage (flipped at byte c)
flipped_is_image at byte c is = record {
  whole = λ j. either_holds (λ l. length l ≡ 512) (j == at) (turned byte (c j)) (c j) (λ here. length-set (c j) byte (bit_xor (slice_index (c j) byte) 1) ∙ is.whole j) (is.whole j);
  bytes = λ j. either_holds IsBytes (j == at) (turned byte (c j)) (c j) (λ here. turned_bytes byte (c j) (is.bytes j)) (is.bytes j);
}
