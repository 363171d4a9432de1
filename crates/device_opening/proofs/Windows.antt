-- What a window shows of an image, as it goes on.
use Rattle.std.proofs.Common.{◌≡◌, ℕ, ◌+◌, ◌-◌, ◌*◌, ◌/◌, ◌≤◌, List, [], ◌++◌, length, take, drop, inl, inr, sym, ap, ◌∙◌, arith}
use Rattle.std.proofs.Math.Seq.{take-append_seam, drop-append_seam}
use Rattle.std.proofs.lemmas.Bool.{cases_lt}
use Rattle.std.proofs.lemmas.List.{take-append-drop}
use Rattle.device_log.specs.Image.{Image, span}
use Rattle.device_log.proofs.Spans.{length-span, span_more, span_none}

module _ (c : Image) (whole : (j : ℕ) → length (c j) ≡ 512) where
  in_two : (at m n : ℕ) → m ≤ n → span c at n ≡ span c at m ++ span c (at + m) (n - m)
  in_two at m n le =
      let is : n ≡ m + (n - m) = omega (arith, le) in
      ap (span c at) is ∙ span_more c at m (n - m)

  pub front_of_span : (at m n : ℕ) → m ≤ n → take (512 * m) (span c at n) ≡ span c at m
  front_of_span at m n le =
      ap (take (512 * m)) (in_two at m n le)
      ∙ (ap (λ k. take k (span c at m ++ span c (at + m) (n - m))) (sym (length-span c at m whole))
      ∙ take-append_seam (span c at m) (span c (at + m) (n - m)))

  pub back_of_span : (at m n : ℕ) → m ≤ n → drop (512 * m) (span c at n) ≡ span c (at + m) (n - m)
  back_of_span at m n le =
      ap (drop (512 * m)) (in_two at m n le)
      ∙ (ap (λ k. drop k (span c at m ++ span c (at + m) (n - m))) (sym (length-span c at m whole))
      ∙ drop-append_seam (span c at m) (span c (at + m) (n - m)))

  -- blocks behind those that were read
  pub span_behind : (at m n : ℕ) (old new : List ℕ) → old ≡ span c at m → take (length old) new ≡ old → drop (length old) new ≡ span c (at + m) n
      → new ≡ span c at (m + n)
  span_behind at m n old new was front back =
      sym (take-append-drop (length old) new)
      ∙ ((λ i. (front ∙ was) i ++ back i)
      ∙ sym (span_more c at m n))

  -- what is left of a window from a block on
  pub shows_from : (first n at : ℕ) (bytes : List ℕ) → length bytes ≡ 512 * n → bytes ≡ span c first n → first ≤ at → (below : ℕ) → below ≡ length bytes - 512 * (first + n - at)
      → (left : List ℕ) → left ≡ drop below bytes → left ≡ span c at (length left / 512)
  shows_from first n at bytes long was low below is left same =
      elim (cases_lt (first + n) at) [
        | inl past ↦
            let all : below ≡ 512 * n = omega (arith, is, long, past) in
            let rest : left ≡ span c (first + n) (n - n) = same ∙ ((λ i. drop (all i) (was i)) ∙ back_of_span first n n (omega arith)) in
            let zero : n - n ≡ 0 = omega arith in
            let none : left ≡ [] = rest ∙ (ap (span c (first + n)) zero ∙ span_none c (first + n)) in
            none ∙ (sym (span_none c at) ∙ ap (λ (l : List ℕ). span c at (length l / 512)) (sym none))
        | inr within ↦
            let k : ℕ = at - first in
            let front : below ≡ 512 * k = omega (arith, is, long, within, low) in
            let fits : k ≤ n = omega (arith, within, low) in
            let here : first + k ≡ at = omega (arith, low) in
            let rest : left ≡ span c at (n - k) = same ∙ ((λ i. drop (front i) (was i)) ∙ (back_of_span first k n fits ∙ ap (λ m. span c m (n - k)) here)) in
            let count : length left ≡ 512 * (n - k) = ap length rest ∙ length-span c at (n - k) whole in
            let blocks : n - k ≡ length left / 512 = omega (arith, count) in
            rest ∙ ap (span c at) blocks
      ]

  -- a part of a window
  pub part_of_window : (first n at blocks : ℕ) (bytes : List ℕ) → bytes ≡ span c first n → first ≤ at → at + blocks ≤ first + n
      → take (512 * blocks) (drop (512 * (at - first)) bytes) ≡ span c at blocks
  part_of_window first n at blocks bytes was low high =
      let here : first + (at - first) ≡ at = omega (arith, low) in
      ap (λ l. take (512 * blocks) (drop (512 * (at - first)) l)) was
      ∙ (ap (take (512 * blocks)) (back_of_span first (at - first) n (omega (arith, low, high)) ∙ ap (λ m. span c m (n - (at - first))) here)
      ∙ front_of_span at blocks (n - (at - first)) (omega (arith, low, high)))
