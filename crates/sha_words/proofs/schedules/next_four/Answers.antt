use Rattle.std.proofs.Common.{◌≡◌, ℕ, ◌<◌, ◌+◌, ◌∙◌, ap, arith, refl, slice_index}
use Rattle.sha2.specs.Sha256.{add32, schedule, small_sigma0, small_sigma1}
use Rattle.sha_words.proofs.Lanes.{each_of_four, lane_is}
use Rattle.sha_words.proofs.NextWords.{four_at, next_word_is, plus_zero}
use Rattle.sha_words.proofs.schedules.next_four.Goals as goal

pub returns : goal.returns
returns c = λ b t below held.
    let ws = schedule b 48 in
    let w0 = c.args.w0 in
    let w3 = c.args.w3 in
    let from_1 = c.one_later-from_1.result in
    let from_9 = c.one_later-from_9.result in
    let sum = c.add-sum.result in
    let first_two = c.add-first_two.result in
    let at_1 = c.one_later-from_1.ensures ws t held.0 held.1 in
    let at_9 = c.one_later-from_9.ensures ws (t + 8) held.2 (four_at w3 ws (t + 12) (t + 8 + 4) (omega arith) held.3) in
    let sum_is : (j : ℕ) → j < 4 → slice_index sum j ≡ add32 (add32 (slice_index w0 j) (slice_index from_9 j)) (small_sigma0 (slice_index from_1 j)) =
    λ j low. rw (c.add-sum.ensures j low, c.add-both.ensures j low, c.small_sigma0-s0.ensures j low) refl in
    let word : (j z : ℕ) → j < 4 → z ≡ slice_index ws (t + j + 14) → add32 (slice_index sum j) (small_sigma1 z) ≡ slice_index ws (t + j + 16) =
    λ j z low e. rw (sum_is j low) (next_word_is b (t + j) _ _ _ z (omega arith) (held.0 j low)
    (lane_is from_1 ws (t + 1) j (t + j + 1) at_1 low (omega arith)) (lane_is from_9 ws (t + 8 + 1) j (t + j + 9) at_9 low (omega arith)) e) in
    let early : (j z : ℕ) → j < 4 → z ≡ slice_index ws (t + j + 14) → slice_index c.last_two_first-before.result j ≡ z → slice_index first_two j ≡ slice_index ws (t + j + 16) =
    λ j z low e is. rw (c.add-first_two.ensures j low, c.small_sigma1-s1.ensures j low, is) (word j z low e) in
    let first = early 0 (slice_index w3 2) (omega arith) (lane_is w3 ws (t + 12) 2 (t + 0 + 14) held.3 (omega arith) (omega arith)) (rw c.last_two_first-before.ensures refl) in
    let second = early 1 (slice_index w3 3) (omega arith) (lane_is w3 ws (t + 12) 3 (t + 1 + 14) held.3 (omega arith) (omega arith)) (rw c.last_two_first-before.ensures refl) in
    let stays : (j : ℕ) → j < 4 → slice_index c.first_two_last-made.result j ≡ 0 → slice_index c.add.result j ≡ slice_index first_two j =
    λ j low is. rw (c.add.ensures j low, c.small_sigma1-s1_of_made.ensures j low, is)
    (plus_zero _ (slice_index sum j) (slice_index c.small_sigma1-s1.result j) (c.add-first_two.ensures j low)) in
    let zero_added : (j : ℕ) → j < 4 → slice_index c.last_two_first-before.result j ≡ 0 → slice_index first_two j ≡ slice_index sum j =
    λ j low is. rw (c.add-first_two.ensures j low, c.small_sigma1-s1.ensures j low, is)
    (plus_zero _ (slice_index c.add-both.result j) (slice_index c.small_sigma0-s0.result j) (c.add-sum.ensures j low)) in
    let late : (j z : ℕ) → j < 4 → z ≡ slice_index ws (t + j + 14) → slice_index c.last_two_first-before.result j ≡ 0
    → slice_index c.first_two_last-made.result j ≡ z → slice_index c.add.result j ≡ slice_index ws (t + j + 16) =
    λ j z low e none is. rw (c.add.ensures j low, c.small_sigma1-s1_of_made.ensures j low, is, zero_added j low none) (word j z low e) in
    let placed : (j : ℕ) → slice_index c.add.result j ≡ slice_index ws (t + j + 16) → slice_index c.add.result j ≡ slice_index ws (t + 16 + j) =
    λ j is. is ∙ ap (λ (k : ℕ). slice_index ws k) (omega arith) in
    each_of_four _
    (placed 0 (stays 0 (omega arith) (rw c.first_two_last-made.ensures refl) ∙ first))
    (placed 1 (stays 1 (omega arith) (rw c.first_two_last-made.ensures refl) ∙ second))
    (placed 2 (late 2 (slice_index first_two 0) (omega arith) (first ∙ ap (λ (k : ℕ). slice_index ws k) (omega arith)) (rw c.last_two_first-before.ensures refl) (rw c.first_two_last-made.ensures refl)))
    (placed 3 (late 3 (slice_index first_two 1) (omega arith) (second ∙ ap (λ (k : ℕ). slice_index ws k) (omega arith)) (rw c.last_two_first-before.ensures refl) (rw c.first_two_last-made.ensures refl)))
