use Rattle.std.proofs.Common.{◌≡◌, ℕ, ◌<◌, ◌+◌, ◌∙◌, ap, arith, length, List, refl, slice_index, slice_set}
use Rattle.std.proofs.lemmas.List.{length-set}
use Rattle.sha2.specs.Sha256.{add32, round_constants}
use Rattle.sha_words.proofs.Lanes.{lane_is}
use Rattle.sha_words.proofs.NextWords.{one_keyed}
use Rattle.sha_words.proofs.schedules.put_keyed.Goals as goal

pub returns : goal.returns
returns c = λ ws four held.
    let n = c.args.at in
    let k = c.args.keyed.now in
    let x = c.args.words in
    let sum : (j y : ℕ) → j < 4 → y ≡ add32 (slice_index x j) (slice_index round_constants (n + j))
    → y ≡ add32 (slice_index ws (n + j)) (slice_index round_constants (n + j)) =
    λ j y low e. e ∙ ap (λ (w : ℕ). add32 w (slice_index round_constants (n + j))) (four j low) in
    let y0 = slice_index c.add-sums.result 0 in
    let y1 = slice_index c.add-sums.result 1 in
    let y2 = slice_index c.add-sums.result 2 in
    let y3 = slice_index c.add-sums.result 3 in
    let k1 : List ℕ = slice_set k n y0 in
    let k2 : List ℕ = slice_set k1 (n + 1) y1 in
    let k3 : List ℕ = slice_set k2 (n + 2) y2 in
    let l1 : length k1 ≡ length k = length-set k n y0 in
    let l2 : length k2 ≡ length k1 = length-set k1 (n + 1) y1 in
    let l3 : length k3 ≡ length k2 = length-set k2 (n + 2) y2 in
    let h1 = one_keyed k ws n (n + 1) y0 refl (omega (arith, c.told-keyed))
    (c.add-sums.ensures 0 (omega arith) ∙ ap (λ (w : ℕ). add32 w (slice_index round_constants n)) (lane_is x ws n 0 n four (omega arith) (omega arith))) held in
    let h2 = one_keyed k1 ws (n + 1) (n + 2) y1 (omega arith) (omega (arith, c.told-keyed))
    (sum 1 y1 (omega arith) (c.add-sums.ensures 1 (omega arith))) h1 in
    let h3 = one_keyed k2 ws (n + 2) (n + 3) y2 (omega arith) (omega (arith, c.told-keyed))
    (sum 2 y2 (omega arith) (c.add-sums.ensures 2 (omega arith))) h2 in
    one_keyed k3 ws (n + 3) (n + 4) y3 (omega arith) (omega (arith, c.told-keyed))
    (sum 3 y3 (omega arith) (c.add-sums.ensures 3 (omega arith))) h3
