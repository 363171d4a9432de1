-- The words behind sixteen, and words with their constants added.
use Rattle.std.proofs.Common.{◌≡◌, ℕ, ◌<◌, ◌+◌, ◌-◌, List, length, slice_index, slice_set, arith, sym, ◌∙◌, inl, inr}
use Rattle.std.proofs.lemmas.Bool.{cases_lt}
use Rattle.std.proofs.lemmas.List.{get_or-set_other, get_or-set_same}
use Rattle.sha2.proofs.Schedule256.{slice_index-schedule_next}
use Rattle.sha2.specs.Sha256.{add32, round_constants, schedule, small_sigma0, small_sigma1}
use Rattle.sha_words.proofs.Lanes.{lane_is}
use Rattle.sha_words.specs.Words.{AreSixteenFrom, IsFourFrom, IsKeyedBelow}

turned : (a b c d : ℕ) → add32 (add32 (add32 a b) c) d ≡ add32 (add32 (add32 d b) c) a
turned a b c d = omega arith

-- a word, by four of the sixteen before it
pub next_word_is : (b : List ℕ) (t w0 w1 w9 w14 : ℕ) → t + 16 < 64
    → w0 ≡ slice_index (schedule b 48) t → w1 ≡ slice_index (schedule b 48) (t + 1)
    → w9 ≡ slice_index (schedule b 48) (t + 9) → w14 ≡ slice_index (schedule b 48) (t + 14)
    → add32 (add32 (add32 w0 w9) (small_sigma0 w1)) (small_sigma1 w14) ≡ slice_index (schedule b 48) (t + 16)
next_word_is b t w0 w1 w9 w14 below e0 e1 e9 e14 =
    let p0 : t + 16 - 16 ≡ t = omega arith in
    let p1 : t + 16 - 15 ≡ t + 1 = omega arith in
    let p9 : t + 16 - 7 ≡ t + 9 = omega arith in
    let p14 : t + 16 - 2 ≡ t + 14 = omega arith in
    let next = rw (p0, p1, p9, p14) at (slice_index-schedule_next b 48 (t + 16) (omega arith) below) in
    rw (e0, e1, e9, e14) (turned _ _ _ _ ∙ sym next)

-- a sum stays where 0 is added
pub plus_zero : (x a b : ℕ) → x ≡ add32 a b → add32 x 0 ≡ x
plus_zero x a b e = omega arith

pub four_at : (x ws : List ℕ) (t k : ℕ) → t ≡ k → IsFourFrom x ws t → IsFourFrom x ws k
four_at x ws t k e held = λ j low. lane_is x ws t j (k + j) held low (omega arith)

-- sixteen words, four later
pub four_later : (w0 w1 w2 w3 w4 ws : List ℕ) (t k : ℕ) → t + 4 ≡ k → AreSixteenFrom w0 w1 w2 w3 ws t → IsFourFrom w4 ws (t + 16)
    → AreSixteenFrom w1 w2 w3 w4 ws k
four_later w0 w1 w2 w3 w4 ws t k e held next = (
  four_at w1 ws (t + 4) k e held.1,
  four_at w2 ws (t + 8) (k + 4) (omega arith) held.2,
  four_at w3 ws (t + 12) (k + 8) (omega arith) held.3,
  four_at w4 ws (t + 16) (k + 12) (omega arith) next,
)

pub keyed_below : (keyed ws : List ℕ) (n k : ℕ) → n ≡ k → IsKeyedBelow n keyed ws → IsKeyedBelow k keyed ws
keyed_below keyed ws n k e held = λ i low. held i (omega arith)

-- one word more with its constant
pub one_keyed : (keyed ws : List ℕ) (n k y : ℕ) → n + 1 ≡ k → n < length keyed
    → y ≡ add32 (slice_index ws n) (slice_index round_constants n) → IsKeyedBelow n keyed ws → IsKeyedBelow k (slice_set keyed n y) ws
one_keyed keyed ws n k y e fits is held = λ i low. elim (cases_lt i n) [
  | inl less ↦ get_or-set_other keyed n i y 0 (omega arith) ∙ held i less
  | inr more ↦
      let last : n ≡ i = omega arith in
      rw (← last) (get_or-set_same keyed n y 0 fits ∙ is)
]
