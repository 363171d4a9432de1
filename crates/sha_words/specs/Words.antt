-- Words of a schedule (FIPS 180-4, 6.2.2), four at a time, and with the constants of their rounds.
use Rattle.std.specs.Prelude.{◌≡◌, ℕ, ◌+◌, ◌<◌, List, slice_index}
use Rattle.sha2.specs.Sha256.{add32, round_constants}

-- the lanes of x are the four words from t on
abbrev pub IsFourFrom : List ℕ → List ℕ → ℕ → Type 0
IsFourFrom x ws t = (j : ℕ) → j < 4 → slice_index x j ≡ slice_index ws (t + j)

-- the lanes of the four vectors are the sixteen words from t on
abbrev pub AreSixteenFrom : List ℕ → List ℕ → List ℕ → List ℕ → List ℕ → ℕ → Type 0
AreSixteenFrom w0 w1 w2 w3 ws t =
    IsFourFrom w0 ws t × IsFourFrom w1 ws (t + 4) × IsFourFrom w2 ws (t + 8) × IsFourFrom w3 ws (t + 12)

-- the first n words stand with their constants added (6.2.2, step 3, the last two terms of T 1)
abbrev pub IsKeyedBelow : ℕ → List ℕ → List ℕ → Type 0
IsKeyedBelow n keyed ws =
    (i : ℕ) → i < n → slice_index keyed i ≡ add32 (slice_index ws i) (slice_index round_constants i)
