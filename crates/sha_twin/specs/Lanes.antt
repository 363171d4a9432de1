-- Two states of SHA-256 side by side: eight vectors of two lanes of 64 bits, with a word of 32 bits in the low half of
-- each lane.
use Rattle.std.specs.Prelude.{ℕ, ◌%◌, ◌^◌, List, [], ◌∷◌, slice_index, slice_index_or}

-- the word in lane j of a vector; what a sum carries past it does not count
abbrev pub word_in : List ℕ → ℕ → ℕ
word_in x j = slice_index x j % 2 ^ 32

-- the word in lane j of vector k
abbrev pub word_of_vector : List (List ℕ) → ℕ → ℕ → ℕ
word_of_vector x k j = word_in (slice_index_or x k []) j

-- the state in lane j
abbrev pub state_of_lane : ℕ → List (List ℕ) → List ℕ
state_of_lane j x =
    word_of_vector x 0 j ∷ word_of_vector x 1 j ∷ word_of_vector x 2 j ∷ word_of_vector x 3 j
    ∷ word_of_vector x 4 j ∷ word_of_vector x 5 j ∷ word_of_vector x 6 j ∷ word_of_vector x 7 j ∷ []
