-- Which candidates a budget of blocks keeps (evacuation: Traffic Server guide, "Cache Architecture").
use Rattle.std.specs.Prelude.{ℕ, ◌≡◌, ◌<◌, ◌≤◌, ◌+◌, ◌-◌, nat_le, Bool, true, false, if◌then◌else◌, List, [], ◌∷◌, length, take, map, slice_get, slice_index, Some}
use Rattle.evacuator.specs.declared.choosing.Candidate.{Candidate}

-- how many blocks each candidate has, in their order
abbrev pub blocks_of_all : List Candidate → List ℕ
blocks_of_all candidates = map (λ c. c.blocks) candidates

-- no candidate has a lower place than the one before it
abbrev pub CandidatesRise : List Candidate → Type 0
CandidatesRise [] = Unit {0}
CandidatesRise (c ∷ []) = Unit {0}
CandidatesRise (c ∷ d ∷ rest) = (c.place ≤ d.place) × CandidatesRise (d ∷ rest)

-- the sum of the blocks that are marked as kept
abbrev pub kept_blocks : List ℕ → List Bool → ℕ
kept_blocks [] kept = 0
kept_blocks (n ∷ blocks) [] = 0
kept_blocks (n ∷ blocks) (k ∷ kept) = (if k then n else 0) + kept_blocks blocks kept

-- each candidate is kept exactly where its blocks and those kept before it are within the budget
pub record IsChoice (budget : ℕ) (blocks : List ℕ) (kept : List Bool) : Type 0 where
  pub sized : length kept ≡ length blocks
  pub each : (i : ℕ) → i < length blocks → slice_get kept i
      ≡ Some (nat_le (slice_index blocks i + kept_blocks (take i blocks) (take i kept)) budget)

-- that choice, in the order of the candidates
abbrev pub kept_within : ℕ → List ℕ → List Bool
kept_within budget [] = []
kept_within budget (n ∷ blocks) =
    if nat_le n budget then true ∷ kept_within (budget - n) blocks else false ∷ kept_within budget blocks
