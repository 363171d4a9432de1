-- The walk of the choice, one candidate at a time.
use Rattle.std.proofs.Common.{ℕ, zero, suc, ◌≡◌, ◌<◌, ◌+◌, ◌-◌, Bool, true, false, nat_le, List, [], ◌∷◌, ◌++◌, length, take, map, slice_index, refl, sym, ◌∙◌, ap, arith, add-zero, zero-add, slice_index_or, slice_set}
use Rattle.std.specs.Prelude.{Option, Some, slice_get, if◌then◌else◌}
use Rattle.std.proofs.lemmas.Bool.Decides.{nat_tests}
use Rattle.std.proofs.lemmas.List.{take_more, take_more_set, map-append}
use Rattle.evacuator.specs.declared.choosing.Candidate.{Candidate}
use Rattle.evacuator.specs.Choice.{kept_blocks, kept_within, IsChoice}

abbrev some : Bool → Option Bool
some b = Some b

-- what the budget has left behind these blocks
abbrev pub left_within : ℕ → List ℕ → ℕ
left_within budget [] = budget
left_within budget (n ∷ blocks) = if nat_le n budget then left_within (budget - n) blocks else left_within budget blocks

abbrev pub left_after : ℕ → ℕ → ℕ
left_after n left = if nat_le n left then left - n else left

pub kept_within-snoc : (budget n : ℕ) (blocks : List ℕ)
    → kept_within budget (blocks ++ n ∷ []) ≡ kept_within budget blocks ++ nat_le n (left_within budget blocks) ∷ []
kept_within-snoc budget n [] = elim (nat_le n budget) as (λ b. (if b then true ∷ [] else false ∷ []) ≡ b ∷ []) [ true ↦ refl | false ↦ refl ]
kept_within-snoc budget n (m ∷ blocks) =
    elim (nat_le m budget) as (λ b. (if b then true ∷ kept_within (budget - m) (blocks ++ n ∷ []) else false ∷ kept_within budget (blocks ++ n ∷ []))
    ≡ (if b then true ∷ kept_within (budget - m) blocks else false ∷ kept_within budget blocks)
    ++ nat_le n (if b then left_within (budget - m) blocks else left_within budget blocks) ∷ []) [
      | true ↦ ap (λ ks. true ∷ ks) (kept_within-snoc (budget - m) n blocks)
      | false ↦ ap (λ ks. false ∷ ks) (kept_within-snoc budget n blocks)
    ]

pub left_within-snoc : (budget n : ℕ) (blocks : List ℕ)
    → left_within budget (blocks ++ n ∷ []) ≡ left_after n (left_within budget blocks)
left_within-snoc budget n [] = refl
left_within-snoc budget n (m ∷ blocks) =
    elim (nat_le m budget) as (λ b. (if b then left_within (budget - m) (blocks ++ n ∷ []) else left_within budget (blocks ++ n ∷ []))
    ≡ left_after n (if b then left_within (budget - m) blocks else left_within budget blocks)) [
      | true ↦ left_within-snoc (budget - m) n blocks
      | false ↦ left_within-snoc budget n blocks
    ]

kept_within-length : (budget : ℕ) (blocks : List ℕ) → length (kept_within budget blocks) ≡ length blocks
kept_within-length budget [] = refl
kept_within-length budget (m ∷ blocks) =
    elim (nat_le m budget) as (λ b. length (if b then true ∷ kept_within (budget - m) blocks else false ∷ kept_within budget blocks) ≡ suc (length blocks)) [
      | true ↦ ap suc (kept_within-length (budget - m) blocks)
      | false ↦ ap suc (kept_within-length budget blocks)
    ]

-- the test at one candidate, of any list of marks
abbrev IsKeptAt : ℕ → List ℕ → List Bool → ℕ → Type 0
IsKeptAt budget blocks kept i = slice_get kept i ≡ Some (nat_le (slice_index blocks i + kept_blocks (take i blocks) (take i kept)) budget)

test_moved : (x m k budget : ℕ) → nat_le m budget ≡ true → nat_le (x + k) (budget - m) ≡ nat_le (x + (m + k)) budget
test_moved x m k budget fits = grind (arith, nat_tests)

at_first : (b : Bool) (xs ys : List Bool) → slice_get (if b then true ∷ xs else false ∷ ys) 0 ≡ Some b
at_first true xs ys = refl
at_first false xs ys = refl

-- the test at a later candidate, by whether the first is kept
at_later : (budget m i : ℕ) (blocks : List ℕ) (b : Bool) → nat_le m budget ≡ b
    → IsKeptAt (budget - m) blocks (kept_within (budget - m) blocks) i → IsKeptAt budget blocks (kept_within budget blocks) i
    → IsKeptAt budget (m ∷ blocks) (if b then true ∷ kept_within (budget - m) blocks else false ∷ kept_within budget blocks) (suc i)
at_later budget m i blocks true test kept skipped =
    kept ∙ ap some (test_moved (slice_index blocks i) m (kept_blocks (take i blocks) (take i (kept_within (budget - m) blocks))) budget test)
at_later budget m i blocks false test kept skipped =
    skipped ∙ ap (λ n. some (nat_le (slice_index blocks i + n) budget)) (sym (zero-add _))

kept_each : (budget : ℕ) (blocks : List ℕ) (i : ℕ) → i < length blocks → IsKeptAt budget blocks (kept_within budget blocks) i
kept_each budget [] i h = absurd (omega arith)
kept_each budget (m ∷ blocks) zero h =
    at_first (nat_le m budget) _ _ ∙ ap (λ n. some (nat_le n budget)) (sym (add-zero m))
kept_each budget (m ∷ blocks) (suc i) h =
    at_later budget m i blocks (nat_le m budget) refl (kept_each (budget - m) blocks i (omega arith)) (kept_each budget blocks i (omega arith))

pub kept_within-IsChoice : (budget : ℕ) (blocks : List ℕ) → IsChoice budget blocks (kept_within budget blocks)
kept_within-IsChoice budget blocks = record { sized = kept_within-length budget blocks; each = kept_each budget blocks }

abbrev blocks_in : List Candidate → List ℕ
blocks_in candidates = map (λ c. c.blocks) candidates

-- one turn of the walk
pub walk_on : (budget : ℕ) (candidates : List Candidate) (kept : List Bool) (i left next : ℕ) (d : Candidate)
    → i < length candidates → length kept ≡ length candidates
    → take i kept ≡ kept_within budget (blocks_in (take i candidates))
    → left ≡ left_within budget (blocks_in (take i candidates))
    → next ≡ left_after (slice_index_or candidates i d).blocks left
    → (take (i + 1) (slice_set kept i (nat_le (slice_index_or candidates i d).blocks left)) ≡ kept_within budget (blocks_in (take (i + 1) candidates)))
    × (next ≡ left_within budget (blocks_in (take (i + 1) candidates)))
walk_on budget candidates kept i left next d within sized marks stands goes =
    let n : ℕ = (slice_index_or candidates i d).blocks in
    let before : List ℕ = blocks_in (take i candidates) in
    let spelt : blocks_in (take (i + 1) candidates) ≡ before ++ n ∷ [] =
    ap blocks_in (take_more candidates i d within) ∙ map-append (λ (c : Candidate). c.blocks) (take i candidates) _ in
    let marked : take (i + 1) (slice_set kept i (nat_le n left)) ≡ kept_within budget before ++ nat_le n left ∷ [] =
    take_more_set kept i (nat_le n left) (omega arith) ∙ ap (λ ks. ks ++ nat_le n left ∷ []) marks in (
      marked ∙ (ap (λ l. kept_within budget before ++ nat_le n l ∷ []) stands ∙ (sym (kept_within-snoc budget n before) ∙ ap (kept_within budget) (sym spelt))),
      goes ∙ (ap (left_after n) stands ∙ (sym (left_within-snoc budget n before) ∙ ap (left_within budget) (sym spelt))),
    )
