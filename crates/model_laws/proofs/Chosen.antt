-- The pieces that are read are those that the walk within the budget keeps.
use Rattle.std.proofs.Common.{◌≡◌, ℕ, ◌-◌, ◌≤◌, List, [], ◌∷◌, refl, ap, Bool, true, false}
use Rattle.std.specs.Prelude.{map}
use Rattle.std.proofs.lemmas.Bool.{le-leb, lt-leb}
use Rattle.evacuator.specs.Choice.{kept_within}
use Rattle.cache_model.specs.State.{State, Row, after_all}
use Rattle.cache_model.specs.Permit.{Permit}
use Rattle.cache_model.specs.Outcomes.{AreOutcomes, Copied, IsOutcome, NoRoom, Outcome, ReadRefused, Spoiled, left_behind, records_of}
use Rattle.model_laws.specs.FlushLaws.{is_kept}

within_one : (left : ℕ) (row : Row) (rest : List Bool) (blocks : List ℕ) → row.blocks ≤ left → rest ≡ kept_within (left - row.blocks) blocks
    → true ∷ rest ≡ kept_within left (row.blocks ∷ blocks)
within_one left row rest blocks h k = rw (le-leb row.blocks left h) (ap (λ bs. true ∷ bs) k)

kept_one : (p : Permit) (s : State) (left : ℕ) (row : Row) (o : Outcome) (rest : List Bool) (blocks : List ℕ) → IsOutcome p s left row o
    → rest ≡ kept_within (left_behind left row o) blocks → is_kept o ∷ rest ≡ kept_within left (row.blocks ∷ blocks)
kept_one p s left row NoRoom rest blocks h k = rw (lt-leb row.blocks left h) (ap (λ bs. false ∷ bs) k)
kept_one p s left row (Copied bytes) rest blocks h k = within_one left row rest blocks h.0 k
kept_one p s left row (Spoiled found) rest blocks h k = within_one left row rest blocks h.0 k
kept_one p s left row (ReadRefused count) rest blocks h k = within_one left row rest blocks h.0 k

pub kept_are_chosen : (p : Permit) (s : State) (left : ℕ) (rows : List Row) (outcomes : List Outcome) → AreOutcomes p s left rows outcomes
    → map is_kept outcomes ≡ kept_within left (map (λ (row : Row). row.blocks) rows)
kept_are_chosen p s left [] [] h = refl
kept_are_chosen p s left [] (o ∷ outcomes) h = absurd h
kept_are_chosen p s left (row ∷ rows) [] h = absurd h
kept_are_chosen p s left (row ∷ rows) (o ∷ outcomes) h =
    kept_one p s left row o (map is_kept outcomes) (map (λ (r : Row). r.blocks) rows) h.0 (kept_are_chosen p (after_all s (records_of row o)) (left_behind left row o) rows outcomes h.1)
