-- What is no side of a pair of documents.
use Rattle.std.proofs.Common.{◌≡◌, ℕ, List, ◌∷◌, arith, take, subst}
use Rattle.doc_header.specs.Reading.{extent_of}
use Rattle.tape_base.specs.Digest.{Collide}
use Rattle.cache_model.specs.Pair.{Documents, IsPairOf}
use Rattle.cache_model.specs.Permit.{Permit}
use Rattle.cache_model.specs.State.{Row, State}

-- numbers above 255 are no side of a pair, whatever their digest is
no_numbers : (IsPlaced : Documents) (p : Permit) (s : State) (row : Row) (pair : IsPairOf IsPlaced p s row) (rest : List ℕ)
    → take (extent_of pair.bytes) pair.bytes ≡ 83 ∷ 339 ∷ rest → ⊥
no_numbers IsPlaced p s row pair rest given =
    let c : Collide (83 ∷ 339 ∷ rest) pair.document = subst (λ g. Collide g pair.document) given pair.collide in
    let small = c.bytes 1 in
    absurd (omega (arith, small))
