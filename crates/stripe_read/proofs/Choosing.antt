-- The place of an alternate that is chosen lies in the list.
use Rattle.std.proofs.Common.{◌≡◌, ℕ, ◌+◌, ◌<◌, List, [], ◌∷◌, refl, arith, Bool, true, false, length}
use Rattle.std.specs.Prelude.{Option, Some, None}
use Rattle.alternate_vector.specs.Field.{Field}
use Rattle.alternate_vector.specs.Alternates.{Stored, chosen, is_match, or_first}

within_one : (request : List Field) (a : Stored) (list : List Stored) (o : Option ℕ) (b : Bool) (i : ℕ) → ((n : ℕ) → o ≡ Some n → n < length list) → or_first o b ≡ Some i → i < length (a ∷ list)
within_one request a list (Some n) b i rest h = let is : n + 1 ≡ i = cc in let below : n < length list = rest n refl in omega (arith, is, below)
within_one request a list None true i rest h = let is : 0 ≡ i = cc in omega (arith, is)
within_one request a list None false i rest h = cc

pub chosen_within : (request : List Field) (list : List Stored) (i : ℕ) → chosen request list ≡ Some i → i < length list
chosen_within request [] i h = cc
chosen_within request (a ∷ list) i h = within_one request a list (chosen request list) (is_match request a) i (λ n e. chosen_within request list n e) h
