-- The actors of a run and what each of them has. An actor's number is its place among the names, from 1.
use Rattle.std.specs.Prelude.{ℕ, zero, suc, ◌+◌, ◌==◌, Bool, nat_eq, if◌then◌else◌, List, [], ◌∷◌, ◌++◌, length, Option, None}
use lib.Pointwise.{pointwise}

-- what contracts see
pub record TableSeen (T : Type 0) : Type 0 where
  -- in the order of their first steps
  pub names : List (List ℕ)
  -- what each actor has, in the same order
  pub slots : List (Option T)

-- the same bytes: names that differ in a letter's case are of two actors
abbrev pub same_name : List ℕ → List ℕ → Bool
same_name a b = pointwise nat_eq a b

-- the place of a name, or the next one, where the first has the number n
abbrev pub number_from : ℕ → List (List ℕ) → List ℕ → ℕ
number_from n [] name = n
number_from n (actor ∷ actors) name = if same_name actor name then n else number_from (n + 1) actors name

-- the number of a name: that of its first place, or the next one
abbrev pub number_of_name : List (List ℕ) → List ℕ → ℕ
number_of_name names name = number_from 1 names name

-- the names with that one among them
abbrev pub with_actor : List (List ℕ) → List ℕ → List (List ℕ)
with_actor names name = if number_of_name names name == length names + 1 then names ++ name ∷ [] else names

-- what stands at a place, from 0
abbrev pub slot_at : {T : Type 0} → List (Option T) → ℕ → Option T
slot_at [] place = None
slot_at (slot ∷ slots) zero = slot
slot_at (slot ∷ slots) (suc place) = slot_at slots place

-- what the actor of a number has: None where there is no such actor, or where it has nothing
abbrev pub slot_of_actor : {T : Type 0} → List (Option T) → ℕ → Option T
slot_of_actor slots zero = None
slot_of_actor slots (suc place) = slot_at slots place
