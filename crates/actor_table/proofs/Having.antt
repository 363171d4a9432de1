-- What the actor of a number has, after one of them is given something.
use Rattle.std.proofs.Common.{◌≡◌, refl, arith, ℕ, zero, suc, ◌==◌, ◌+◌, ◌-◌, ◌<◌, ◌≤◌, if◌then◌else◌, Option, None, List, [], ◌∷◌, ◌++◌, length, slice_index_or, slice_set}
use Rattle.actor_table.specs.Table.{slot_at, slot_of_actor}

slot_at_past : {T : Type 0} (slots : List (Option T)) (place : ℕ) → length slots ≤ place → slot_at slots place ≡ None
slot_at_past [] place past = refl
slot_at_past (slot ∷ slots) zero past = absurd (omega arith)
slot_at_past (slot ∷ slots) (suc place) past = slot_at_past slots place (omega arith)

-- behind the end nobody has anything
pub slot_of_past : {T : Type 0} (slots : List (Option T)) (number : ℕ) → length slots < number → slot_of_actor slots number ≡ None
slot_of_past slots zero past = refl
slot_of_past slots (suc place) past = slot_at_past slots place (omega arith)

-- what stands at a place
pub slot_of_place : {T : Type 0} (slots : List (Option T)) (place : ℕ) (other : Option T) → place < length slots → slot_at slots place ≡ slice_index_or slots place other
slot_of_place [] place other within = absurd (omega arith)
slot_of_place (slot ∷ slots) zero other within = refl
slot_of_place (slot ∷ slots) (suc place) other within = slot_of_place slots place other (omega arith)

slot_at_set : {T : Type 0} (slots : List (Option T)) (place n : ℕ) (value : Option T) → place < length slots → slot_at (slice_set slots place value) n ≡ (if n == place then value else slot_at slots n)
slot_at_set [] place n value within = absurd (omega arith)
slot_at_set (slot ∷ slots) zero zero value within = refl
slot_at_set (slot ∷ slots) zero (suc n) value within = grind arith
slot_at_set (slot ∷ slots) (suc place) zero value within = grind arith
slot_at_set (slot ∷ slots) (suc place) (suc n) value within = let rest = slot_at_set slots place n value (omega arith) in grind (arith, rest)

-- one is given something, and the others keep what they have
pub slot_of_set : {T : Type 0} (slots : List (Option T)) (number n : ℕ) (value : Option T) → 0 < number → number ≤ length slots → slot_of_actor (slice_set slots (number - 1) value) n ≡ (if n == number then value else slot_of_actor slots n)
slot_of_set slots zero n value some within = absurd (omega arith)
slot_of_set slots (suc place) zero value some within = grind arith
slot_of_set slots (suc place) (suc n) value some within = let rest = slot_at_set slots place n value (omega arith) in grind (arith, rest)

-- what was emptied up to a place is empty up to the next
pub empty_more : {T : Type 0} (slots : List (Option T)) (place n : ℕ) → place < length slots → ((k : ℕ) → k < place → slot_at slots k ≡ None) → n < place + 1 → slot_at (slice_set slots place None) n ≡ None
empty_more slots place n within empty below = let set = slot_at_set slots place n None within in let here = empty n in grind (arith, set, here)

-- nobody has anything where all are empty
pub all_empty : {T : Type 0} (slots : List (Option T)) (n : ℕ) → ((k : ℕ) → k < length slots → slot_at slots k ≡ None) → slot_of_actor slots n ≡ None
all_empty slots zero empty = refl
all_empty slots (suc place) empty = let past = slot_at_past slots place in let within = empty place in grind (arith, past, within)

slot_at_more : {T : Type 0} (slots : List (Option T)) (place : ℕ) → slot_at (slots ++ None ∷ []) place ≡ slot_at slots place
slot_at_more [] zero = refl
slot_at_more [] (suc place) = refl
slot_at_more (slot ∷ slots) zero = refl
slot_at_more (slot ∷ slots) (suc place) = slot_at_more slots place

-- one more that has nothing changes nothing
pub slot_of_more : {T : Type 0} (slots : List (Option T)) (n : ℕ) → slot_of_actor (slots ++ None ∷ []) n ≡ slot_of_actor slots n
slot_of_more slots zero = refl
slot_of_more slots (suc place) = slot_at_more slots place
