-- The vector that a put is to have: its pin and its size.
use Rattle.std.proofs.Common.{◌≡◌, ℕ, zero, suc, ◌+◌, ◌<◌, ◌≤◌, List, [], ◌∷◌, refl, ◌∙◌, ap, arith, Bool, true, false, take, length}
use Rattle.std.specs.Prelude.{Some, max, slice_get, fold, nat_le, if◌then◌else◌}
use Rattle.std.proofs.lemmas.Bool.{and_parts, leb-true}
use Rattle.std.proofs.lemmas.List.{take_all}
use Rattle.alternate_vector.specs.Alternates.{Stored, is_within, longest_within, vector_size}
use Rattle.cache_model.specs.Room.{greatest_pin}

-- one alternate more
next_pin : (pin i : ℕ) (list : List Stored) (a : Stored) → slice_get list i ≡ Some a → let f : ℕ → Stored → ℕ = λ n x. max n x.pin in fold f pin (take (suc i) list) ≡ max (fold f pin (take i list)) a.pin
next_pin pin zero [] a h = cc
next_pin pin (suc i) [] a h = cc
next_pin pin zero (x ∷ list) a h = let is : x ≡ a = cc in ap (λ (y : Stored). max pin y.pin) is
next_pin pin (suc i) (x ∷ list) a h = next_pin (max pin x.pin) i list a h

pub pin_further : (i : ℕ) (list : List Stored) (a : Stored) → slice_get list i ≡ Some a → greatest_pin (take (i + 1) list) ≡ max (greatest_pin (take i list)) a.pin
pin_further i list a h = let next : i + 1 ≡ suc i = omega arith in ap (λ n. greatest_pin (take n list)) next ∙ next_pin 0 i list a h

pub pin_whole : (list : List Stored) → greatest_pin (take (length list) list) ≡ greatest_pin list
pin_whole list = ap greatest_pin (take_all (length list) list (omega arith))

-- the longest end has no more bytes than it may
size_by : (most bytes : ℕ) (a : Stored) (list : List Stored) (b : Bool) → is_within most bytes (a ∷ list) ≡ b
    → (0 < length (longest_within most bytes list) → vector_size (longest_within most bytes list) ≤ bytes)
    → 0 < length (if b then a ∷ list else longest_within most bytes list) → vector_size (if b then a ∷ list else longest_within most bytes list) ≤ bytes
size_by most bytes a list true e rest some = leb-true (vector_size (a ∷ list)) bytes (and_parts (nat_le (length (a ∷ list)) most) (nat_le (vector_size (a ∷ list)) bytes) e).1
size_by most bytes a list false e rest some = rest some

pub size_longest : (most bytes : ℕ) (list : List Stored) → 0 < length (longest_within most bytes list) → vector_size (longest_within most bytes list) ≤ bytes
size_longest most bytes [] some = absurd (omega (arith, some))
size_longest most bytes (a ∷ list) some = size_by most bytes a list (is_within most bytes (a ∷ list)) refl (size_longest most bytes list) some
