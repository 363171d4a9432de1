-- How a switch counts calls.
use Rattle.std.specs.Prelude.{ℕ, ◌-◌, ◌==◌, nat_le, min, Bool, false, if◌then◌else◌, List, [], ◌∷◌, Option, None, Some}
use Rattle.std.specs.List.{list_any}

-- the number is among these
abbrev pub is_among : List ℕ → ℕ → Bool
is_among numbers n = list_any (λ m. m == n) numbers

-- one call later: one fewer of each, and those that were due are gone
unfoldable pub counted_down : List ℕ → List ℕ
counted_down [] = []
counted_down (n ∷ numbers) = if n == 1 then counted_down numbers else (n - 1) ∷ counted_down numbers

-- a stop holds behind so many calls, where so many still pass
abbrev pub is_past : Option ℕ → ℕ → Bool
is_past None made = false
is_past (Some passing) made = nat_le passing made

-- one call later
abbrev pub one_less : Option ℕ → Option ℕ
one_less None = None
one_less (Some passing) = Some (passing - 1)

-- of two stops the one that comes first
abbrev pub least : ℕ → Option ℕ → ℕ
least calls None = calls
least calls (Some passing) = min calls passing
