-- How the actors are found by their names.
use Rattle.std.specs.Prelude.{◌≡◌, ℕ, ◌+◌, nat_eq, if◌then◌else◌, List, [], ◌∷◌, map, Option, None, Some}
use Rattle.std.specs.Global.{Vec}
use Rattle.std.specs.Map.{lookup}
use lib.Pointwise.{pointwise}
use Rattle.actor_table.specs.Table.{same_name}

-- the number of a name that is known, where the first has the number n
abbrev pub known_from : ℕ → List (List ℕ) → List ℕ → Option ℕ
known_from n [] name = None
known_from n (actor ∷ actors) name = if same_name actor name then Some n else known_from (n + 1) actors name

-- the entries give each known name its number, and no other name any
abbrev pub IsIndex : List (List ℕ) → List (Vec ℕ × ℕ) → Type 0
IsIndex names entries = (name : List ℕ) → lookup (λ key. pointwise nat_eq name key.items) entries ≡ known_from 1 names name

-- the bytes of each
abbrev pub texts_of_names : List (Vec ℕ) → List (List ℕ)
texts_of_names names = map (λ name. name.items) names
