-- What contracts see of the table of the open readers.
use Rattle.std.specs.Prelude.{◌≡◌, ℕ, ◌+◌, ◌≤◌, if◌then◌else◌, List, [], ◌∷◌, Option}
use Rattle.std.specs.Ordering.{nat_cmp}
use Rattle.std.specs.BTreeMap.{insert_entry}
use Rattle.std.specs.Map.{lookup}
use Rattle.open_directory.specs.declared.kept.Reader.{Reader}
use Rattle.open_directory.specs.Directory.{is_number}

-- the readers by rising numbers, and how many more can be added without taking memory
pub record ReaderTable : Type 0 where
  pub entries : List (ℕ × Reader)
  pub room : ℕ

-- entries in the order of their numbers
abbrev pub by_number : {X : Type 0} → List (ℕ × X) → List (ℕ × X)
by_number [] = []
by_number (e ∷ es) = insert_entry nat_cmp (by_number es) e.0 e.1

-- the numbers of the entries rise, from `low` on
abbrev pub Rises : {X : Type 0} → ℕ → List (ℕ × X) → Type 0
Rises low [] = Unit {0}
Rises low (e ∷ es) = (low ≤ e.0) × Rises (e.0 + 1) es

-- one number has this entry or none, and the others are as they were
abbrev pub SetsEntry : {X : Type 0} → ℕ → Option X → List (ℕ × X) → List (ℕ × X) → Type 0
SetsEntry n entry before after = (q : ℕ) → lookup (is_number q) after ≡ (if is_number n q then entry else lookup (is_number q) before)
