-- A call of a bay as numbers, a name and a device: what stands behind a borrow has to have a code.
use Rattle.std.specs.Prelude.{ℕ, List, Option}

-- the numbers of a call, its name, and the device that came back
abbrev pub BayEntry : Type 0 → Type 0
BayEntry D = List ℕ × (List ℕ × Option D)

abbrev pub entry_of : {D : Type 0} → List ℕ → List ℕ → Option D → BayEntry D
entry_of numbers name device = (numbers, (name, device))
