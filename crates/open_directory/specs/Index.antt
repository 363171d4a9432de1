-- What contracts see of the index of the open readers.
use Rattle.std.specs.Prelude.{◌≡◌, ℕ, ◌/◌, min, List, length}
use Rattle.std.specs.HashMap.{spare}
use Rattle.open_directory.specs.declared.index.Index.{Index}
use Rattle.open_directory.specs.declared.nexts.Nexts.{Nexts}
use Rattle.open_directory.specs.Nexts.{nexts_of}

-- how many more readers can be added without taking memory: each may need 64 forks
abbrev pub index_room : Index → ℕ
index_room index = min (spare index.trees) (length index.sides.items / 64)

-- each put has its tree
abbrev pub KeepsTrees : List (ℕ × Nexts) → List (ℕ × Nexts) → Type 0
KeepsTrees before after = (put : ℕ) → nexts_of put after ≡ nexts_of put before
