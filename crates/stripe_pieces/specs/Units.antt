-- What one call uses up at most, of the memory that is made for calls to come.
use Rattle.std.specs.Prelude.{ℕ, ◌+◌, ◌*◌}
use Rattle.tape_base.specs.declared.geometries.Geometry.{Geometry}
use Rattle.tape_base.specs.Geometry.{budget_of}
use Rattle.dir_table.specs.Displacement.{purge_of}
use Rattle.cache_model.specs.Due.{most_passed}

-- how many records a call adds at most: of a flush two for each piece that the floor passes, and one; and those of a piece, with
-- what its entry displaces
abbrev pub records_of_unit : Geometry → ℕ
records_of_unit g = 2 * most_passed g + 4 + purge_of g

-- how many pieces it enters at most: those that its flush copies, and one
abbrev pub entries_of_unit : Geometry → ℕ
entries_of_unit g = budget_of g + 1
