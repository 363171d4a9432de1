-- What the tables beside the records have: what the state behind the records says.
use Rattle.std.specs.Prelude.{ℕ, min}
use Rattle.std.specs.HashMap.{spare}
use Rattle.std.specs.HashSet.{spare as set_spare}
use Rattle.cache_model.specs.State.{State}
use Rattle.cache_chronicle.specs.TapeTable.{HasTape}
use Rattle.cache_chronicle.specs.Tables.{HasCut, HasRows, HasLosses, HasPlaces, HasUnsaved, HasVectors, HasAborts, HasCounts}
use Rattle.cache_chronicle.specs.declared.tables.Tables.{Tables}

-- how many more records can be noted without memory
abbrev pub spare_of : Tables → ℕ
spare_of t =
    min (min (spare t.pieces) (spare t.losses))
    (min (min (spare t.places) (set_spare t.unsaved)) (min (spare t.vectors) (min (spare t.aborts) (spare t.counts))))

-- the tables have what a state says
pub record HasTables (t : Tables) (s : State) : Type 0 where
  pub tape : HasTape t.tape s
  pub cut : HasCut t.last_cut s.last_cut
  pub pieces : HasRows t.pieces s.rows
  pub losses : HasLosses t.losses s.lost
  pub places : HasPlaces t.places s.places
  pub unsaved : HasUnsaved t.unsaved s.unsaved
  pub vectors : HasVectors t.vectors s.vectors
  pub aborts : HasAborts t.aborts s.aborts
  pub counts : HasCounts t.counts s.counts
