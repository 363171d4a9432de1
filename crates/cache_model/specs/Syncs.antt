-- Which syncs of a session may be found behind it, and what an opening takes up of them.
use Rattle.std.specs.Prelude.{◌≡◌, ◌≤◌}
use Rattle.tape_base.specs.declared.geometries.Geometry.{Geometry}
use Rattle.cache_model.specs.Opening.{Opening}
use Rattle.cache_model.specs.Permit.{IsAmong}
use Rattle.cache_model.specs.State.{State, Mark, mark_of_opening}

-- an opening may find this sync: the last one that finished, or one that was begun since
abbrev pub IsAllowed : State → Mark → Type 0
IsAllowed s m = IsAmong m s.marks × (s.finished ≤ m.serial)

-- what it takes up is what that sync holds, and its buffer begins at once
abbrev pub IsTakenUp : Mark → Opening → Type 0
IsTakenUp m o = mark_of_opening o ≡ record m { end = o.cursor }

-- an opening behind a session has its geometry, and takes up one of the syncs that the session allows
pub record Follows (s : State) (g : Geometry) (o : Opening) : Type 0 where
  pub same : g ≡ s.geometry
  pub mark : Mark
  pub allowed : IsAllowed s mark
  pub taken : IsTakenUp mark o
