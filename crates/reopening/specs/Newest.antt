-- Which copy of the directory an opening takes, and from which place on it looks.
use Rattle.std.specs.Prelude.{ℕ, ◌+◌, ◌-◌, ◌≤◌, ◌<◌, nat_lt, List, Option, Some, None, if◌then◌else◌}
use Rattle.device_log.specs.Image.{Image, span}
use Rattle.tape_base.specs.declared.geometries.Geometry.{Geometry}
use Rattle.tape_base.specs.Place.{reach_of}
use Rattle.stripe_header.specs.declared.area.Area.{Area}
use Rattle.stripe_header.specs.declared.area.Side.{Side}
use Rattle.stripe_header.specs.declared.area.Side.TheVariants as sides
use Rattle.stripe_header.specs.declared.states.CopyState.{CopyState}
use Rattle.stripe_header.specs.declared.states.CopyFault.{CopyFault}
use Rattle.stripe_header.specs.Layout.{gate_of, body_of, body_blocks}
use Rattle.stripe_header.specs.Reading.{copy_fault, copy_told}
use Rattle.reopening.specs.declared.newest.Newest.{Newest}

-- the body of a copy: its header, its directory and its footer
abbrev pub body_at : Area → Image → Side → List ℕ
body_at a c side = span c (body_of a side) (body_blocks a)

-- the bytes of its directory
abbrev pub directory_at : Area → Image → Side → List ℕ
directory_at a c side = span c (body_of a side + 1) a.directory

-- the first fault of a copy, its gate included
abbrev pub fault_at : Area → Image → Side → Option CopyFault
fault_at a c side = copy_fault a.geometry (c (gate_of side)) (body_at a c side)

-- what is told where there is no fault
abbrev pub unless_fault : Option CopyFault → CopyState → Option CopyState
unless_fault None told = Some told
unless_fault (Some fault) told = None

-- what an accepted copy tells; none where it is refused
abbrev pub copy_at : Area → Image → Side → Option CopyState
copy_at a c side = unless_fault (fault_at a c side) (copy_told (body_at a c side))

-- that of the two with the greater serial, copy A where they are equal
abbrev pub newer : Option CopyState → Option CopyState → Option Newest
newer None None = None
newer None (Some b) = Some (record { side = sides.B; told = b })
newer (Some a) None = Some (record { side = sides.A; told = a })
newer (Some a) (Some b) =
    if nat_lt a.serial b.serial then Some (record { side = sides.B; told = b })
    else Some (record { side = sides.A; told = a })

-- what the other copy tells does not count beside a copy of this side and serial: it is refused, or of an earlier sync,
-- or is copy B with the same serial
abbrev pub IsBeaten : Option CopyState → Side → ℕ → Type 0
IsBeaten None side serial = Unit {0}
IsBeaten (Some told) sides.A serial = told.serial ≤ serial
IsBeaten (Some told) sides.B serial = told.serial < serial

-- the newest copy that is accepted
abbrev pub newest_of : Area → Image → Option Newest
newest_of a c = newer (copy_at a c sides.A) (copy_at a c sides.B)

-- the place below which nothing is looked for: a clean copy tells it, and else what was written behind the
-- sync, as far as its reach, leaves it
abbrev pub bound_of : Geometry → CopyState → ℕ
bound_of g told = if told.clean then told.floor else reach_of g told.cursor - g.content
