-- The lines of an inspection.
use Rattle.std.specs.Prelude.{ℕ, Bool, List, [], ◌++◌, codes, Option, Some, None, if◌then◌else◌}
use Rattle.std.specs.Option.{is_some}
use Rattle.std.specs.Fmt.{decimal}
use Rattle.stripe_header.specs.declared.area.Area.{Area}
use Rattle.stripe_header.specs.declared.area.Side.{Side}
use Rattle.stripe_header.specs.declared.area.Side.TheVariants as sides
use Rattle.stripe_header.specs.declared.states.CopyState.{CopyState}
use Rattle.stripe_header.specs.declared.states.CopyFault.{CopyFault}
use Rattle.stripe_header.specs.declared.states.CopyFault.TheVariants as copy_faults
use Rattle.stripe_header.specs.Layout.{device_blocks}
use Rattle.stripe_header.specs.Spelling.{Numbers, numbers_of}
use Rattle.reopening.specs.declared.newest.Newest.{Newest}
use Rattle.reopening.specs.Newest.{newer}
use Rattle.inspections.specs.declared.copies.CopyRead.{CopyRead}
use Rattle.inspections.specs.declared.copies.CopyRead.TheVariants.{Refused, Told}

-- a line's newline
abbrev pub newline : List ℕ
newline = codes "\n"

-- the numbers of a span by which the directory lies
unfoldable pub sizes_text : ℕ → ℕ → Numbers → List ℕ
sizes_text version blocks n =
    codes "span version " ++ (decimal version ++ (codes " blocks " ++ (decimal blocks ++ (codes " segments " ++ (decimal n.segments
    ++ (codes " buckets " ++ decimal n.buckets))))))

-- and those by which the content does
unfoldable pub extents_text : Numbers → List ℕ
extents_text n =
    codes " content " ++ (decimal n.content ++ (codes " agg " ++ (decimal n.agg ++ (codes " reach " ++ decimal n.reach))))

-- and the others
unfoldable pub limits_text : Numbers → List ℕ
limits_text n =
    codes " fragment " ++ (decimal n.fragment ++ (codes " generation " ++ (decimal n.generation
    ++ (codes " alternates " ++ (decimal n.alternates ++ newline)))))

-- the version of the span, the blocks of a device that has room for no more than the stripe, and the span's numbers
abbrev pub span_line : ℕ → Area → List ℕ
span_line version a =
    sizes_text version (device_blocks a) (numbers_of a.geometry)
    ++ (extents_text (numbers_of a.geometry) ++ limits_text (numbers_of a.geometry))

abbrev pub side_name : Side → List ℕ
side_name sides.A = codes "A"
side_name sides.B = codes "B"

-- a copy's fault by its number
abbrev pub fault_number : CopyFault → ℕ
fault_number copy_faults.GateShut = 1
fault_number copy_faults.Magic = 2
fault_number copy_faults.Version = 3
fault_number (copy_faults.Serials head foot) = 4
fault_number (copy_faults.Digest kept found) = 5
fault_number copy_faults.Geometry = 6

-- the mark of a clean copy
abbrev pub clean_text : Bool → List ℕ
clean_text clean = if clean then codes " clean" else []

-- what an accepted copy tells
unfoldable pub told_line : Side → CopyState → List ℕ
told_line side s =
    codes "copy " ++ (side_name side ++ (codes " serial " ++ (decimal s.serial ++ (codes " cursor " ++ (decimal s.cursor ++ (clean_text s.clean ++ newline))))))

-- why a copy is refused
unfoldable pub fault_line : Side → CopyFault → List ℕ
fault_line side f = codes "copy " ++ (side_name side ++ (codes " fault " ++ (decimal (fault_number f) ++ newline)))

-- the line of a copy
abbrev pub copy_line : Side → CopyRead → List ℕ
copy_line side (Refused fault) = fault_line side fault
copy_line side (Told state entries) = told_line side state

-- the newest copy, and the entries on the chains of its directory
unfoldable pub entries_line : Side → ℕ → List ℕ
entries_line side count = codes "newest " ++ (side_name side ++ (codes " entries " ++ (decimal count ++ newline)))

-- ---- both copies

-- what is told by a copy that is not refused
abbrev pub state_in : CopyRead → Option CopyState
state_in (Refused fault) = None
state_in (Told state entries) = Some state

-- the entries of a copy that is not refused, and whose directory has no fault
abbrev pub count_in : CopyRead → Option ℕ
count_in (Refused fault) = None
count_in (Told state entries) = entries

-- that of a side
abbrev pub on_side : Side → CopyRead → CopyRead → CopyRead
on_side sides.A a b = a
on_side sides.B a b = b

-- of the copy that an opening takes, where it takes one, the entries; where its directory has no fault
abbrev pub newest_count : Option Newest → CopyRead → CopyRead → Option ℕ
newest_count None a b = None
newest_count (Some n) a b = count_in (on_side n.side a b)

-- the last line: none where no copy is accepted, or the directory of the newest one has a fault
abbrev pub last_part : Option Newest → Option ℕ → List ℕ
last_part None count = []
last_part (Some n) None = []
last_part (Some n) (Some count) = entries_line n.side count

-- the copy that an opening takes of these
abbrev pub newest_in : CopyRead → CopyRead → Option Newest
newest_in a b = newer (state_in a) (state_in b)

-- all lines, of a span of this version and of both copies
abbrev pub lines_of : ℕ → Area → CopyRead → CopyRead → List ℕ
lines_of version area a b =
    span_line version area
    ++ (copy_line sides.A a ++ (copy_line sides.B b ++ last_part (newest_in a b) (newest_count (newest_in a b) a b)))

-- whether a stripe with these copies opens
abbrev pub opens_by : CopyRead → CopyRead → Bool
opens_by a b = is_some (newest_count (newest_in a b) a b)

-- the last line where nothing opens
unfoldable pub nothing_line : List ℕ
nothing_line = codes "error no-cache" ++ newline
