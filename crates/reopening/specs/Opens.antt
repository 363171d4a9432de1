-- What an image of a device opens to, by its bytes alone.
use Rattle.std.specs.Prelude.{ℕ, ◌-◌, Bool, List, length, Option, Some, None, if◌then◌else◌}
use Rattle.std.specs.List.{list_all, range_with_len}
use Rattle.std.specs.Result.{is_ok}
use Rattle.device_log.specs.Image.{Image}
use Rattle.tape_base.specs.declared.geometries.Geometry.{Geometry}
use Rattle.stripe_header.specs.declared.area.Area.{Area}
use Rattle.stripe_header.specs.declared.states.CopyState.{CopyState}
use Rattle.dir_segment.specs.Image.{image_walk}
use Rattle.dir_table.specs.declared.rows.StoredRow.{StoredRow}
use Rattle.dir_table.specs.Wrap.{stored_from}
use Rattle.packed_directory.specs.PackedImage.{means, segment_image}
use Rattle.cache_model.specs.declared.findings.FoundRow.{FoundRow}
use Rattle.cache_model.specs.Opening.{Opening}
use Rattle.reopening.specs.declared.newest.Newest.{Newest}
use Rattle.reopening.specs.Newest.{bound_of, directory_at, newest_of}
use Rattle.reopening.specs.Tests.{standing_from}
use Rattle.reopening.specs.Later.{kept_rows}

-- all walks over the segments of a directory end without a fault
abbrev pub is_sound : Geometry → List ℕ → Bool
is_sound g bytes =
    list_all (λ n. is_ok (image_walk g.buckets (segment_image g n bytes))) (range_with_len 0 g.segments)

-- the elements of the directory at or above the bound
unfoldable pub rows_told : Geometry → CopyState → List ℕ → List StoredRow
rows_told g told bytes = stored_from (bound_of g told) (means g told.cursor bytes)

-- the rows that an opening keeps of these elements, in rising place: each stands below the cursor
unfoldable pub found_of : Area → CopyState → List StoredRow → Image → List FoundRow
found_of a told rows c =
    kept_rows (standing_from a told rows c (bound_of a.geometry told) (told.cursor - bound_of a.geometry told))

-- an opening of a copy with these rows
abbrev pub opening_with : Geometry → CopyState → List FoundRow → Opening
opening_with g told found =
    record {
      serial = told.serial;
      cursor = told.cursor;
      floor = bound_of g told;
      next_put = told.next_put;
      clean = told.clean;
      found = found;
    }

-- the elements of the copy's directory
abbrev pub rows_at : Area → Image → Newest → List StoredRow
rows_at a c n = rows_told a.geometry n.told (directory_at a c n.side)

-- what a copy opens to
abbrev pub opening_at : Area → Image → Newest → Opening
opening_at a c n = opening_with a.geometry n.told (found_of a n.told (rows_at a c n) c)

-- it is there where a copy is, with a sound directory
abbrev pub opened : Area → Image → Option Newest → Option Opening
opened a c None = None
opened a c (Some n) =
    if is_sound a.geometry (directory_at a c n.side) then Some (opening_at a c n) else None

-- what an image opens to; none where no copy is accepted, or the newest one's directory has a fault
unfoldable pub opens_to : Area → Image → Option Opening
opens_to a c = opened a c (newest_of a c)

-- how many elements at or above the bound are not kept
abbrev pub dropped_at : Area → Image → Newest → ℕ
dropped_at a c n = length (rows_at a c n) - length (found_of a n.told (rows_at a c n) c)
