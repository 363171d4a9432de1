-- What a copy opens to by the documents that a device gave for its places. One that is not trusted may give a block
-- that two documents share in two ways, so that no image has them all.
use Rattle.std.specs.Prelude.{◌≡◌, ℕ, ◌-◌, Bool, true, List, Option, IsTrue}
use Rattle.std.specs.List.{filter_map, range_with_len}
use Rattle.hex.specs.Hex.{IsBytes}
use Rattle.device_log.specs.Image.{Image}
use Rattle.tape_base.specs.declared.geometries.Geometry.{Geometry}
use Rattle.stripe_header.specs.declared.area.Area.{Area}
use Rattle.stripe_header.specs.declared.states.CopyState.{CopyState}
use Rattle.stripe_header.specs.Spelling.{may_say}
use Rattle.dir_table.specs.declared.rows.StoredRow.{StoredRow}
use Rattle.cache_model.specs.declared.findings.FoundRow.{FoundRow}
use Rattle.cache_model.specs.Opening.{Opening}
use Rattle.cache_model.specs.Openings.{IsOpening}
use Rattle.reopening.specs.declared.newest.Newest.{Newest}
use Rattle.reopening.specs.Newest.{bound_of}
use Rattle.reopening.specs.Documents.{document_at}
use Rattle.reopening.specs.Tests.{judged}
use Rattle.reopening.specs.Later.{kept_rows}
use Rattle.reopening.specs.Opens.{is_sound, opening_at, opening_with, rows_at, rows_told}

-- what an entry that passes stands for at a place
abbrev pub standing_given : Geometry → CopyState → List StoredRow → (ℕ → List ℕ) → ℕ → Option FoundRow
standing_given g told rows docs place = judged g told rows place (docs place)

-- all that pass from a place on, at so many places, in rising place
abbrev pub all_given : Geometry → CopyState → List StoredRow → (ℕ → List ℕ) → ℕ → ℕ → List FoundRow
all_given g told rows docs low count = filter_map (standing_given g told rows docs) (range_with_len low count)

-- what an opening keeps of them
abbrev pub found_given : Geometry → CopyState → List StoredRow → (ℕ → List ℕ) → List FoundRow
found_given g told rows docs = kept_rows (all_given g told rows docs (bound_of g told) (told.cursor - bound_of g told))

-- what the copy opens to
abbrev pub opening_given : Geometry → CopyState → List StoredRow → (ℕ → List ℕ) → Opening
opening_given g told rows docs = opening_with g told (found_given g told rows docs)

-- it may begin a session, whatever bytes the documents have
abbrev pub OpeningsGivenBegin : Type 0
OpeningsGivenBegin = (packed : Bool) (g : Geometry) (told : CopyState) (directory : List ℕ) (docs : ℕ → List ℕ)
    → IsTrue (may_say g told) → is_sound g directory ≡ true → ((p : ℕ) → IsBytes (docs p))
    → IsOpening packed g (opening_given g told (rows_told g told directory) docs)

-- an image gives the documents that stand at its places
abbrev pub ImagesGive : Type 0
ImagesGive = (a : Area) (c : Image) (n : Newest)
    → opening_at a c n ≡ opening_given a.geometry n.told (rows_at a c n) (document_at a c)
