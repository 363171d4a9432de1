-- A copy whose elements all stand as their documents.
use Rattle.std.specs.Prelude.{◌≡◌, ℕ, ◌+◌, ◌≤◌, ◌<◌, ◌==◌, Bool, false, true, List, [], ◌∷◌, length, map, Some}
use Rattle.std.specs.List.{AllByRecursion, list_any}
use Rattle.device_log.specs.Image.{Image}
use Rattle.stripe_header.specs.declared.area.Area.{Area}
use Rattle.tape_base.specs.Blocks.{blocks_of}
use Rattle.stripe_header.specs.declared.states.CopyState.{CopyState}
use Rattle.doc_header.specs.declared.documents.Doc.{Doc}
use Rattle.doc_header.specs.Document.{IsDocument}
use Rattle.dir_table.specs.declared.rows.StoredRow.{StoredRow}
use Rattle.packed_directory.specs.PackedImage.{IsImageOfSegments}
use Rattle.cache_model.specs.declared.findings.FoundRow.{FoundRow}
use Rattle.reopening.specs.declared.newest.Newest.{Newest}
use Rattle.reopening.specs.Newest.{bound_of, directory_at, newest_of}
use Rattle.reopening.specs.Documents.{document_at, standing_of}
use Rattle.reopening.specs.Tests.{has_put, is_entered, is_inside, lists_puts, standing_at}
use Rattle.reopening.specs.Later.{has_lengths, measure_of, replaces}
use Rattle.reopening.specs.Opens.{opening_with, opens_to, rows_at}
use Rattle.reopening.specs.Alike.{has_place}

-- they stand in rising place, from one place up to another
abbrev pub FoundRowsRise : ℕ → ℕ → List FoundRow → Type 0
FoundRowsRise low high [] = Unit {0}
FoundRowsRise low high (x ∷ rest) = (low ≤ x.place) × (x.place < high) × FoundRowsRise (x.place + 1) high rest

-- none is replaced by one behind it
abbrev pub AreAlone : List FoundRow → Type 0
AreAlone [] = Unit {0}
AreAlone (x ∷ later) = (list_any (λ y. replaces y.id x.id) later ≡ false) × AreAlone later

-- one of them stands at this place
abbrev pub is_found_at : List FoundRow → ℕ → Bool
is_found_at all place = list_any (λ x. x.place == place) all

-- the elements of a copy at or above its bound are for these places, and there these stand as their documents,
-- pass the tests by themselves, and no two are at odds
pub record StandAll (a : Area) (c : Image) (n : Newest) (all : List FoundRow) : Type 0 where
  pub rising : FoundRowsRise (bound_of a.geometry n.told) n.told.cursor all
  pub stand : AllByRecursion (λ x. standing_at a n.told (rows_at a c n) c x.place ≡ Some x) all
  pub no_more : (p : ℕ) → has_place p (rows_at a c n) ≡ true → is_found_at all p ≡ true
  pub alone : AreAlone all
  pub lengths : AllByRecursion (λ x. has_lengths (map measure_of all) x ≡ true) all

-- such a copy opens to all of them
abbrev pub RowsAreKept : Type 0
RowsAreKept = (a : Area) (c : Image) (n : Newest) (all : List FoundRow)
    → newest_of a c ≡ Some n → IsImageOfSegments a.geometry (directory_at a c n.side) → StandAll a c n all
    → opens_to a c ≡ Some (opening_with a.geometry n.told all)

-- what stands at a place as a document, inside, and as its elements name it, passes by itself, and is the row of
-- these bytes, which tells that document
abbrev pub DocumentsPass : Type 0
DocumentsPass = (a : Area) (told : CopyState) (rows : List StoredRow) (c : Image) (place : ℕ) (doc : Doc) (payload : List ℕ)
    → a.geometry.content ≤ place
    → IsDocument (document_at a c place) a.geometry.generation place doc payload
    → is_inside a.geometry told.cursor place (blocks_of (length payload)) ≡ true
    → is_entered a.geometry rows place doc.id ≡ true → has_put told.next_put doc.id ≡ true
    → lists_puts told.next_put doc.id payload ≡ true
    → (standing_at a told rows c place ≡ Some (standing_of place (document_at a c place)))
    × ((standing_of place (document_at a c place)).id ≡ doc.id)
