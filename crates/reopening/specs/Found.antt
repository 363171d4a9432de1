-- What an image opens to stands on it byte for byte, and what stands as the records have it is found so.
use Rattle.std.specs.Prelude.{◌≡◌, ◌+◌, ◌≤◌, IfSome, true, false, List, length, Some, None}
use Rattle.std.specs.List.{AllByRecursion}
use Rattle.device_log.specs.Image.{Image, IsImage, span}
use Rattle.tape_base.specs.Digest.{digest_of}
use Rattle.tape_base.specs.Piece.{is_vector}
use Rattle.tape_base.specs.Place.{lap_end_of}
use Rattle.stripe_header.specs.declared.area.Area.{Area}
use Rattle.stripe_header.specs.Layout.{block_of_place}
use Rattle.doc_header.specs.Document.{Fits, IsDocument}
use Rattle.doc_header.specs.Moving.{BeginsWith}
use Rattle.doc_header.specs.Reading.{doc_of, payload_of}
use Rattle.fragment_table.specs.Table.{made_row}
use Rattle.alternate_vector.specs.Alternates.{Stored}
use Rattle.alternate_vector.specs.Spelling.{IsSpelling}
use Rattle.cache_model.specs.declared.findings.FoundRow.{FoundRow}
use Rattle.cache_model.specs.Contents.{Content, Contents, IsRecordedFrom, contents_of_vectors, doc_of_row}
use Rattle.cache_model.specs.Opening.{Opening}
use Rattle.cache_model.specs.State.{Row, row_of_found}
use Rattle.reopening.specs.Documents.{document_at, standing_of}
use Rattle.reopening.specs.Opens.{opens_to}

-- a found piece is the document at its place, and takes as many blocks
pub record IsFoundAt (a : Area) (c : Image) (f : FoundRow) : Type 0 where
  pub from : a.geometry.content ≤ f.place
  pub row : f ≡ standing_of f.place (document_at a c f.place)
  pub document : IsDocument (document_at a c f.place) a.geometry.generation f.place
      (doc_of (document_at a c f.place)) (payload_of (document_at a c f.place))
  pub spans : document_at a c f.place ≡ span c (block_of_place a f.place) f.blocks

-- what stands there
abbrev pub content_at : Area → Image → FoundRow → Content
content_at a c f =
    record { start = (doc_of (document_at a c f.place)).start; payload = payload_of (document_at a c f.place) }

-- what is told of a found piece, if anything is, stands there; the start is asked of fragments alone
abbrev pub TellsFound : Contents → Area → Image → FoundRow → Type 0
TellsFound contents a c f = IfSome (contents f.id f.alternates) (λ x.
    (x.payload ≡ (content_at a c f).payload) × (is_vector f.id ≡ false → x.start ≡ (content_at a c f).start))

-- so it is of each of them
abbrev pub TellFound : Contents → Area → Image → List FoundRow → Type 0
TellFound contents a c found = AllByRecursion (TellsFound contents a c) found

-- all that an image opens to stands on it, and each vector spells what it lists
abbrev pub FoundStand : Type 0
FoundStand = (a : Area) (c : Image) (o : Opening) → IsImage c → opens_to a c ≡ Some o
    → AllByRecursion (IsFoundAt a c) o.found × TellFound contents_of_vectors a c o.found

-- a fragment is recorded with the length and the digest of its payload, and lists nothing
pub record IsFragmentRow (row : Row) (x : Content) : Type 0 where
  pub payload : row.payload ≡ Some (made_row (length x.payload) (digest_of x.payload).0)
  pub lists : row.alternates ≡ None

-- a vector is recorded with what its payload spells
pub record IsListingRow (row : Row) (x : Content) : Type 0 where
  pub payload : row.payload ≡ None
  pub list : List Stored
  pub lists : row.alternates ≡ Some list
  pub spelled : IsSpelling x.payload list

-- the blocks of a row begin with the document as which the records have its piece, which ends with its lap
pub record StandsRecorded (a : Area) (c : Image) (row : Row) (x : Content) : Type 0 where
  pub fits : Fits (doc_of_row a.geometry row x.start) x.payload
  pub lap : row.place + row.blocks ≤ lap_end_of a.geometry row.place
  pub begins : BeginsWith (span c (block_of_place a row.place) row.blocks) (doc_of_row a.geometry row x.start) x.payload
  pub recorded : IsRecordedFrom a.geometry row x.start x.payload
  pub fragment : is_vector row.id ≡ false → IsFragmentRow row x
  pub vector : is_vector row.id ≡ true → IsListingRow row x

-- that document is read at the place of the row, and what is found there is the row of the records
pub record IsFoundAsRecorded (a : Area) (c : Image) (row : Row) (x : Content) : Type 0 where
  pub spans : document_at a c row.place ≡ span c (block_of_place a row.place) row.blocks
  pub document : IsDocument (document_at a c row.place) a.geometry.generation row.place
      (doc_of_row a.geometry row x.start) x.payload
  pub found : row_of_found (standing_of row.place (document_at a c row.place)) ≡ row

-- what stands as the records have it is found so
abbrev pub RecordedIsFound : Type 0
RecordedIsFound = (a : Area) (c : Image) (row : Row) (x : Content)
    → IsImage c → StandsRecorded a c row x → IsFoundAsRecorded a c row x
