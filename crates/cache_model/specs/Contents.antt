-- What is told of the bytes of pieces.
use Rattle.std.specs.Prelude.{ℕ, ◌≡◌, true, false, if◌then◌else◌, IfSome, IsSome, List, Option, None, Some, length, option_map}
use Rattle.std.specs.List.{AllByRecursion}
use Rattle.tape_base.specs.declared.geometries.Geometry.{Geometry}
use Rattle.tape_base.specs.declared.pieces.PieceId.{PieceId}
use Rattle.tape_base.specs.Blocks.{blocks_of}
use Rattle.tape_base.specs.Digest.{digest_of}
use Rattle.tape_base.specs.Piece.{is_vector}
use Rattle.doc_header.specs.declared.documents.Doc.{Doc}
use Rattle.doc_header.specs.Document.{digest_of_document}
use Rattle.fragment_table.specs.Table.{TableRow, made_row}
use Rattle.alternate_vector.specs.Alternates.{Stored}
use Rattle.alternate_vector.specs.Spelling.{IsSpelling, vector_bytes}
use Rattle.cache_model.specs.State.{Row, State, listed}

-- what a piece has: where its payload begins in the body of its put, and the payload
pub record Content : Type 0 where
  pub start : ℕ
  pub payload : List ℕ

-- what is told of each piece, by its name and by the alternates that the records list for it
abbrev pub Contents : Type 0
Contents = PieceId → Option (List Stored) → Option Content

-- a vector that spells its alternates
abbrev pub spelled_content : List Stored → Content
spelled_content list = record { start = 0; payload = vector_bytes list }

-- of vectors alone it is told what they have: each spells its alternates
abbrev pub contents_of_vectors : Contents
contents_of_vectors id alternates = option_map spelled_content alternates

-- that is told of each vector of which anything is told
pub record TellsVectors (contents : Contents) : Type 0 where
  pub spell : (id : PieceId) (list : List Stored) → is_vector id ≡ true → IfSome (contents id (Some list)) (λ c. c ≡ spelled_content list)

-- the document of a piece that stands at the row's place
abbrev pub doc_of_row : Geometry → Row → ℕ → Doc
doc_of_row g row start = record { id = row.id; place = row.place; generation = g.generation; pin = row.pin; start = start }

-- what is recorded of a piece's payload: of a fragment its length and its digest, of a vector nothing
abbrev pub payload_recorded : PieceId → List ℕ → Option TableRow
payload_recorded id bytes = if is_vector id then None else Some (made_row (length bytes) (digest_of bytes).0)

-- a piece is recorded as the document of these bytes, which begin there in the body of its put
pub record IsRecordedFrom (g : Geometry) (row : Row) (start : ℕ) (bytes : List ℕ) : Type 0 where
  pub digest : row.digest ≡ digest_of_document (doc_of_row g row start) bytes
  pub blocks : row.blocks ≡ blocks_of (length bytes)
  pub payload : row.payload ≡ payload_recorded row.id bytes

-- a piece is recorded as a document with this content; a found vector may have any start
pub record IsRecordedWith (g : Geometry) (row : Row) (content : Content) : Type 0 where
  pub start : ℕ
  pub starts : is_vector row.id ≡ false → start ≡ content.start
  pub document : IsRecordedFrom g row start content.payload

-- where a content is told of it; and a vector lists something that can be spelled, a fragment nothing
pub record IsRecordedAs (contents : Contents) (g : Geometry) (row : Row) : Type 0 where
  pub content : IfSome (contents row.id row.alternates) (IsRecordedWith g row)
  pub lists : is_vector row.id ≡ true → IsSome row.alternates
  pub unlisted : is_vector row.id ≡ false → row.alternates ≡ None
  pub spelled : IfSome row.alternates (λ list. IsSpelling (vector_bytes list) list)

-- so is each piece
abbrev pub AreRecordedAs : Contents → State → Type 0
AreRecordedAs contents s = AllByRecursion (IsRecordedAs contents s.geometry) s.rows

-- whatever is told
abbrev pub AnyContents : Contents → Type 0
AnyContents contents = Unit {0}

-- what is told of a piece that is placed is what it is placed with, and what a vector then lists can be spelled
pub record IsToldAs (contents : Contents) (s : State) (id : PieceId) (start : ℕ) (payload : List ℕ) : Type 0 where
  pub content : IfSome (contents id (listed s id)) (λ c. c ≡ record { start = start; payload = payload })
  pub spelled : IfSome (listed s id) (λ list. IsSpelling (vector_bytes list) list)
