-- What a vector is: in each legal chronicle the document that spells its alternates.
use Rattle.std.specs.Prelude.{ℕ, ◌≡◌, ◌≤◌, ◌⊎◌, ◌++◌, true, List, [], length, take, Some}
use Rattle.std.specs.List.{AllByRecursion}
use Rattle.hex.specs.Hex.{IsBytes}
use Rattle.tape_base.specs.declared.keys.Key.{Key}
use Rattle.tape_base.specs.Blocks.{blocks_of}
use Rattle.tape_base.specs.Digest.{Collide}
use Rattle.tape_base.specs.Geometry.{budget_of}
use Rattle.tape_base.specs.Piece.{is_vector}
use Rattle.doc_header.specs.declared.documents.Doc.{Doc}
use Rattle.doc_header.specs.Document.{digest_of_document, header_bytes}
use Rattle.doc_header.specs.Reading.{document_digest, extent_of, payload_of}
use Rattle.alternate_vector.specs.Alternates.{Stored, IsStored}
use Rattle.alternate_vector.specs.Spelling.{IsSpelling, vector_bytes}
use Rattle.cache_model.specs.State.{State, Row, PutRow, alternate_of, alternates_of, put_of}
use Rattle.cache_model.specs.Verdict.{live_vector_of}

-- the document as which a vector stands; this program places it with the start 0, an opening finds it with any
abbrev pub vector_doc : State → Row → ℕ → Doc
vector_doc s row start = record { id = row.id; place = row.place; generation = s.geometry.generation; pin = row.pin; start = start }

-- the bytes of that document up to the end of its payload, where it spells these alternates
abbrev pub vector_document : State → Row → ℕ → List Stored → List ℕ
vector_document s row start list = header_bytes (vector_doc s row start) (vector_bytes list) ++ vector_bytes list

-- the row lists these alternates, and stands as a document that spells them
pub record IsVectorRow (s : State) (row : Row) (list : List Stored) : Type 0 where
  pub start : ℕ
  pub lists : row.alternates ≡ Some list
  pub spelled : IsSpelling (vector_bytes list) list
  pub digest : row.digest ≡ digest_of_document (vector_doc s row start) (vector_bytes list)
  pub blocks : row.blocks ≡ blocks_of (length (vector_bytes list))
  pub small : row.blocks ≤ budget_of s.geometry

-- a row, where it is that of a vector, lists some alternates so
abbrev pub IsListed : State → Row → Type 0
IsListed s row = is_vector row.id ≡ true → (list : List Stored) × IsVectorRow s row list

-- each vector lists its alternates
abbrev pub AreVectors : State → Type 0
AreVectors s = AllByRecursion (IsListed s) s.rows

-- the alternate that each put stands for may be kept: its numbers, its lines, and what it has cut
abbrev pub ArePuts : State → Type 0
ArePuts s = (put : ℕ) (w : PutRow) → put_of s put ≡ Some w → IsStored (alternate_of w)

-- what holds of the alternates before and behind each group of records: no insert goes on
pub record AreTold (s : State) : Type 0 where
  pub vectors : AreVectors s
  pub puts : ArePuts s
  pub displaced : s.displaced ≡ []

-- ---- what may be shown

-- the document as which a vector stands
pub record IsVectorAs (s : State) (row : Row) (document : List ℕ) : Type 0 where
  pub list : List Stored
  pub vector : is_vector row.id ≡ true
  pub lists : IsVectorRow s row list
  pub is : document ≡ vector_document s row lists.start list

-- ---- laws

-- what a key's live vector lists are the key's alternates
abbrev pub LiveVectorIsListed : Type 0
LiveVectorIsListed = (s : State) (key : Key) (row : Row) → AreVectors s → live_vector_of s key ≡ Some row
    → (list : List Stored) × IsVectorRow s row list × (alternates_of s key ≡ list)

-- what bytes of a vector's digest tell as their payload spells its alternates, or the bytes collide
-- with the document as which the vector stands
abbrev pub VectorIsReadBack : Type 0
VectorIsReadBack = (s : State) (row : Row) (list : List Stored) (bytes : List ℕ) (v : IsVectorRow s row list) → IsBytes bytes → row.digest ≡ document_digest bytes
    → (payload_of bytes ≡ vector_bytes list) ⊎ Collide (take (extent_of bytes) bytes) (vector_document s row v.start list)
