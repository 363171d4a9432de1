-- What the pieces, the puts, the vectors and the readers of a session have to do with the bytes that
-- its writers took.
use Rattle.std.specs.Prelude.{ℕ, zero, suc, ◌≡◌, ◌-◌, ◌*◌, ◌<◌, ◌≤◌, ◌⊎◌, ◌++◌, ◌+◌, false, true, List, [], ◌∷◌, length, take, drop, Option, Some, None}
use Rattle.std.specs.List.{AllByRecursion}
use Rattle.hex.specs.Hex.{IsBytes}
use Rattle.tape_base.specs.declared.keys.Key.{Key}
use Rattle.tape_base.specs.Digest.{digest_of}
use Rattle.doc_header.specs.declared.documents.Doc.{Doc}
use Rattle.doc_header.specs.Document.{digest_of_document, header_bytes}
use Rattle.fragment_table.specs.Table.{TableRow, made_row, total_length}
use Rattle.alternate_vector.specs.Alternates.{Stored}
use Rattle.cache_model.specs.State.{State, Row, PutRow, ReaderRow, Open, Closed, alternate_of, put_of, vector_piece}
use Rattle.cache_model.specs.Pair.{Documents}
use Rattle.cache_model.specs.Vectors.{IsVectorAs}
use Rattle.cache_model.specs.Legal.{is_writing}
use Rattle.script_run.specs.Run.{Run, Stream, put_written_by}

-- the fragment of this index, from 1, of a body that is cut into fragments of so many bytes
abbrev pub piece_of : ℕ → List ℕ → ℕ → List ℕ
piece_of fragment body index = take fragment (drop ((index - 1) * fragment) body)

-- its row in a table: how many bytes it has, and their digest
abbrev pub row_of_part : ℕ → List ℕ → ℕ → TableRow
row_of_part fragment body index = made_row (length (piece_of fragment body index)) (digest_of (piece_of fragment body index)).0

-- the rows of the first fragments of a body, so many from this index on
abbrev pub rows_of_parts : ℕ → List ℕ → ℕ → ℕ → List TableRow
rows_of_parts fragment body index zero = []
rows_of_parts fragment body index (suc count) = row_of_part fragment body index ∷ rows_of_parts fragment body (index + 1) count

-- what a put has cut are the first fragments of what its writer took, each of them some bytes
pub record AreCuts (fragment : ℕ) (body : List ℕ) (cuts : List TableRow) : Type 0 where
  pub rows : cuts ≡ rows_of_parts fragment body 1 (length cuts)
  pub within : total_length cuts ≤ length body
  pub of_bytes : (index : ℕ) → 0 < index → index ≤ length cuts → IsBytes (piece_of fragment body index)
  pub none_empty : (index : ℕ) → 0 < index → index ≤ length cuts → 0 < length (piece_of fragment body index)

-- a put has begun, where it is complete it has cut all of that, and where it may be fed it has cut
-- whole fragments alone
pub record IsOwnPut (s : State) (streams : ℕ → Stream) (w : PutRow) : Type 0 where
  pub begun : w.put < s.next_put
  pub cuts : AreCuts s.geometry.fragment (streams w.put).bytes w.cuts
  pub whole : w.writing ≡ Closed → total_length w.cuts ≡ length (streams w.put).bytes
  pub full : w.writing ≡ Open → (streams w.put).sealed ≡ false → total_length w.cuts ≡ length w.cuts * s.geometry.fragment

-- each put by its number
abbrev pub AreOwnPuts : State → (ℕ → Stream) → Type 0
AreOwnPuts s streams = (put : ℕ) (w : PutRow) → put_of s put ≡ Some w → IsOwnPut s streams w

-- the document as which a fragment was placed
abbrev pub fragment_doc : State → Row → Doc
fragment_doc s row = record { id = row.id; place = row.place; generation = s.geometry.generation; pin = row.pin; start = (row.id.index - 1) * s.geometry.fragment }

-- its put has cut a fragment, the payload of which is, as the records tell it, that part of what the writer took
pub record IsCutFragment (s : State) (streams : ℕ → Stream) (row : Row) : Type 0 where
  pub w : PutRow
  pub found : put_of s row.id.put ≡ Some w
  pub cut : row.id.index ≤ length w.cuts
  pub payload : row.payload ≡ Some (row_of_part s.geometry.fragment (streams row.id.put).bytes row.id.index)

-- and it stands as the document of that
pub record IsOwnFragment (s : State) (streams : ℕ → Stream) (row : Row) : Type 0 where
  pub w : PutRow
  pub found : put_of s row.id.put ≡ Some w
  pub cut : row.id.index ≤ length w.cuts
  pub payload : row.payload ≡ Some (row_of_part s.geometry.fragment (streams row.id.put).bytes row.id.index)
  pub digest : row.digest ≡ digest_of_document (fragment_doc s row) (piece_of s.geometry.fragment (streams row.id.put).bytes row.id.index)

-- a put is complete, or its vector was placed last
abbrev pub IsComplete : State → ℕ → PutRow → Type 0
IsComplete s put w = (w.writing ≡ Closed) ⊎ (s.pending ≡ Some (vector_piece w.key put))

-- a table is that of all that such a put has cut
pub record IsTableOf (s : State) (put : ℕ) (table : List TableRow) : Type 0 where
  pub w : PutRow
  pub found : put_of s put ≡ Some w
  pub cuts : w.cuts ≡ table
  pub complete : IsComplete s put w

-- an alternate is the one that such a put of this key stands for: its number, its lines, its pin and its table
pub record IsListedOf (s : State) (key : Key) (a : Stored) : Type 0 where
  pub w : PutRow
  pub found : put_of s a.put ≡ Some w
  pub key_is : w.key ≡ key
  pub stands_for : alternate_of w ≡ a
  pub complete : IsComplete s a.put w

-- each alternate of a list; a row that is no vector's has none
abbrev pub AreListedOf : State → Key → Option (List Stored) → Type 0
AreListedOf s key None = Unit {0}
AreListedOf s key (Some list) = AllByRecursion (IsListedOf s key) list

-- each alternate that a vector lists is that of a complete put of the vector's key
abbrev pub AreAlternates : State → Row → Type 0
AreAlternates s row = AreListedOf s row.id.first row.alternates

-- a fragment, or a vector
abbrev pub IsOwnRow : State → (ℕ → Stream) → Row → Type 0
IsOwnRow s streams row = (0 < row.id.index → IsOwnFragment s streams row) × AreAlternates s row

-- of a reader without a table, which follows a writer, nothing is said
abbrev pub IsTableOfHit : State → ReaderRow → Option (List TableRow) → Type 0
IsTableOfHit s r None = Unit {0}
IsTableOfHit s r (Some table) = IsTableOf s r.put table

-- a reader has begun, and where it hit something it has the table of a complete put
pub record IsOwnReader (s : State) (r : ReaderRow) : Type 0 where
  pub begun : r.reader < s.next_reader
  pub table : IsTableOfHit s r r.table

-- the puts, the pieces and the readers of a session belong to what its writers took
pub record AreOwn (s : State) (streams : ℕ → Stream) : Type 0 where
  pub puts : AreOwnPuts s streams
  pub rows : AllByRecursion (IsOwnRow s streams) s.rows
  pub readers : AllByRecursion (IsOwnReader s) s.readers

-- a fragment has the payload that its put has cut; of a vector nothing is said
abbrev pub HasCutPayload : State → (ℕ → Stream) → Row → Type 0
HasCutPayload s streams row = 0 < row.id.index → IsCutFragment s streams row

-- the same, but for the documents of fragments: whatever a copy brings to a fragment's new place, it stays so
pub record ArePayloadsOwn (s : State) (streams : ℕ → Stream) : Type 0 where
  pub puts : AreOwnPuts s streams
  pub payloads : AllByRecursion (HasCutPayload s streams) s.rows
  pub alternates : AllByRecursion (AreAlternates s) s.rows
  pub readers : AllByRecursion (IsOwnReader s) s.readers

-- each put that an actor writes is open
abbrev pub AreWriting : Run → State → Type 0
AreWriting run s = (name : List ℕ) (put : ℕ) → put_written_by run name ≡ Some put → is_writing s put ≡ true

-- ---- what is shown where SHA-256 fails

-- the bytes of the document as which a fragment was placed, up to the end of its payload
abbrev pub fragment_document : State → Row → List ℕ → List ℕ
fragment_document s row payload = header_bytes (fragment_doc s row) payload ++ payload

-- a fragment was placed as the document of that part of what its writer took
pub record IsFragmentAs (streams : ℕ → Stream) (s : State) (row : Row) (document : List ℕ) : Type 0 where
  pub fragment : 0 < row.id.index
  pub is : document ≡ fragment_document s row (piece_of s.geometry.fragment (streams row.id.put).bytes row.id.index)

-- the document as which a piece was placed: a vector as that of the alternates that it lists
abbrev pub IsPlacedAs : (ℕ → Stream) → Documents
IsPlacedAs streams s row document = IsVectorAs s row document ⊎ IsFragmentAs streams s row document
