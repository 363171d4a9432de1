-- What contracts see of a writer and of a reader, and when that is what the records say of them.
use Rattle.std.specs.Prelude.{ℕ, ◌≡◌, ◌*◌, ◌<◌, ◌≤◌, ◌⊎◌, Bool, true, List, [], length, Option, Some, is_some}
use Rattle.tape_base.specs.declared.geometries.Geometry.{Geometry}
use Rattle.tape_base.specs.declared.keys.Key.{Key}
use Rattle.fragment_table.specs.Table.{TableRow, total_length}
use Rattle.alternate_vector.specs.Field.{Field}
use Rattle.cache_model.specs.State.{Open, PutRow, ReaderRow, State, most_fragments, put_of, reader_of}

-- ---- writers

-- a writer: its put as it was opened, the bytes that are in no fragment yet, the fragments that were cut, and whether it takes
-- no more bytes
pub record WriterSeen : Type 0 where
  pub put : ℕ
  pub key : Key
  pub request : List Field
  pub response : List Field
  pub pin : ℕ
  pub gathered : List ℕ
  pub cuts : List TableRow
  pub sealed : Bool

-- it takes no more bytes, and all that it took is in fragments
pub record IsAllCut (w : WriterSeen) : Type 0 where
  pub sealed : w.sealed ≡ true
  pub empty : w.gathered ≡ []

-- it is what the records say of its put: only the last fragment may be short, and the bytes that are in none are fewer than one
-- has, and are there only where one more may be cut
pub record IsAtHand (g : Geometry) (row : PutRow) (w : WriterSeen) : Type 0 where
  pub key_is : row.key ≡ w.key
  pub request_is : row.request ≡ w.request
  pub response_is : row.response ≡ w.response
  pub pin_is : row.pin ≡ w.pin
  pub cuts_are : row.cuts ≡ w.cuts
  pub whole : IsAllCut w ⊎ (total_length row.cuts ≡ length row.cuts * g.fragment)
  pub few : length w.gathered < g.fragment
  pub more : 0 < length w.gathered → length row.cuts < most_fragments

-- so it is where its put is open
abbrev pub IsWriterOf : State → WriterSeen → Type 0
IsWriterOf s w = (row : PutRow) → put_of s w.put ≡ Some row → row.writing ≡ Open → IsAtHand s.geometry row w

-- ---- readers

-- a reader: its number, the put that it reads, the fragments of the alternate that was hit, or none where it follows a writer,
-- and the index of the fragment that it takes next
pub record ReaderSeen : Type 0 where
  pub reader : ℕ
  pub key : Key
  pub put : ℕ
  pub table : Option (List TableRow)
  pub next : ℕ

-- the row of a reader that an actor opened
abbrev pub row_by : ℕ → ReaderSeen → ReaderRow
row_by actor r = record { actor = actor; reader = r.reader; key = r.key; put = r.put; table = r.table; next = r.next }

-- the same where it does not matter who opened it
abbrev pub as_row : ReaderSeen → ReaderRow
as_row r = row_by 0 r

-- it is open, and its put and the index that it takes next are those of the records
pub record IsOpenReader (s : State) (r : ReaderSeen) : Type 0 where
  pub row : ReaderRow
  pub found : reader_of s r.reader ≡ Some row
  pub key_is : row.key ≡ r.key
  pub put_is : row.put ≡ r.put
  pub next_is : row.next ≡ r.next
  pub hit : is_some row.table ≡ is_some r.table
  pub first : 1 ≤ r.next

-- its fragments are those of the records too
pub record IsReaderOf (s : State) (r : ReaderSeen) : Type 0 where
  pub actor : ℕ
  pub found : reader_of s r.reader ≡ Some (row_by actor r)
