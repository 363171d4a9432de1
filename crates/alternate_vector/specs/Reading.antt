-- Reading a vector from the front, with the first fault that is met.
use Rattle.std.specs.Prelude.{◌≡◌, ℕ, zero, suc, nat_lt, ◌==◌, Bool, not, ◌&&◌, ◌||◌, if◌then◌else◌, bytes_eq, List, [], ◌∷◌, length, take, drop, Result, Ok, Err, ⊤}
use Rattle.std.specs.Int.{Width, w16, w32, w64, byte_len, from_le_bytes}
use Rattle.http_header.specs.Token.{lowercase}
use Rattle.fragment_table.specs.Table.{TableRow}
use Rattle.fragment_table.specs.Reading.{read_table}
use Rattle.fragment_table.specs.declared.fault.TableFault.{TableFault}
use Rattle.fragment_table.specs.declared.fault.TableFault.TheVariants as tables
use Rattle.alternate_vector.specs.declared.fault.VectorFault.{VectorFault}
use Rattle.alternate_vector.specs.declared.fault.VectorFault.TheVariants.{Short, Count, Name, Value, Table, Rest, Memory}
use Rattle.alternate_vector.specs.Field.{Field, is_above, is_name, is_value}
use Rattle.alternate_vector.specs.Alternates.{Stored}

-- the next item is read where the one before was, and else its fault stays
infixl 10 ◌>>=◌
abbrev pub ◌>>=◌ : {A B : Type 0} → Result A VectorFault → (A → Result B VectorFault) → Result B VectorFault
(Ok x) >>= f = f x
(Err e) >>= f = Err e

-- a fault that a reader returned is the one that reading gives; of want of memory nothing is said
abbrev pub FailsAs : {Y : Type 0} → VectorFault → Result Y VectorFault → Type 0
FailsAs (Memory e) read = ⊤
FailsAs fault read = read ≡ Err fault

-- what a reader returned, seen by `view`, is what reading gives, unless memory ran out
abbrev pub GivesAs : {X Y : Type 0} → (X → Y) → Result X VectorFault → Result Y VectorFault → Type 0
GivesAs view (Ok x) read = read ≡ Ok (view x)
GivesAs view (Err fault) read = FailsAs fault read

-- a number, low byte first. Each item that is read is its value and the bytes behind it
abbrev pub number_at : Width → List ℕ → Result (ℕ × List ℕ) VectorFault
number_at w bytes = if nat_lt (length bytes) (byte_len w) then Err Short else Ok (from_le_bytes w (take (byte_len w) bytes), drop (byte_len w) bytes)

-- so many bytes; fewer are `Short`
abbrev pub text_at : ℕ → List ℕ → Result (List ℕ × List ℕ) VectorFault
text_at n bytes = if nat_lt (length bytes) n then Err Short else Ok (take n bytes, drop n bytes)

-- a name in lower case that may stand behind the name before it
abbrev pub follows : List ℕ → List ℕ → Bool
follows before name = is_name name && bytes_eq name (lowercase name) && not (is_above before name)

-- the rest of a line whose name has been read
abbrev pub value_at : List ℕ → ℕ → List ℕ → Result (Field × List ℕ) VectorFault
value_at name n bytes = do
  value ← text_at n bytes
  if is_value value.0 then Ok (record { name = name; value = value.0 }, value.1) else Err Value

-- a line that may stand behind the name before it
unfoldable pub field_at : List ℕ → List ℕ → Result (Field × List ℕ) VectorFault
field_at before bytes = do
  n ← number_at w16 bytes
  v ← number_at w32 n.1
  name ← text_at n.0 v.1
  if follows before name.0 then value_at name.0 v.0 name.1 else Err Name

-- the name of the last line
abbrev pub last_name : List Field → List ℕ
last_name [] = []
last_name (field ∷ []) = field.name
last_name (field ∷ next ∷ fields) = last_name (next ∷ fields)

-- so many fields behind a name
unfoldable pub fields_from : ℕ → List ℕ → List ℕ → Result (List Field × List ℕ) VectorFault
fields_from zero before bytes = Ok ([], bytes)
fields_from (suc n) before bytes = do
  first ← field_at before bytes
  others ← fields_from n first.0.name first.1
  Ok (first.0 ∷ others.0, others.1)

-- the lines of a message behind their count, which is at most 128; any name may come first
unfoldable pub fields_at : List ℕ → Result (List Field × List ℕ) VectorFault
fields_at bytes = do
  count ← number_at w16 bytes
  if nat_lt 128 count.0 then Err Count else fields_from count.0 [] count.1

-- a table's own faults, but for one, are one fault here
abbrev pub table_fault : TableFault → VectorFault
table_fault tables.Short = Short
table_fault tables.Count = Table
table_fault tables.Sum = Table
table_fault (tables.Memory e) = Memory e

-- a table as an item: the bytes behind it in place of how many it takes
abbrev pub told_table : List ℕ → Result (List TableRow × ℕ) TableFault → Result (List TableRow × List ℕ) VectorFault
told_table bytes (Ok read) = Ok (read.0, drop read.1 bytes)
told_table bytes (Err fault) = Err (table_fault fault)

-- a table whose fragments have so many bytes together
abbrev pub table_at : ℕ → List ℕ → Result (List TableRow × List ℕ) VectorFault
table_at total bytes = told_table bytes (read_table bytes total)

-- put, pin and length, the lines of the request and of the response, and a table of just that length
unfoldable pub alternate_at : List ℕ → Result (Stored × List ℕ) VectorFault
alternate_at bytes = do
  put ← number_at w64 bytes
  pin ← number_at w64 put.1
  len ← number_at w64 pin.1
  request ← fields_at len.1
  response ← fields_at request.1
  table ← table_at len.0 response.1
  Ok (record { put = put.0; pin = pin.0; length = len.0; request = request.0; response = response.0; table = table.0 }, table.1)

-- so many alternates
unfoldable pub alternates_at : ℕ → List ℕ → Result (List Stored × List ℕ) VectorFault
alternates_at zero bytes = Ok ([], bytes)
alternates_at (suc n) bytes = do
  first ← alternate_at bytes
  others ← alternates_at n first.1
  Ok (first.0 ∷ others.0, others.1)

-- so many alternates, and nothing behind them
abbrev pub only_alternates : ℕ → List ℕ → Result (List Stored) VectorFault
only_alternates n bytes = do
  read ← alternates_at n bytes
  if length read.1 == 0 then Ok read.0 else Err Rest

-- all of the bytes
unfoldable pub read_vector : List ℕ → Result (List Stored) VectorFault
read_vector bytes = do
  count ← number_at w32 bytes
  if count.0 == 0 || nat_lt 16 count.0 then Err Count else only_alternates count.0 count.1
