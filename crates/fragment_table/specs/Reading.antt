-- Reading a table from the front of bytes, and the fault that is answered.
use Rattle.std.specs.Prelude.{◌≡◌, ℕ, zero, suc, ◌+◌, ◌*◌, nat_lt, ◌==◌, Bool, true, false, ◌&&◌, ◌||◌, if◌then◌else◌, List, [], ◌∷◌, length, take, drop, Result, Ok, Err, ⊤, IsTrue}
use Rattle.std.specs.List.{list_all}
use Rattle.std.specs.Int.{w32, from_le_bytes}
use Rattle.fragment_table.specs.declared.fault.TableFault.{TableFault}
use Rattle.fragment_table.specs.declared.fault.TableFault.TheVariants.{Short, Count, Sum, Memory}
use Rattle.fragment_table.specs.Table.{TableRow, Table, AreRows, table_bytes, total_length}

-- the number of rows that the bytes tell
abbrev pub told_count : List ℕ → ℕ
told_count bytes = from_le_bytes w32 (take 4 bytes)

-- the row that the first 36 bytes tell: four of its length, low byte first, and the digest
abbrev pub row_in_bytes : List ℕ → TableRow
row_in_bytes bytes = record { length = from_le_bytes w32 (take 4 bytes); digest = take 32 (drop 4 bytes) }

-- so many rows from the front
abbrev pub rows_in_bytes : ℕ → List ℕ → List TableRow
rows_in_bytes zero bytes = []
rows_in_bytes (suc n) bytes = row_in_bytes bytes ∷ rows_in_bytes n (drop 36 bytes)

-- the rows that the bytes tell
abbrev pub told_rows : List ℕ → List TableRow
told_rows bytes = rows_in_bytes (told_count bytes) (drop 4 bytes)

-- how many bytes they take
abbrev pub told_length : List ℕ → ℕ
told_length bytes = 4 + 36 * told_count bytes

-- the bytes end within the table
abbrev pub is_cut : List ℕ → Bool
is_cut bytes = nat_lt (length bytes) 4 || nat_lt (length bytes) (told_length bytes)

-- no row has the length 0; so it is of no rows at all
abbrev pub none_empty : List TableRow → Bool
none_empty rows = list_all (λ row. nat_lt 0 row.length) rows

-- each row has bytes, and together they have as many as the body
abbrev pub has_sum : ℕ → List TableRow → Bool
has_sum total rows = none_empty rows && total_length rows == total

-- that test passes: `Sum` is answered only where it does not
abbrev pub HasSum : ℕ → List TableRow → Type 0
HasSum total rows = IsTrue (has_sum total rows)

-- the rows and how many bytes they take, or the first fault
unfoldable pub read_table : List ℕ → ℕ → Result (List TableRow × ℕ) TableFault
read_table bytes total =
    if is_cut bytes then Err Short
    else (if nat_lt 4096 (told_count bytes) then Err Count
    else (if has_sum total (told_rows bytes) then Ok (told_rows bytes, told_length bytes) else Err Sum))

-- what a reader returned is what reading gives, unless memory ran out
abbrev pub Gives : Result (Table × ℕ) TableFault → Result (List TableRow × ℕ) TableFault → Type 0
Gives (Ok x) read = read ≡ Ok (x.0.rows, x.1)
Gives (Err (Memory e)) read = ⊤
Gives (Err fault) read = read ≡ Err fault

-- likewise for the rows alone
abbrev pub RowsGive : Result Table TableFault → List TableRow → Type 0
RowsGive (Ok table) rows = (table.rows ≡ rows) × (none_empty rows ≡ true)
RowsGive (Err Sum) rows = none_empty rows ≡ false
RowsGive (Err (Memory e)) rows = ⊤
RowsGive (Err fault) rows = ⊥

-- the bytes begin with the spelling of these rows, of so many bytes, and the rows are those of such a body
pub record IsReadFrom (bytes : List ℕ) (total : ℕ) (found : List TableRow) (taken : ℕ) : Type 0 where
  pub rows : AreRows found
  pub sum : total_length found ≡ total
  pub spelling : take taken bytes ≡ table_bytes found
