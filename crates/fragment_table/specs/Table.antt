-- What a contract sees of a `FragTable`, and the bytes that spell one. Fragments are those of the
-- Traffic Server guide, "Cache Architecture".
use Rattle.std.specs.Prelude.{◌≡◌, ℕ, ◌+◌, ◌-◌, ◌^◌, ◌<◌, ◌≤◌, nat_lt, if◌then◌else◌, List, [], ◌∷◌, ◌++◌, length, sum_by, Option, Some, None, option_map}
use Rattle.std.specs.List.{flat_map, AllByRecursion}
use Rattle.std.specs.Int.{w32, to_le_bytes}
use Rattle.hex.specs.Hex.{IsBytes}

-- the length of a fragment, and the digest of its bytes
pub record TableRow : Type 0 where
  pub length : ℕ
  pub digest : List ℕ

-- the rows, and how many more can be pushed without taking memory
pub record Table : Type 0 where
  pub rows : List TableRow
  pub room : ℕ

-- a row of this length and digest, whether or not a table may have it
abbrev pub made_row : ℕ → List ℕ → TableRow
made_row n digest = record { length = n; digest = digest }

-- a fragment has bytes, and its digest is 32 bytes
pub record IsRow (row : TableRow) : Type 0 where
  pub some : 0 < row.length
  pub short : row.length < 2 ^ 32
  pub digest : length row.digest ≡ 32
  pub bytes : IsBytes row.digest

-- the rows that a table may have
pub record AreRows (rows : List TableRow) : Type 0 where
  pub few : length rows ≤ 4096
  pub each : AllByRecursion IsRow rows

-- fewer rows than a table may have
abbrev pub CanGrow : List TableRow → Type 0
CanGrow rows = length rows < 4096

-- the length of the body
abbrev pub total_length : List TableRow → ℕ
total_length rows = sum_by (λ row. row.length) rows

-- one fragment further
abbrev pub next_fragment : ℕ × ℕ → ℕ × ℕ
next_fragment found = (found.0 + 1, found.1)

-- the fragment of an offset into the body, counted from 1, and the offset within it
abbrev pub fragment_at : List TableRow → ℕ → Option (ℕ × ℕ)
fragment_at [] offset = None
fragment_at (row ∷ rows) offset =
    if nat_lt offset row.length then Some (1, offset) else option_map next_fragment (fragment_at rows (offset - row.length))

-- four bytes of length and the digest
abbrev pub row_bytes : TableRow → List ℕ
row_bytes row = to_le_bytes w32 row.length ++ row.digest

-- four bytes of count and the rows
abbrev pub table_bytes : List TableRow → List ℕ
table_bytes rows = to_le_bytes w32 (length rows) ++ flat_map row_bytes rows
