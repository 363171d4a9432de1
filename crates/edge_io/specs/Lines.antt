-- The lines of a text, and the two limits on them.
use Rattle.std.specs.Prelude.{◌≡◌, ◌≢◌, ℕ, ◌<◌, ◌≤◌, List, [], ◌∷◌, ◌++◌, length, ◌==◌, if◌then◌else◌, Contains, ⊤}
use Rattle.edge_io.specs.declared.reader.TheConstants.{MAX_LINE_BYTES, MAX_LINES}

-- the first line with this byte before it
abbrev pub onto_first : ℕ → List (List ℕ) → List (List ℕ)
onto_first byte [] = (byte ∷ []) ∷ []
onto_first byte (line ∷ later) = (byte ∷ line) ∷ later

-- the lines without their newlines; bytes behind the last newline are a line
abbrev pub lines_of : List ℕ → List (List ℕ)
lines_of [] = []
lines_of (byte ∷ bytes) = if byte == 10 then [] ∷ lines_of bytes else onto_first byte (lines_of bytes)

-- the bytes before the first newline
abbrev pub first_line : List ℕ → List ℕ
first_line [] = []
first_line (byte ∷ bytes) = if byte == 10 then [] else byte ∷ first_line bytes

-- no newline is among the bytes, and a line may be so long
pub record IsLine (bytes : List ℕ) : Type 0 where
  pub short : length bytes ≤ MAX_LINE_BYTES
  pub clear : Contains bytes 10 → ⊥

-- each of them is a line
abbrev pub AreLines : List (List ℕ) → Type 0
AreLines [] = ⊤
AreLines (bytes ∷ lines) = IsLine bytes × AreLines lines

-- behind so many lines, one follows that is longer than a line may be
pub record IsTooLong (given : ℕ) (bytes : List ℕ) : Type 0 where
  pub within : given < MAX_LINES
  pub long : MAX_LINE_BYTES < length (first_line bytes)

-- a byte stands behind the last line that may be
pub record IsTooMany (given : ℕ) (bytes : List ℕ) : Type 0 where
  pub all : MAX_LINES ≤ given
  pub more : bytes ≢ []

-- behind so many lines, the bytes begin with this line and its newline, and these are behind them
pub record GivesLine (given : ℕ) (bytes line behind : List ℕ) : Type 0 where
  pub within : given < MAX_LINES
  pub is_line : IsLine line
  pub first : bytes ≡ line ++ 10 ∷ behind
