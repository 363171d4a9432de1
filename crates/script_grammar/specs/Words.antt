-- The words of a line: parted by one space each, and tested one by one from the left.
use Rattle.std.specs.Prelude.{ℕ, ◌+◌, ◌==◌, nat_le, Bool, true, false, not, ◌&&◌, if◌then◌else◌, List, [], ◌∷◌, length, Result, Ok, Err}
use Rattle.std.specs.List.{list_all, slice_split}
use Rattle.script_grammar.specs.declared.line.BadKind.{BadKind}
use Rattle.script_grammar.specs.declared.line.BadKind.TheVariants.{Word, Count}
use Rattle.script_grammar.specs.declared.line.BadLine.{BadLine}

-- what stands between two spaces, and the column of its first byte, from 1
pub record WordAt : Type 0 where
  pub column : ℕ
  pub bytes : List ℕ

-- the byte 20 hex; a tab is none
abbrev pub is_space : ℕ → Bool
is_space byte = byte == 32

-- words of which the first begins at this column, each behind the space that ends the one before
abbrev pub located : ℕ → List (List ℕ) → List WordAt
located column [] = []
located column (word ∷ words) = record { column = column; bytes = word } ∷ located (column + length word + 1) words

-- the words of bytes that begin at this column
abbrev pub words_from : ℕ → List ℕ → List WordAt
words_from column bytes = located column (slice_split is_space bytes)

-- a byte from 21 to 7E hex
abbrev pub is_word_byte : ℕ → Bool
is_word_byte byte = nat_le 33 byte && nat_le byte 126

-- one or more of these
abbrev pub is_word : List ℕ → Bool
is_word bytes = not (length bytes == 0) && list_all is_word_byte bytes

-- the fault of a line: a column, from 1, and what is wrong there
abbrev pub bad : ℕ → BadKind → BadLine
bad column kind = record { column = column; kind = kind }

infixl 10 ◌>>=◌
-- what comes next is tested where there is no fault yet, so the first fault from the left is told
abbrev pub ◌>>=◌ : {A B : Type 0} → Result A BadLine → (A → Result B BadLine) → Result B BadLine
Ok x >>= f = f x
Err e >>= f = Err e

-- a word is tested when it is taken; those behind it are not looked at
abbrev pub checked : WordAt → List WordAt → Result (WordAt × List WordAt) BadLine
checked w words = if is_word w.bytes then Ok (w, words) else Err (bad w.column Word)

-- the next word, which has to be there and to be one, and what is left behind it, in a line that
-- ends before the column `end`
abbrev pub take_word : ℕ → List WordAt → Result (WordAt × List WordAt) BadLine
take_word end [] = Err (bad end Count)
take_word end (w ∷ words) = checked w words

-- no word may follow
abbrev pub take_end : List WordAt → Result Unit BadLine
take_end [] = Ok tt
take_end (w ∷ words) = Err (bad w.column (if is_word w.bytes then Count else Word))

-- whether a word follows
abbrev pub has_more : List WordAt → Bool
has_more [] = false
has_more (w ∷ words) = true
