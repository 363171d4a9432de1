-- A call as numbers and bytes: what stands behind a borrow has to have a code, which lists of
-- numbers have.
use Rattle.std.specs.Prelude.{ℕ, List}

-- the numbers of a call, and its bytes
abbrev pub CallRow : Type 0
CallRow = List ℕ × List ℕ

abbrev pub call_row : List ℕ → List ℕ → CallRow
call_row numbers bytes = (numbers, bytes)
