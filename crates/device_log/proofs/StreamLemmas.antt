-- The bytes that a source gave and that a sink took are bytes.
use Rattle.std.proofs.Common.{◌≡◌, ℕ, List, [], ◌∷◌, sym, subst}
use Rattle.hex.specs.Hex.{IsBytes}
use Rattle.tape_base.proofs.Bytes.{IsBytes-append, IsBytes-nil}
use Rattle.device_log.specs.Row.{CallRow, call_row}
use Rattle.device_log.specs.Streams.{SourceRead, GaveBytes, CameToEnd, RefusedRead, SinkWrite, TookBytes, RefusedWrite, given_by, taken_by, read_of, write_of, reads_of_rows, writes_of_rows}

-- the bytes of a read, and of a write
abbrev pub bytes_of_read : SourceRead → List ℕ
bytes_of_read (GaveBytes bytes) = bytes
bytes_of_read CameToEnd = []
bytes_of_read (RefusedRead count) = []

abbrev pub bytes_of_write : SinkWrite → List ℕ
bytes_of_write (TookBytes bytes) = bytes
bytes_of_write (RefusedWrite front count) = front

one_more_read : (read : SourceRead) (older : List SourceRead) → IsBytes (bytes_of_read read) → IsBytes (given_by older) → IsBytes (given_by (read ∷ older))
unfolding given_by
one_more_read (GaveBytes bytes) older fits before = IsBytes-append (given_by older) bytes before fits
one_more_read CameToEnd older fits before = before
one_more_read (RefusedRead count) older fits before = before

one_more_write : (write : SinkWrite) (older : List SinkWrite) → IsBytes (bytes_of_write write) → IsBytes (taken_by older) → IsBytes (taken_by (write ∷ older))
unfolding taken_by
one_more_write (TookBytes bytes) older fits before = IsBytes-append (taken_by older) bytes before fits
one_more_write (RefusedWrite front count) older fits before = IsBytes-append (taken_by older) front before fits

pub nothing_given : (rows : List CallRow) → rows ≡ [] → IsBytes (given_by (reads_of_rows rows))
unfolding given_by reads_of_rows
nothing_given rows none = subst (λ r. IsBytes (given_by (reads_of_rows r))) (sym none) IsBytes-nil

pub read_noted : (numbers bytes : List ℕ) (old new : List CallRow) → new ≡ call_row numbers bytes ∷ old
    → IsBytes (bytes_of_read (read_of numbers bytes)) → IsBytes (given_by (reads_of_rows old)) → IsBytes (given_by (reads_of_rows new))
unfolding reads_of_rows
read_noted numbers bytes old new is fits before =
    subst (λ r. IsBytes (given_by (reads_of_rows r))) (sym is) (one_more_read (read_of numbers bytes) (reads_of_rows old) fits before)

pub nothing_taken : (rows : List CallRow) → rows ≡ [] → IsBytes (taken_by (writes_of_rows rows))
unfolding taken_by writes_of_rows
nothing_taken rows none = subst (λ r. IsBytes (taken_by (writes_of_rows r))) (sym none) IsBytes-nil

pub write_noted : (numbers bytes : List ℕ) (old new : List CallRow) → new ≡ call_row numbers bytes ∷ old
    → IsBytes (bytes_of_write (write_of numbers bytes)) → IsBytes (taken_by (writes_of_rows old)) → IsBytes (taken_by (writes_of_rows new))
unfolding writes_of_rows
write_noted numbers bytes old new is fits before =
    subst (λ r. IsBytes (taken_by (writes_of_rows r))) (sym is) (one_more_write (write_of numbers bytes) (writes_of_rows old) fits before)
