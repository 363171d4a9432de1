use Rattle.std.proofs.Common.{◌≡◌, ◌-◌, ◌*◌, ◌≤◌, ◌++◌, length, true}
use Rattle.fragment_table.specs.Reading.{rows_in_bytes, none_empty}
use Rattle.fragment_table.proofs.reading.read_rows.Given as goal

abbrev pub invariant-loop : goal.invariant-loop
invariant-loop l =
    (l.table.rows ++ rows_in_bytes (l.count - l.counter) l.rest ≡ rows_in_bytes l.count l.bytes)
    × (none_empty l.table.rows ≡ true)
    × (length l.table.rows ≡ l.counter)
    × (36 * (l.count - l.counter) ≤ length l.rest)
