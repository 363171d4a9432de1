use Rattle.std.proofs.Common.{◌≡◌, ◌+◌, ◌-◌, ◌*◌, ◌≤◌, ◌++◌, length, take, vec_len, vec_capacity}
use Rattle.std.specs.Int.{w32, to_le_bytes}
use Rattle.std.specs.List.{flat_map}
use Rattle.fragment_table.specs.Table.{row_bytes}
use Rattle.fragment_table.specs.Kept.{table_rows_of}
use Rattle.fragment_table.proofs.table.write_rows.Given as goal

abbrev pub invariant-loop-row : goal.invariant-loop-row
invariant-loop-row l =
    (l.into.items ≡ l.fn.into.items ++ (to_le_bytes w32 (length l.rows) ++ flat_map row_bytes (table_rows_of (take l.row-index l.rows))))
    × (vec_len l.into + 36 * (length l.rows - l.row-index) ≤ vec_capacity l.into)
