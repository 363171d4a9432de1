use Rattle.std.proofs.Common.{◌++◌}
use Rattle.std.specs.Int.{w64, to_le_bytes}
use Rattle.fragment_table.specs.Table.{table_bytes}
use Rattle.alternate_vector.specs.Spelling.{fields_bytes}
use Rattle.alternate_vector.proofs.Written.{four_pieces}
use Rattle.alternate_vector.proofs.writing.write_alternate.Goals as goal

pub returns : goal.returns
returns c =
    let a = c.args.alternate.now in
    four_pieces c.args.into.now.items (to_le_bytes w64 a.put ++ to_le_bytes w64 a.pin ++ to_le_bytes w64 a.length) (fields_bytes a.request) (fields_bytes a.response) (table_bytes a.table.rows)
    _ _ _ _ c.in_ok-write_numbers.ensures c.in_ok-write_fields.ensures c.in_ok-write_fields-2.ensures c.in_ok-encode.ensures.ok
