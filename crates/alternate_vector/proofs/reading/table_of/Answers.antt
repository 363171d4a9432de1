use Rattle.alternate_vector.proofs.Loops.{table_within}
use Rattle.alternate_vector.proofs.reading.table_of.Goals as goal

pub split_at-requires : goal.split_at-requires
split_at-requires c = table_within c.args.bytes.now c.args.total _ c.in-Ok.taken c.in-Ok.ensures.exact
