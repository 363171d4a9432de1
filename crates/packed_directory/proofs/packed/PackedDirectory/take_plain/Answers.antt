use Rattle.std.proofs.Common.{◌∙◌}
use Rattle.packed_directory.specs.Packed.{packed_rows}
use Rattle.packed_directory.proofs.Plain.{has_plain, loses_plain, on_true}
use Rattle.packed_directory.proofs.packed.PackedDirectory.take_plain.Goals as goal

pub returns-clause-found : goal.returns-clause-found
returns-clause-found c = c.take_row.ensures.found ∙ has_plain c.args.row.now (packed_rows c.args.self.now)

pub returns-clause-gone : goal.returns-clause-gone
returns-clause-gone c =
    on_true c.take_row.result (λ found. loses_plain c.args.row.now (packed_rows c.args.self.now) (packed_rows c.take_row.new.self) (c.take_row.ensures.gone found))
