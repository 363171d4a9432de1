use Rattle.std.proofs.Common.{sym, subst}
use Rattle.alternate_vector.specs.Field.{IsKept}
use Rattle.alternate_vector.specs.Lines.{field_of}
use Rattle.alternate_vector.proofs.Order.{kept_at}
use Rattle.alternate_vector.proofs.sizes.lines_size.Goals as goal

pub line_size-size-requires : goal.line_size-size-requires
line_size-size-requires c = subst (λ line. IsKept (field_of line)) (sym c.line-item.is) (kept_at c.args.lines.now c.loop-line.line-index c.line-item.result c.requires.each c.loop-line-test.true)
