use Rattle.std.proofs.Common.{sym, subst}
use Rattle.alternate_vector.specs.Field.{IsKept}
use Rattle.alternate_vector.specs.Lines.{field_of}
use Rattle.alternate_vector.proofs.Order.{kept_at}
use Rattle.alternate_vector.proofs.writing.write_lines.Goals as goal

pub write_line-requires : goal.write_line-requires
write_line-requires c = subst (λ line. IsKept (field_of line)) (sym c.line-item.is) (kept_at c.args.lines.now c.loop-line.line-index c.line-item.result c.requires.each c.loop-line-test.true)
