use Rattle.std.proofs.Common.{◌-◌, ap, ◌∙◌, arith, length}
use Rattle.alternate_vector.proofs.Loops.{last_at}
use Rattle.alternate_vector.proofs.reading.last_name.Goals as goal

pub returns-in-len1-up : goal.returns-in-len1-up
returns-in-len1-up c =
    c.as_bytes.ensures.value ∙ ap (λ line. line.name) c.line-item.is ∙ last_at c.args.lines.now (length c.args.lines.now - 1) c.line-item.result (omega (arith, c.in-len1-up.len_at_least))
