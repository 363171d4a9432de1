use Rattle.std.proofs.Common.{sym, ap, ◌∙◌}
use Rattle.alternate_vector.specs.Field.{is_above}
use Rattle.alternate_vector.proofs.Loops.{follows_order}
use Rattle.alternate_vector.proofs.reading.line_of.Goals as goal

pub returns-clause-order : goal.returns-clause-order
returns-clause-order c =
    ap (λ f. is_above c.args.before.now f.name) c.in_ok-kept_line.ensures.field
    ∙ follows_order c.args.before.now c.in_ok-name.name.now (sym c.follows.ensures ∙ c.if-not-follows.false)
