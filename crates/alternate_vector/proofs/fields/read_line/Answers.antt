use Rattle.std.proofs.Common.{sym, ◌∙◌, arith}
use Rattle.alternate_vector.proofs.Order.{kept_made}
use Rattle.alternate_vector.proofs.fields.read_line.Goals as goal

pub returns-clause-kept : goal.returns-clause-kept
returns-clause-kept c = kept_made c.args.name.now c.args.value.now (sym c.is_name.ensures ∙ c.if-not-is_name.false) (sym c.is_value.ensures ∙ c.if-not-is_value.false) (λ i. omega (arith, c.type_inv.value i))
