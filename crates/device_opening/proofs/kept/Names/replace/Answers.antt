use Rattle.std.proofs.Common.{◌∙◌}
use Rattle.device_opening.proofs.Keeping.{replaced_so}
use Rattle.device_opening.proofs.kept.Names.replace.Goals as goal

pub returns : goal.returns
returns c = λ later has.
    c.is_replaced.ensures
    ∙ replaced_so c.args.self.now c.args.id later c.contains.result c.contains-2.result has (c.contains.ensures ∙ has.pieces c.args.id) (c.contains-2.ensures ∙ has.vectors c.args.id.first)
