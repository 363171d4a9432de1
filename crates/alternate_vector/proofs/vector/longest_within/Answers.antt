use Rattle.std.proofs.Common.{sym, ◌∙◌}
use Rattle.alternate_vector.specs.Alternates.{all_stored}
use Rattle.alternate_vector.proofs.Chosen.{longest_is}
use Rattle.alternate_vector.proofs.vector.longest_within.Goals as goal

pub returns-else-not-is_within-clause-longest : goal.returns-else-not-is_within-clause-longest
returns-else-not-is_within-clause-longest c =
    let told = rw c.deref.ensures.value at c.is_within.ensures in
    sym (longest_is c.args.most c.args.bytes (all_stored c.drops.all.items) (sym told ∙ c.if-not-is_within.false)) ∙ c.drops.invariant.0
