-- What the maps have stays, however they order it.
use Rattle.std.proofs.Common.{refl}
use Rattle.dir_table.proofs.Linked.{linked_same}
use Rattle.dir_table.proofs.links.reserve.Goals as goal

pub returns-in_err-reserve-clause-linked : goal.returns-in_err-reserve-clause-linked
returns-in_err-reserve-clause-linked c = linked_same _ _ _ _ _ (λ k. c.reserve.ensures.entries.2 k) (λ s. refl) c.requires

pub returns-in_err-reserve-2-clause-linked : goal.returns-in_err-reserve-2-clause-linked
returns-in_err-reserve-2-clause-linked c = linked_same _ _ _ _ _ (λ k. c.reserve.ensures.entries.2 k) (λ s. c.reserve-2.ensures.entries.2 s) c.requires

pub returns-then-links-more-clause-linked : goal.returns-then-links-more-clause-linked
returns-then-links-more-clause-linked c = linked_same _ _ _ _ _ (λ k. c.reserve.ensures.entries.2 k) (λ s. c.reserve-2.ensures.entries.2 s) c.requires

pub returns-clause-linked : goal.returns-clause-linked
returns-clause-linked c = linked_same _ _ _ _ _ (λ k. c.reserve.ensures.entries.2 k) (λ s. c.reserve-2.ensures.entries.2 s) c.requires
