use Rattle.std.proofs.Common.{ℕ, List, subst}
use Rattle.dir_entry.specs.declared.entry.Entry.{Entry}
use Rattle.dir_entry.specs.Layout.{EntryFits}
use Rattle.dir_segment.specs.Links.{at}
use Rattle.dir_segment.proofs.Counting.{slots_fit}
use Rattle.dir_segment.proofs.slots.Slots.fit.Goals as goal

pub returns : goal.returns
returns c = subst (λ (q : List Entry). (slot : ℕ) → EntryFits (at q slot)) c.self.view_is (slots_fit c.self.inside.packed.items)
