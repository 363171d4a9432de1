use Rattle.std.proofs.Common.{set, ◌∙◌}
use Rattle.std.proofs.lemmas.List.{map-set}
use Rattle.dir_entry.specs.Layout.{entry_of_bytes}
use Rattle.dir_segment.proofs.slots.Slots.set.Goals as goal

pub returns : goal.returns
returns c =
    map-set entry_of_bytes c.self.inside.packed.items c.args.slot c.encode.result
    ∙ (λ i. set (c.self.view_is i) c.args.slot (c.encode.ensures.again i))
