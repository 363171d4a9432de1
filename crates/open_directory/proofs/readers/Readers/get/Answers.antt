use Rattle.std.proofs.Common.{sym, ◌∙◌}
use Rattle.open_directory.proofs.Rising.{found_by_number}
use Rattle.open_directory.proofs.readers.Readers.get.Goals as goal

pub returns : goal.returns
returns c = rw (sym c.self.view_is) (c.copied.ensures ∙ c.get.ensures.value ∙ sym (found_by_number c.args.number c.self.inside.map.entries))
