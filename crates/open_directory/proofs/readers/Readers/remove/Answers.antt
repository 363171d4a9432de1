use Rattle.std.proofs.Common.{None, sym}
use Rattle.open_directory.proofs.Entries.{not_removed}
use Rattle.open_directory.proofs.Rising.{removed_in_order, set_in_order}
use Rattle.open_directory.proofs.readers.Readers.remove.Goals as goal

pub returns-in_err-gone-clause-entries : goal.returns-in_err-gone-clause-entries
returns-in_err-gone-clause-entries c = sym (not_removed c.args.number c.args.self.now.entries (sym c.in_err-gone.ensures))

pub returns-clause-entries : goal.returns-clause-entries
returns-clause-entries c = rw (sym c.self.view_is) (removed_in_order c.args.number c.self.inside.map.entries c.remove.new.self.entries c.remove.ensures.updates.0)

pub returns-clause-finds : goal.returns-clause-finds
returns-clause-finds c = rw (sym c.self.view_is) (set_in_order c.args.number None c.self.inside.map.entries c.remove.new.self.entries c.remove.ensures.updates.0)
