use Rattle.std.proofs.Common.{sym}
use Rattle.open_directory.proofs.Rising.{added_in_order, set_in_order}
use Rattle.std.proofs.Common.{Some}
use Rattle.open_directory.proofs.readers.Readers.add.Goals as goal

pub returns-clause-entries : goal.returns-clause-entries
returns-clause-entries c =
    let updates = rw c.unwrap.ensures at c.insert-added.ensures.updates in
    rw (sym c.self.view_is) (added_in_order c.args.number c.args.reader c.self.inside.map.entries c.insert-added.new.self.entries updates.0)

pub returns-clause-finds : goal.returns-clause-finds
returns-clause-finds c =
    let updates = rw c.unwrap.ensures at c.insert-added.ensures.updates in
    rw (sym c.self.view_is) (set_in_order c.args.number (Some c.args.reader) c.self.inside.map.entries c.insert-added.new.self.entries updates.0)
