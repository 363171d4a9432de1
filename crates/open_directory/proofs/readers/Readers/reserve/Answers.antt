use Rattle.std.proofs.Common.{sym}
use Rattle.open_directory.proofs.Rising.{same_in_order}
use Rattle.open_directory.proofs.readers.Readers.reserve.Goals as goal

pub returns-clause-entries : goal.returns-clause-entries
returns-clause-entries c = rw (sym c.self.view_is) (same_in_order c.self.inside.map.entries c.reserve.new.self.entries c.reserve.ensures.entries.2)
