use Rattle.std.proofs.Common.{sym, arith}
use Rattle.open_directory.proofs.Rising.{length_by_number, rises_by_number}
use Rattle.open_directory.proofs.readers.Readers.len.Goals as goal

pub returns-clause-small : goal.returns-clause-small
returns-clause-small c =
    let few = length_by_number c.self.inside.map.entries in
    rw (sym c.self.view_is) (omega (arith, few, c.len.ensures.len, c.len.ensures.small))

pub returns-clause-rise : goal.returns-clause-rise
returns-clause-rise c = rw (sym c.self.view_is) (rises_by_number c.self.inside.map.entries)
