use Rattle.std.proofs.Common.{sym}
use Rattle.fragment_table.proofs.Ends.{last_end}
use Rattle.fragment_table.proofs.table.end_of.Goals as goal

pub returns-in-Some : goal.returns-in-Some
returns-in-Some c = last_end c.args.rows.now c.in-Some.row.now c.requires (sym (rw c.in-Some.row-is at c.in-Some.ensures.value))
