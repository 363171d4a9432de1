use Rattle.std.proofs.Common.{◌∙◌, sym}
use Rattle.dir_table.specs.Links.{row_at, node_at}
use Rattle.dir_table.proofs.Parts.{without_none, row_none}
use Rattle.dir_table.proofs.links.clear.Goals as goal

pub returns-else-contains_key-clause-entries : goal.returns-else-contains_key-clause-entries
returns-else-contains_key-clause-entries c =
    without_none c.args.number (row_at c.args.links.now) c.args.links.now.next
    (row_none (node_at c.args.links.now c.args.number) (sym c.contains_key.ensures ∙ c.if-contains_key.false))
