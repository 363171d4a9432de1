use Rattle.std.proofs.Common.{◌∙◌, arith}
use Rattle.dir_table.specs.Links.{row_at}
use Rattle.dir_table.proofs.Trails.{first_there, down_first}
use Rattle.dir_table.proofs.walks.begin.Goals as goal

pub returns-clause-on : goal.returns-clause-on
returns-clause-on c =
    first_there c.args.spot (row_at c.args.links.now) c.args.links.now.next c.args.links.now.next _ (c.newest_of.ensures ∙ c.requires.newest c.args.spot) (omega arith)

pub returns-clause-trail : goal.returns-clause-trail
returns-clause-trail c =
    down_first c.args.spot (row_at c.args.links.now) c.args.links.now.next c.args.links.now.next _ (c.newest_of.ensures ∙ c.requires.newest c.args.spot) (omega arith)
