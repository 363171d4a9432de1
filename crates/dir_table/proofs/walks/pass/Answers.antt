use Rattle.std.proofs.Common.{ℕ, ◌≡◌, Option, true, ap, subst, ◌∙◌, arith}
use Rattle.dir_table.specs.Links.{entries_of, node_at, newest_at, row_at, row_of_node}
use Rattle.dir_table.specs.Trail.{is_there, rows_down}
use Rattle.dir_table.proofs.Trails.{down_next, first_there, there_stands}
use Rattle.dir_table.proofs.Linked.{node_is_some, older_is, stands_node}
use Rattle.dir_table.proofs.walks.pass.Goals as goal

pub node_of-node-requires : goal.node_of-node-requires
node_of-node-requires c =
    let links = c.args.links.now in
    let P : Option ℕ → Type 0 = λ o. is_there c.args.walk.now.spot o (entries_of links) ≡ true in
    let it = there_stands c.args.walk.now.spot (row_at links) links.next c.in_ok-number.number (subst P c.in_ok-number.was c.requires.on) in
    node_is_some (node_at links c.in_ok-number.number) it.stands.row it.stands.here

pub returns-clause-on : goal.returns-clause-on
returns-clause-on c =
    let links = c.args.links.now in
    let spot = c.args.walk.now.spot in
    let number = c.in_ok-number.number in
    let P : Option ℕ → Type 0 = λ o. is_there spot o (entries_of links) ≡ true in
    let it = there_stands spot (row_at links) links.next number (subst P c.in_ok-number.was c.requires.on) in
    let less = it.below in
    let fits = stands_node (node_at links) spot number c.node_of-node.result c.node_of-node.ensures it.stands in
    first_there spot (row_at links) number links.next c.node_of-node.result.older
    (older_is (node_at links) (newest_at links) links.next spot number c.node_of-node.result c.requires.linked c.node_of-node.ensures fits) (omega arith)

pub returns-clause-trail : goal.returns-clause-trail
returns-clause-trail c =
    let links = c.args.links.now in
    let spot = c.args.walk.now.spot in
    let number = c.in_ok-number.number in
    let P : Option ℕ → Type 0 = λ o. is_there spot o (entries_of links) ≡ true in
    let it = there_stands spot (row_at links) links.next number (subst P c.in_ok-number.was c.requires.on) in
    let fits = stands_node (node_at links) spot number c.node_of-node.result c.node_of-node.ensures it.stands in
    ap (λ o. rows_down spot o (entries_of links)) c.in_ok-number.was
    ∙ down_next spot (row_at links) number links.next c.node_of-node.result.row c.node_of-node.result.older it.below (ap row_of_node c.node_of-node.ensures) fits
    (older_is (node_at links) (newest_at links) links.next spot number c.node_of-node.result c.requires.linked c.node_of-node.ensures fits)
