use Rattle.std.proofs.Common.{◌≡◌, ap, refl, sym, ◌∙◌, arith}
use Rattle.std.proofs.lemmas.Bool.Decides.{nat_tests}
use Rattle.dir_table.specs.Links.{node_at, newest_at, row_at}
use Rattle.dir_table.proofs.Numbers.{first_stands, first_reaches, stands_of, some_is, bound_of, height, height_first}
use Rattle.dir_table.proofs.Linked.{older_is, stands_node, node_is_some}
use Rattle.dir_table.proofs.links.pointing_to.Goals as goal

pub returns-in_default : goal.returns-in_default
returns-in_default c =
    let stands = stands_of (row_at c.args.links.now) c.args.spot c.args.number c.requires.stands c.requires.some in
    let reach = first_reaches c.args.spot (row_at c.args.links.now) (bound_of c.args.links.now.next c.loop-at.before) c.args.number stands c.loop-at.invariant.above in
    absurd (c.in_default.not-Some reach.number (c.loop-at.invariant.first ∙ reach.first))

pub node_of-at-requires : goal.node_of-at-requires
node_of-at-requires c =
    let stands = first_stands c.args.spot (row_at c.args.links.now) (bound_of c.args.links.now.next c.loop-at.before) c.in-Some.newer (sym c.loop-at.invariant.first ∙ c.in-Some.is) in
    node_is_some _ stands.row stands.here

pub loop-at-smaller : goal.loop-at-smaller
loop-at-smaller c =
    let met = first_stands c.args.spot (row_at c.args.links.now) (bound_of c.args.links.now.next c.loop-at.before) c.in-Some.newer (sym c.loop-at.invariant.first ∙ c.in-Some.is) in
    let fits = stands_node (node_at c.args.links.now) c.args.spot c.in-Some.newer c.node_of-at.result c.node_of-at.ensures met in
    let first = older_is (node_at c.args.links.now) (newest_at c.args.links.now) c.args.links.now.next c.args.spot c.in-Some.newer c.node_of-at.result c.requires.linked c.node_of-at.ensures fits in
    let lower = height_first c.args.spot (row_at c.args.links.now) c.in-Some.newer c.node_of-at.result.older first in
    let now = ap height c.in-Some.is in
    omega (arith, lower, now)

pub loop-at-preserved : goal.loop-at-preserved
loop-at-preserved c =
    let met = first_stands c.args.spot (row_at c.args.links.now) (bound_of c.args.links.now.next c.loop-at.before) c.in-Some.newer (sym c.loop-at.invariant.first ∙ c.in-Some.is) in
    let fits = stands_node (node_at c.args.links.now) c.args.spot c.in-Some.newer c.node_of-at.result c.node_of-at.ensures met in
    let first = older_is (node_at c.args.links.now) (newest_at c.args.links.now) c.args.links.now.next c.args.spot c.in-Some.newer c.node_of-at.result c.requires.linked c.node_of-at.ensures fits in
    let stands = stands_of (row_at c.args.links.now) c.args.spot c.args.number c.requires.stands c.requires.some in
    let reach = first_reaches c.args.spot (row_at c.args.links.now) (bound_of c.args.links.now.next c.loop-at.before) c.args.number stands c.loop-at.invariant.above in
    let same : reach.number ≡ c.in-Some.newer = some_is reach.number c.in-Some.newer (sym reach.first ∙ sym c.loop-at.invariant.first ∙ c.in-Some.is) in
    let above = reach.above in
    let other = c.ne.ensures in
    let true_ = c.loop-at-test.true in
    let at_is = c.in-Some.is in
    record {
      points = record { it = c.node_of-at.result; stands = c.node_of-at.ensures; there = fits; leads = refl };
      first = first;
      above = grind (arith, nat_tests);
    }
