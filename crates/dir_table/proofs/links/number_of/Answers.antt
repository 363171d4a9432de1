use Rattle.std.proofs.Common.{ℕ, ap, sym, subst, ◌∙◌, Option, arith}
use Rattle.dir_table.specs.Links.{node_at, newest_at, row_at, row_of_node}
use Rattle.dir_table.specs.Rows.{same_row, spot_of}
use Rattle.dir_table.proofs.Numbers.{has_first, has_next, first_meets, Meets, Stands, height, height_first}
use Rattle.dir_table.proofs.Linked.{older_is, stands_node}
use Rattle.dir_table.proofs.links.number_of.Goals as goal

pub loop-at-init : goal.loop-at-init
loop-at-init c =
    let first = c.newest_of-at.ensures ∙ ap (newest_at c.args.links.now) c.spot.ensures ∙ c.requires.newest (spot_of c.args.row.now) in
    record {
      has = has_first c.args.row.now (row_at c.args.links.now) c.args.links.now.next c.newest_of-at.result first;
      meets = first_meets (spot_of c.args.row.now) (row_at c.args.links.now) c.args.links.now.next c.newest_of-at.result first;
    }

pub loop-at-smaller : goal.loop-at-smaller
loop-at-smaller c =
    let M : Option ℕ → Type 0 = λ o. Meets (row_at c.args.links.now) (spot_of c.args.row.now) o in
    let met : Stands (row_at c.args.links.now) (spot_of c.args.row.now) c.in-Some.number = subst M c.in-Some.is c.loop-at.invariant.meets in
    let fits = stands_node (node_at c.args.links.now) (spot_of c.args.row.now) c.in-Some.number c.node_of-node.result c.node_of-node.ensures met in
    let first = older_is (node_at c.args.links.now) (newest_at c.args.links.now) c.args.links.now.next (spot_of c.args.row.now) c.in-Some.number c.node_of-node.result c.requires c.node_of-node.ensures fits in
    let lower = height_first (spot_of c.args.row.now) (row_at c.args.links.now) c.in-Some.number c.node_of-node.result.older first in
    let now = ap height c.in-Some.is in
    omega (arith, lower, now)

pub loop-at-preserved : goal.loop-at-preserved
loop-at-preserved c =
    let M : Option ℕ → Type 0 = λ o. Meets (row_at c.args.links.now) (spot_of c.args.row.now) o in
    let met : Stands (row_at c.args.links.now) (spot_of c.args.row.now) c.in-Some.number = subst M c.in-Some.is c.loop-at.invariant.meets in
    let fits = stands_node (node_at c.args.links.now) (spot_of c.args.row.now) c.in-Some.number c.node_of-node.result c.node_of-node.ensures met in
    let first = older_is (node_at c.args.links.now) (newest_at c.args.links.now) c.args.links.now.next (spot_of c.args.row.now) c.in-Some.number c.node_of-node.result c.requires c.node_of-node.ensures fits in
    record {
      has = rw c.in-Some.is at c.loop-at.invariant.has
          ∙ has_next c.args.row.now (row_at c.args.links.now) c.in-Some.number c.node_of-node.result.row c.node_of-node.result.older (ap row_of_node c.node_of-node.ensures) (ap (same_row c.args.row.now) (sym c.plain.ensures) ∙ sym c.eq.ensures ∙ c.if-eq.false) first;
      meets = first_meets (spot_of c.args.row.now) (row_at c.args.links.now) c.in-Some.number c.node_of-node.result.older first;
    }
