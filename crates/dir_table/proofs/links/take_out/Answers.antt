use Rattle.std.proofs.Common.{ℕ, None, cond, nat_eq, is_some, ap, sym, subst, ◌∙◌, Option}
use Rattle.dir_table.specs.declared.links.Node.{Node}
use Rattle.dir_table.specs.Links.{spot_under, IsLinkedBy, node_at, newest_at, row_at, entries_below}
use Rattle.dir_table.proofs.Numbers.{first_reaches}
use Rattle.dir_table.proofs.Linked.{linked_taken, entries_taken, node_stands, same_spot_self}
use Rattle.dir_table.proofs.links.take_out.Goals as goal

pub redirect-requires : goal.redirect-requires
redirect-requires c =
    let spot = spot_under c.node_of-node.result.row in
    let stands = node_stands (node_at c.args.links.now) spot c.args.number c.node_of-node.result c.node_of-node.ensures (same_spot_self spot) in
    let reach = first_reaches spot (row_at c.args.links.now) c.args.links.now.next c.args.number stands (c.requires.linked.below c.args.number c.node_of-node.result c.node_of-node.ensures) in
    ap (λ s. is_some (newest_at c.args.links.now s)) c.spot-spot.ensures ∙ ap is_some (c.requires.linked.newest spot ∙ reach.first)

pub returns-clause-linked : goal.returns-clause-linked
returns-clause-linked c =
    let P : ℕ → Type 0 = λ n. IsLinkedBy (λ k. node_at (record { nodes = c.remove.new.self; newest = c.redirect.new.links.newest; next = c.redirect.new.links.next }) k) (λ s. newest_at c.redirect.new.links s) n in
    subst P (sym c.redirect.ensures.next)
    (linked_taken c.args.number c.args.links.now.next c.pointing_to-before.result c.node_of-node.result c.spot-spot.result _ _ _ _ c.spot-spot.ensures
    c.requires.linked c.node_of-node.ensures c.pointing_to-before.ensures
    (λ k. c.remove.ensures.updates.0 k ∙ ap {A = Option Node} {B = Option Node} (λ o. cond (nat_eq c.args.number k) None o) (c.redirect.ensures.nodes k))
    c.redirect.ensures.newest)

pub returns-clause-entries : goal.returns-clause-entries
returns-clause-entries c =
    ap (entries_below (row_at (record { nodes = c.remove.new.self; newest = c.redirect.new.links.newest; next = c.redirect.new.links.next }))) c.redirect.ensures.next
    ∙ entries_taken c.args.number c.args.links.now.next c.pointing_to-before.result c.node_of-node.result.older _ _
    (λ k. c.remove.ensures.updates.0 k ∙ ap {A = Option Node} {B = Option Node} (λ o. cond (nat_eq c.args.number k) None o) (c.redirect.ensures.nodes k))
