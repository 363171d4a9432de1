use Rattle.std.proofs.Common.{◌≤◌, ap}
use Rattle.std.proofs.lemmas.List.Elements.{recursion_from_All}
use Rattle.dir_table.specs.declared.links.Node.{Node}
use Rattle.dir_table.specs.Links.{row_at, row_of_node}
use Rattle.dir_table.proofs.Numbers.{all_stand}
use Rattle.dir_table.proofs.Linked.{linked_added, entries_added}
use Rattle.dir_table.proofs.links.add.Goals as goal

pub returns-clause-linked : goal.returns-clause-linked
returns-clause-linked c =
    let it : Node = record { row = c.args.row; older = c.newest_of-older.result } in
    let last = recursion_from_All (λ r. r.place ≤ c.args.row.place) _ c.requires.last in
    let nodes = rw c.unwrap.ensures at c.insert-put.ensures.updates in
    let heads = rw c.unwrap-2.ensures at c.insert-noted.ensures.updates in
    linked_added c.args.links.now.next it _ _ _ _ c.requires.linked (rw c.spot-spot.ensures at c.newest_of-older.ensures)
    (λ k m is. all_stand (λ r. r.place ≤ c.args.row.place) (row_at c.args.links.now) c.args.links.now.next last k m.row (c.requires.linked.below k m is) (ap row_of_node is))
    nodes.0 (rw c.spot-spot.ensures at heads.0)

pub returns-clause-entries : goal.returns-clause-entries
returns-clause-entries c =
    let it : Node = record { row = c.args.row; older = c.newest_of-older.result } in
    let nodes = rw c.unwrap.ensures at c.insert-put.ensures.updates in
    entries_added c.args.links.now.next it _ _ nodes.0
