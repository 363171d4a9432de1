use Rattle.std.proofs.Common.{◌+◌, ◌<◌, length, ap, arith, ◌∙◌}
use Rattle.fragment_table.specs.Kept.{table_rows_of}
use Rattle.fragment_table.proofs.Ends.{total_small, kept_push}
use Rattle.fragment_table.proofs.table.FragTable.push.Goals as goal

pub behind-row-requires : goal.behind-row-requires
behind-row-requires c =
    let small = total_small (table_rows_of c.self.inside.rows.items) c.self.invariant.valid in
    let is = rw c.deref.ensures.value at c.end_of.ensures in
    record { some = c.requires.some; fits = omega (arith, small, is, c.ranges.length) }

pub invariant_of-self-2 : goal.invariant_of-self-2
invariant_of-self-2 c =
    let is = rw c.deref.ensures.value at c.end_of.ensures in
    let few : length (table_rows_of c.self.inside.rows.items) < 4096 = rw (← c.self.view_is) at c.requires.few in
    let ends = c.behind-row.ensures.end ∙ ap (λ n. n + c.behind-row.result.length) is in
    rw c.in_ok-push.ensures.items (kept_push c.self.inside.rows.items _ c.self.invariant few c.behind-row.ensures.valid ends)
