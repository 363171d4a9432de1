use Rattle.std.proofs.Common.{ℕ, ◌+◌, List, ap, sym, subst, ◌∙◌, arith}
use Rattle.dir_table.specs.declared.rows.StoredRow.{StoredRow}
use Rattle.dir_table.specs.Links.{AllFrom, entries_of, node_at, newest_at, row_at, rows_of}
use Rattle.dir_table.specs.Wrap.{stored_from}
use Rattle.dir_table.proofs.Parts.{above_without, all_left, from_without, none_left}
use Rattle.dir_table.proofs.links.forget.Goals as goal

pub returns-then-is_standing_from-clause-rows : goal.returns-then-is_standing_from-clause-rows
returns-then-is_standing_from-clause-rows c =
    let links = c.loop-number.links in
    all_left c.args.low c.loop-number.number links.next (node_at links) (newest_at links) c.loop-number.invariant.linked
    (sym c.is_standing_from.ensures ∙ c.if-is_standing_from.true) c.loop-number.invariant.above
    ∙ c.loop-number.invariant.rows

pub loop-number-preserved : goal.loop-number-preserved
loop-number-preserved c =
    let links = c.loop-number.links in
    let number = c.loop-number.number in
    let P : List (ℕ × StoredRow) → Type 0 = λ es. AllFrom (number + 1) es in
    let less = c.loop-number-test.true in
    let room = c.loop-number.invariant.room in
    let more = c.clear.ensures.room in
    record {
      linked = c.clear.ensures.linked;
      above = subst P (sym c.clear.ensures.entries) (above_without number (entries_of links) c.loop-number.invariant.above);
      within = omega arith;
      next = c.clear.ensures.next ∙ c.loop-number.invariant.next;
      rows = ap (λ es. stored_from c.args.low (rows_of es)) c.clear.ensures.entries
          ∙ from_without c.args.low number (row_at links) (sym c.is_standing_from.ensures ∙ c.if-is_standing_from.false) links.next
          ∙ c.loop-number.invariant.rows;
      room = omega (arith, room, more);
    }

pub returns-clause-rows : goal.returns-clause-rows
returns-clause-rows c =
    let links = c.loop-number.links in
    let done = c.loop-number-test.false in
    let same = c.loop-number.invariant.next in
    none_left c.args.low c.loop-number.number links.next (node_at links) (newest_at links) c.loop-number.invariant.linked
    (omega (arith, done, same)) c.loop-number.invariant.above
    ∙ c.loop-number.invariant.rows
