use Rattle.std.proofs.Common.{rules, ◌≡◌, sym, ◌∙◌, length}
use Rattle.device_opening.proofs.Keeping.{all_with, found_more, found_same}
use Rattle.device_opening.proofs.kept.with_measures.Goals as goal

pub loop-row-preserved-in-Continue-1 : goal.loop-row-preserved-in-Continue-1
loop-row-preserved-in-Continue-1 c = λ all has apart.
    found_more all apart c.in-Some.row c.loop-row.left.items c.pop.new.self.items c.in-Some.ensures.items c.loop-row.found c.add.new.found _ c.in_ok-add.ensures
    (sym c.if-lists_measured.true ∙ c.lists_measured.ensures all has) (c.loop-row.invariant all has apart)

pub loop-row-preserved-else-lists_measured : goal.loop-row-preserved-else-lists_measured
loop-row-preserved-else-lists_measured c = λ all has apart.
    found_same all apart c.in-Some.row c.loop-row.left.items c.pop.new.self.items c.in-Some.ensures.items c.loop-row.found _
    (sym c.if-lists_measured.false ∙ c.lists_measured.ensures all has) (c.loop-row.invariant all has apart)

pub loop-row-preserved : goal.loop-row-preserved
loop-row-preserved c = λ all has apart.
    found_same all apart c.in-Some.row c.loop-row.left.items c.pop.new.self.items c.in-Some.ensures.items c.loop-row.found _
    (sym c.if-lists_measured.false ∙ c.lists_measured.ensures all has) (c.loop-row.invariant all has apart)

pub returns : goal.returns
returns c = λ all has apart.
    let none : length c.loop-row.left.items ≡ 0 = search rules in
    all_with all c.loop-row.found c.loop-row.left.items _ none (c.loop-row.invariant all has apart)
