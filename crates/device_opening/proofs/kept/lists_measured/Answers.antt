use Rattle.std.proofs.Common.{◌≡◌, ◌<◌, ◌≤◌, true, false, length, sym, ap, ◌∙◌, arith}
use Rattle.alternate_vector.specs.Alternates.{Stored, stored_of}
use Rattle.reopening.specs.ByName.{lists_measured, rows_measured}
use Rattle.reopening.proofs.Turns.{all_goes_on, all_stops}
use Rattle.device_opening.proofs.Keeping.{all_taken}
use Rattle.device_opening.proofs.kept.lists_measured.Goals as goal

pub returns-then-not-table_is_measured : goal.returns-then-not-table_is_measured
returns-then-not-table_is_measured c = λ all has.
    let first = c.args.row.now.id.first in
    let x = stored_of c.get.result.now in
    let vector = c.in-Some.vector in
    let within : c.loop-i.i < length vector = grind (arith, c.loop-i-test.true, c.len-i-end.ensures.len) in
    let flag : c.table_is_measured.result ≡ false = grind (arith, c.if-not-table_is_measured.ensures) in
    let fails : rows_measured all first x.put 1 x.table ≡ false = sym (c.table_is_measured.ensures all has) ∙ flag in
    sym (ap (lists_measured all first) c.in-Some.is ∙ all_stops (λ (s : Stored). rows_measured all first s.put 1 s.table) vector c.loop-i.i x within c.get.ensures fails)

pub loop-i-preserved : goal.loop-i-preserved
loop-i-preserved c = λ all has.
    let first = c.args.row.now.id.first in
    let x = stored_of c.get.result.now in
    let vector = c.in-Some.vector in
    let within : c.loop-i.i < length vector = grind (arith, c.loop-i-test.true, c.len-i-end.ensures.len) in
    let flag : c.table_is_measured.result ≡ true = grind (arith, c.if-not-table_is_measured.ensures) in
    let passes : rows_measured all first x.put 1 x.table ≡ true = sym (c.table_is_measured.ensures all has) ∙ flag in
    all_goes_on (λ (s : Stored). rows_measured all first s.put 1 s.table) vector c.loop-i.i x within c.get.ensures (c.loop-i.invariant all has) passes

pub returns : goal.returns
returns c = λ all has.
    let first = c.args.row.now.id.first in
    let vector = c.in-Some.vector in
    let end : length vector ≤ c.loop-i.i = grind (arith, c.loop-i-test.false, c.len-i-end.ensures.len) in
    sym (ap (lists_measured all first) c.in-Some.is ∙ all_taken (λ (s : Stored). rows_measured all first s.put 1 s.table) vector c.loop-i.i end (c.loop-i.invariant all has))
