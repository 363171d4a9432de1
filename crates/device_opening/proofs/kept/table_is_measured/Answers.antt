use Rattle.std.proofs.Common.{◌≡◌, ◌+◌, ◌-◌, true, false, slice_get, Some, sym, ap, ◌∙◌, arith}
use Rattle.fragment_table.specs.Table.{made_row}
use Rattle.device_opening.proofs.Keeping.{table_goes_on, table_stops}
use Rattle.device_opening.proofs.kept.table_is_measured.Goals as goal

pub returns-then-not-is_measured : goal.returns-then-not-is_measured
returns-then-not-is_measured c = λ all has.
    let i = c.loop-index.index in
    let table = c.args.alternate.now.table.rows in
    let row = made_row c.row-length.result.0 c.row-length.result.1 in
    let at : i ≡ i + 1 - 1 = omega arith in
    let there : slice_get table i ≡ Some row = ap (slice_get table) at ∙ c.row-length.ensures in
    let flag : c.is_measured.result ≡ false = grind (arith, c.if-not-is_measured.ensures) in
    table_stops all c.args.first c.args.alternate.now.put table i row there (sym flag ∙ c.is_measured.ensures all has) (c.loop-index.invariant.1 all has)

pub loop-index-preserved : goal.loop-index-preserved
loop-index-preserved c =
    let i = c.loop-index.index in
    let table = c.args.alternate.now.table.rows in
    let row = made_row c.row-length.result.0 c.row-length.result.1 in
    let at : i ≡ i + 1 - 1 = omega arith in
    let there : slice_get table i ≡ Some row = ap (slice_get table) at ∙ c.row-length.ensures in
    let flag : c.is_measured.result ≡ true = grind (arith, c.if-not-is_measured.ensures) in
    let less = c.loop-index-test.true in (
      omega (arith, less),
      λ all has. table_goes_on all c.args.first c.args.alternate.now.put table i row there (sym flag ∙ c.is_measured.ensures all has) (c.loop-index.invariant.1 all has),
    )
