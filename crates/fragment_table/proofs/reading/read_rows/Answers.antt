use Rattle.std.proofs.Common.{◌≡◌, ◌+◌, ◌<◌, ℕ, List, ◌-◌, ◌++◌, ◌∷◌, [], length, ap, sym, ◌∙◌, arith, length-append, length-drop}
use Rattle.fragment_table.specs.Table.{TableRow}
use Rattle.fragment_table.specs.Reading.{rows_in_bytes, row_in_bytes, none_empty}
use Rattle.fragment_table.proofs.Rows.{row_goes_on, empty_found, full_push}
use Rattle.fragment_table.proofs.reading.read_rows.Goals as goal

pub returns-then-length-eq0 : goal.returns-then-length-eq0
returns-then-length-eq0 c = empty_found c.loop.table.rows _ c.args.count c.loop.counter c.loop.rest.now c.loop-test.true c.loop.invariant.0 (sym (ap (λ (r : TableRow). r.length) c.read_row-length.ensures.row) ∙ c.if-length-eq0.true)

pub loop-preserved : goal.loop-preserved
loop-preserved c =
    let front = c.loop.table.rows in
    let rest = c.loop.rest.now in
    let pushed : c.push.new.self.rows ≡ front ++ row_in_bytes rest ∷ [] = c.in_ok-push.ensures.ok ∙ ap (λ (r : TableRow). front ++ r ∷ []) c.read_row-length.ensures.row in
    let length_is : c.read_row-length.result.0 ≡ (row_in_bytes rest).length =
    ap (λ (r : TableRow). r.length) c.read_row-length.ensures.row in
    let some : 0 < (row_in_bytes rest).length = omega (arith, c.if-length-eq0.false, length_is) in
    let after : length c.read_row-length.result.2.now ≡ length rest - 36 = ap length c.read_row-length.ensures.rest ∙ length-drop 36 rest in (
      ap (λ (rs : List TableRow). rs ++ rows_in_bytes (c.args.count - (c.loop.counter + 1)) c.read_row-length.result.2.now) pushed
          ∙ ap (λ (bs : List ℕ). (front ++ row_in_bytes rest ∷ []) ++ rows_in_bytes (c.args.count - (c.loop.counter + 1)) bs) c.read_row-length.ensures.rest
          ∙ row_goes_on front _ c.args.count c.loop.counter rest c.loop-test.true c.loop.invariant.0,
      ap none_empty pushed ∙ full_push front (row_in_bytes rest) c.loop.invariant.1 some,
      ap length pushed ∙ length-append front (row_in_bytes rest ∷ []) ∙ omega (arith, c.loop.invariant.2),
      omega (arith, after, c.loop.invariant.3),
    )
