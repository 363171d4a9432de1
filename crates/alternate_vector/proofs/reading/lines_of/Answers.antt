use Rattle.std.proofs.Common.{◌≡◌, ◌+◌, ◌++◌, ◌∷◌, [], length, ap, ◌∙◌, arith, length-append}
use Rattle.std.proofs.lemmas.List.{map_push}
use Rattle.std.proofs.lemmas.Result.{err_from_is_err_and}
use Rattle.alternate_vector.specs.Field.{IsKept}
use Rattle.alternate_vector.specs.Lines.{field_of, fields_of}
use Rattle.alternate_vector.specs.Reading.{fields_from, last_name}
use Rattle.alternate_vector.proofs.Loops.{lines_go_on, lines_end, lines_done, each_push, rising_push}
use Rattle.alternate_vector.proofs.reading.lines_of.Goals as goal

pub returns-in_err-line-clause-lines : goal.returns-in_err-line-clause-lines
returns-in_err-line-clause-lines c =
    let p = err_from_is_err_and c.from_residual.result c.from_residual.ensures.1 in
    let before = c.last_name.ensures ∙ ap (λ ls. last_name (fields_of ls)) c.deref.ensures.value in
    let failed = rw before at c.in_err-line.ensures.field in
    rw (p.1, p.2) (lines_end c.in_err-line.field-0.0 (fields_of c.loop.lines.items) c.args.count c.loop.counter c.loop.rest.now (fields_from c.args.count [] c.args.bytes.now) c.loop-test.true failed c.loop.invariant.0)

pub loop-preserved : goal.loop-preserved
loop-preserved c =
    let front = fields_of c.loop.lines.items in
    let f = field_of c.in_ok-line.line in
    let before = c.last_name.ensures ∙ ap (λ ls. last_name (fields_of ls)) c.deref.ensures.value in
    let read = rw before at c.in_ok-line.ensures.field in
    let order = rw before at c.in_ok-line.ensures.order in
    let pushed : fields_of c.push.new.self.items ≡ front ++ f ∷ [] = ap fields_of c.in_ok-push.ensures.items ∙ map_push field_of c.loop.lines.items c.in_ok-line.line in
    let count : length (front ++ f ∷ []) ≡ c.loop.counter + 1 = length-append front (f ∷ []) ∙ omega (arith, c.loop.invariant.1) in
    rw pushed (
      lines_go_on front c.args.count c.loop.counter c.loop.rest.now f c.in_ok-line.after.now (fields_from c.args.count [] c.args.bytes.now) c.loop-test.true read c.loop.invariant.0,
      count,
      each_push IsKept front f c.loop.invariant.2 c.in_ok-line.ensures.kept,
      rising_push front f c.loop.invariant.3 order,
    )

pub returns-clause-lines : goal.returns-clause-lines
returns-clause-lines c = lines_done (fields_of c.loop.lines.items) c.args.count c.loop.counter c.loop.rest.now (fields_from c.args.count [] c.args.bytes.now) c.loop-test.false c.loop.invariant.0
