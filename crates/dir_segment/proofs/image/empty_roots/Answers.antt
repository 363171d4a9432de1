use Rattle.std.proofs.Common.{◌≡◌, ◌+◌, ◌≤◌, cond, eqb, true, false, arith}
use Rattle.std.proofs.lemmas.Bool.{eq-eqb, ne_eqb}
use Rattle.dir_segment.specs.Image.{empty_roots}
use Rattle.dir_segment.proofs.Marking.{roots_on}
use Rattle.dir_segment.proofs.image.empty_roots.Goals as goal
use Rattle.dir_segment.proofs.image.empty_roots.Goals.{then-get-eq0, else-get-eq0}

pub loop-bucket-preserved : goal.loop-bucket-preserved
loop-bucket-preserved c =
    let slots = c.args.slots.now in
    let i = c.loop-bucket.bucket in
    let step : c.if-get-eq0.count ≡ c.loop-bucket.count + cond (eqb c.get.result.offset 0) 1 0 =
    elim c.if-get-eq0.branch [
      | then-get-eq0 w ↦ let e : eqb c.get.result.offset 0 ≡ true = eq-eqb c.get.result.offset 0 w.if-get-eq0.true in rw e w.count-is
      | else-get-eq0 w ↦ let e : eqb c.get.result.offset 0 ≡ false = ne_eqb c.get.result.offset 0 w.if-get-eq0.false in rw e (omega (arith, w.count-is))
    ] in
    let few : c.if-get-eq0.count ≤ i + 1 = elim c.if-get-eq0.branch [ then-get-eq0 w ↦ omega (arith, w.count-is, c.loop-bucket.invariant.few) | else-get-eq0 w ↦ omega (arith, w.count-is, c.loop-bucket.invariant.few) ] in
    record {
      few = few;
      counted = roots_on slots c.args.buckets i c.loop-bucket.count c.if-get-eq0.count c.get.result (empty_roots slots 0 c.args.buckets) c.loop-bucket-test.true c.get.ensures.entry step c.loop-bucket.invariant.counted;
    }
