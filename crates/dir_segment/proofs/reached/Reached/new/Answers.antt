use Rattle.std.proofs.Common.{◌≡◌, ◌++◌, ◌∷◌, [], List, Bool, false, length, ap, sym, ◌∙◌, arith}
use Rattle.dir_segment.specs.Image.{marked}
use Rattle.dir_segment.proofs.Marking.{unmarked_push, marked_unmarked, length-unmarked}
use Rattle.dir_segment.proofs.reached.Reached.new.Goals as goal

pub loop-preserved : goal.loop-preserved
loop-preserved c = c.in_ok-push.ensures.items ∙ ap (λ (q : List Bool). q ++ false ∷ []) c.loop.invariant ∙ unmarked_push c.loop.counter

pub invariant_of-result : goal.invariant_of-result
invariant_of-result c =
    let long : length c.loop.marks.items ≡ c.loop.counter = ap (λ (q : List Bool). length q) c.loop.invariant ∙ length-unmarked c.loop.counter in
    (sym (ap marked c.loop.invariant ∙ marked_unmarked c.loop.counter), omega (arith, long, c.requires.few))
