use Rattle.std.proofs.Common.{Some, cond, take, sym, ap, ◌∙◌}
use Rattle.alternate_vector.specs.Alternates.{all_stored, chosen, is_match, stored_of}
use Rattle.alternate_vector.proofs.Chosen.{chosen_more}
use Rattle.alternate_vector.proofs.vector.last_match.Goals as goal
use Rattle.alternate_vector.proofs.vector.last_match.Goals.{then-matches, else-matches}

pub loop-i-preserved : goal.loop-i-preserved
loop-i-preserved c =
    let a = c.index-alternates-i.result in
    let found = chosen_more c.args.request.now c.args.alternates.now c.loop-i.i a c.loop-i-test.true in
    let test = c.matches.ensures ∙ ap (λ x. is_match c.args.request.now (stored_of x)) c.index-alternates-i.is in
    elim c.if-matches.branch [
      | then-matches w ↦ w.last-is ∙ ap (λ b. cond b (Some c.loop-i.i) (chosen c.args.request.now (all_stored (take c.loop-i.i c.args.alternates.now)))) (sym w.if-matches.true ∙ test) ∙ sym found
      | else-matches w ↦ w.last-is ∙ c.loop-i.invariant ∙ ap (λ b. cond b (Some c.loop-i.i) (chosen c.args.request.now (all_stored (take c.loop-i.i c.args.alternates.now)))) (sym w.if-matches.false ∙ test) ∙ sym found
    ]
