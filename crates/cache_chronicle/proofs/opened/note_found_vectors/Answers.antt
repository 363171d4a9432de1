use Rattle.std.proofs.Common.{drop, subst, sym, arith}
use Rattle.std.specs.List.{flat_map}
use Rattle.cache_model.specs.State.{vector_of_found}
use Rattle.cache_chronicle.specs.Tables.{HasVectors}
use Rattle.cache_chronicle.proofs.Behind.{drop_front}
use Rattle.cache_chronicle.proofs.opened.note_found_vectors.Goals as goal

pub loop-left-preserved : goal.loop-left-preserved
loop-left-preserved c =
    let list = c.args.list.now in
    let front = drop_front c.loop-left.left list c.get.result.now c.loop-left-test.true c.get.ensures in
    record {
      within = omega arith;
      has = subst (λ rows. HasVectors c.note_first_vector.new.vectors (flat_map vector_of_found rows)) (sym front) (c.note_first_vector.ensures.has (flat_map vector_of_found (drop c.loop-left.left list)) c.loop-left.invariant.has);
      spare = omega (arith, c.note_first_vector.ensures.spare, c.loop-left.invariant.spare, c.loop-left-test.true);
    }
