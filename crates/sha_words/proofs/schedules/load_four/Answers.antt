use Rattle.std.proofs.Common.{◌≡◌, ℕ, ◌<◌, ◌+◌, ◌*◌, ◌∙◌, ap, arith, slice_index, sym}
use Rattle.sha2.proofs.Schedule256.{slice_index-schedule_first}
use Rattle.sha2.specs.Sha256.{schedule, word_at}
use Rattle.sha_words.proofs.Lanes.{each_of_four}
use Rattle.sha_words.proofs.schedules.load_four.Goals as goal

pub returns : goal.returns
returns c =
    let block = c.args.block.now in
    let t = c.args.t in
    let word : (j at : ℕ) → t + j < 16 → 4 * (t + j) ≡ at → word_at block at ≡ slice_index (schedule block 48) (t + j) =
    λ j at low e. ap (word_at block) (sym e) ∙ sym (slice_index-schedule_first block 48 (t + j) low) in
    each_of_four _
    (c.load_word-a.ensures ∙ word 0 _ (omega arith) (omega arith))
    (c.load_word-b.ensures ∙ word 1 _ (omega arith) (omega arith))
    (c.load_word-c.ensures ∙ word 2 _ (omega arith) (omega arith))
    (c.load_word-d.ensures ∙ word 3 _ (omega arith) (omega arith))
