use Rattle.std.proofs.Common.{◌≡◌, ◌+◌, ◌/◌, ◌%◌, ◌∙◌, length, ap, arith, List, ℕ}
use Rattle.sha2.specs.Sha256.{digest_bytes, initial_hash_256, padded_message, sha256}
use Rattle.sha_words.proofs.Ends.{blocks_of_padded, one_block_more, one_last_block_more, whole_blocks}
use Rattle.sha_words.proofs.digests.digest_from.Goals as goal

pub whole-preserved : goal.whole-preserved
whole-preserved c =
    one_block_more initial_hash_256 c.args.message.now _ _ _ c.whole.i c.whole.invariant c.block_at.ensures.block c.compress.ensures

pub last-init : goal.last-init
last-init c = whole_blocks initial_hash_256 c.args.message.now _ c.whole.i c.whole.invariant (omega arith)

pub last-preserved : goal.last-preserved
last-preserved c =
    let m = c.args.message.now in
    one_last_block_more initial_hash_256 m c.last_blocks-tail.result _ _ _ ((length m % 64 + 72) / 64) c.last.i
    c.last_blocks-tail.ensures (omega arith) c.last.invariant c.block_at-in-last.ensures.block c.compress-in-last.ensures

pub returns : goal.returns
unfolding sha256
returns c =
    let m = c.args.message.now in
    let done : length m / 64 + c.last.i ≡ length (padded_message m) / 64 = omega (arith, blocks_of_padded m) in
    c.digest_of_state.ensures ∙ ap (λ (h : List ℕ). digest_bytes h 8) (rw done at c.last.invariant)
