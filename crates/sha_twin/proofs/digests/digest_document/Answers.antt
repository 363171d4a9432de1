use Rattle.std.proofs.Common.{◌≡◌, ℕ, ◌+◌, ◌*◌, ◌∙◌, ap, arith, drop, length, length-drop, List, refl, take}
use Rattle.std.proofs.lemmas.List.{drop-drop}
use Rattle.sha2.specs.Sha256.{compress, hash_after, initial_hash_256}
use Rattle.sha_words.proofs.Ends.{one_block_more}
use Rattle.sha_twin.proofs.digests.digest_document.Goals as goal

-- one block more of all, whose first two blocks stand before
one_more_behind_two : (start m rest h x next : List ℕ) (i : ℕ) → rest ≡ drop 128 m → h ≡ hash_after start m (i + 2)
    → x ≡ take 64 (drop (i * 64) rest) → next ≡ compress h x → next ≡ hash_after start m (i + 1 + 2)
one_more_behind_two start m rest h x next i rest_is before block after =
    let same : drop (i * 64) rest ≡ drop ((i + 2) * 64) m =
    rw rest_is (drop-drop (i * 64) 128 m ∙ ap (λ (k : ℕ). drop k m) (omega arith)) in
    one_block_more start m h x next (i + 2) before (block ∙ ap (take 64) same) after ∙ ap (hash_after start m) (omega arith)

pub both-init : goal.both-init
unfolding hash_after
both-init c = record {
  payload = c.side_by_side-states.ensures.first;
  document = c.side_by_side-states.ensures.second ∙ rw (c.compress-2.ensures, c.compress.ensures, c.block_at.ensures.block, c.block_at-2.ensures.block) refl;
}

pub both-preserved : goal.both-preserved
both-preserved c = record {
  payload = one_block_more initial_hash_256 (drop 128 c.args.bytes.now) _ _ _ c.both.i c.both.invariant.payload
      (rw c.behind_two-payload.ensures at c.block_at-in-both.ensures.block) (c.compress_both.ensures 0 (omega arith));
  document = one_more_behind_two initial_hash_256 c.args.bytes.now c.behind_two-payload.result.now _ _ _ c.both.i c.behind_two-payload.ensures
      c.both.invariant.document c.block_at-in-both.ensures.block (c.compress_both.ensures 1 (omega arith));
}

pub digest_from-of_all-requires-clause-done : goal.digest_from-of_all-requires-clause-done
digest_from-of_all-requires-clause-done c = omega (arith, ap length c.behind_two-payload.ensures, length-drop 128 c.args.bytes.now)
