use Rattle.std.proofs.Common.{◌++◌, take, length, ap, ◌∙◌}
use Rattle.std.specs.Int.{w32, to_le_bytes}
use Rattle.std.specs.List.{flat_map}
use Rattle.alternate_vector.specs.Alternates.{all_stored, stored_of}
use Rattle.alternate_vector.specs.Spelling.{alternate_bytes}
use Rattle.alternate_vector.proofs.Written.{written_more}
use Rattle.alternate_vector.proofs.writing.spelled.Goals as goal

pub loop-alternate-preserved : goal.loop-alternate-preserved
loop-alternate-preserved c =
    let front = to_le_bytes w32 (length c.args.alternates.now) in
    let before = front ++ flat_map alternate_bytes (all_stored (take c.loop-alternate.alternate-index c.args.alternates.now)) in
    c.in_ok-write_alternate.ensures
    ∙ ap (λ bytes. bytes ++ alternate_bytes (stored_of c.alternate-item.result)) c.loop-alternate.invariant
    ∙ ap (λ x. before ++ alternate_bytes (stored_of x)) c.alternate-item.is
    ∙ written_more front c.args.alternates.now c.loop-alternate.alternate-index c.alternate-item.result c.loop-alternate-test.true
