use Rattle.std.proofs.Common.{◌-◌, ◌*◌, ◌%◌, ◌∙◌, length, arith, refl}
use Rattle.sha_words.proofs.Ends.{tail_is}
use Rattle.sha_words.proofs.padding.last_blocks.Goals as goal

pub returns : goal.returns
returns c =
    let m = c.args.message.now in
    let end = 64 * c.last_count-end.result in
    tail_is m c.rest_of-rest.result.now c.with_zeros-out.result c.copy_from_slice.new.self (length m % 64) (end - (end - 8)) (end - 8) refl
    c.rest_of-rest.ensures.rest c.rest_of-rest.ensures.size c.with_zeros-out.ensures (c.copy_from_slice.ensures.after ∙ c.to_be_bytes.ensures) (omega arith)
