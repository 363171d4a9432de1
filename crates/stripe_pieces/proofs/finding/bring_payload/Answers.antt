use Rattle.std.proofs.Common.{◌+◌, ◌≤◌, ◌∙◌, ap, arith, length, take}
use Rattle.piece_answers.proofs.Fronts.{payload_fits, payload_in_front}
use Rattle.stripe_pieces.proofs.finding.bring_payload.Goals as goal

pub copy_within-requires-clause-in_bounds : goal.copy_within-requires-clause-in_bounds
copy_within-requires-clause-in_bounds c =
    let fits : 128 + length c.payload-length.result.now ≤ c.args.size = payload_fits c.args.bytes.now c.payload-length.result.now c.args.size c.payload-length.ensures c.requires.header c.requires.within in
    omega (arith, fits, c.requires.within)

pub copy_within-requires-clause-dest_in_bounds : goal.copy_within-requires-clause-dest_in_bounds
copy_within-requires-clause-dest_in_bounds c =
    let fits : 128 + length c.payload-length.result.now ≤ c.args.size = payload_fits c.args.bytes.now c.payload-length.result.now c.args.size c.payload-length.ensures c.requires.header c.requires.within in
    omega (arith, fits, c.requires.within)

pub overflow_cast-result : goal.overflow_cast-result
overflow_cast-result c =
    let fits : 128 + length c.payload-length.result.now ≤ c.args.size = payload_fits c.args.bytes.now c.payload-length.result.now c.args.size c.payload-length.ensures c.requires.header c.requires.within in
    omega (arith, fits, c.requires.few)

pub returns-clause-front : goal.returns-clause-front
returns-clause-front c = ap (take (length c.payload-length.result.now)) c.copy_within.ensures.after ∙ payload_in_front c.args.bytes.now c.payload-length.result.now c.args.size c.payload-length.ensures c.requires.header c.requires.within
