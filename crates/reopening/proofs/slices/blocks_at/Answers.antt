use Rattle.std.proofs.Common.{◌≡◌, ◌+◌, ◌-◌, ◌*◌, take, drop, ap, sym, ◌∙◌, arith}
use Rattle.reopening.proofs.Slicing.{span_image}
use Rattle.reopening.proofs.slices.blocks_at.Goals as goal

pub returns-clause-blocks : goal.returns-clause-blocks
returns-clause-blocks c =
    let at = c.args.at in
    let n = c.args.count in
    let e : 512 * at + 512 * n - 512 * at ≡ 512 * n = omega arith in
    ap (λ m. take m (drop (512 * at) c.args.image.now)) e ∙ sym (span_image c.args.image.now at n)
