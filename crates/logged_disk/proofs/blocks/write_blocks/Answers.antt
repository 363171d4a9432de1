use Rattle.std.proofs.Common.{◌≡◌, ◌+◌, ◌-◌, ◌*◌, ◌∙◌, ap, take, drop, arith}
use Rattle.logged_disk.specs.Blocks.{written_image, over_in}
use Rattle.logged_disk.proofs.Writing.{none_put, put_more, over_more}
use Rattle.logged_disk.proofs.blocks.write_blocks.Goals as goal

pub loop-k-init : goal.loop-k-init
loop-k-init c = none_put c.args.written.now c.args.pending.now c.args.first c.args.bytes.now c.requires.stored

pub loop-k-preserved : goal.loop-k-preserved
loop-k-preserved c =
    let k = c.loop-k.k in
    let so_far = c.loop-k.invariant in
    let step = c.write_block.ensures in
    let size : k * 512 + 512 - k * 512 ≡ 512 = omega arith in
    let front : k * 512 ≡ 512 * k = omega arith in
    let piece = ap (λ n. take n (drop (k * 512) c.args.bytes.now)) size ∙ ap (λ n. take 512 (drop n c.args.bytes.now)) front in
    record {
      seen = put_more c.args.first k c.args.bytes.now _ (written_image c.args.written.now) (written_image c.loop-k.written) (written_image c.write_block.new.written) so_far.seen step.seen piece;
      kept = λ j. step.kept j ∙ so_far.kept j;
      over = over_more c.args.first k (over_in c.args.pending.now) (over_in c.loop-k.pending) (over_in c.write_block.new.pending) so_far.over step.over;
      stored = step.stored;
      room = omega arith;
      room_before = omega arith;
    }
