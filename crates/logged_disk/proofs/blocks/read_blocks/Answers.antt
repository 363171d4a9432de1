use Rattle.std.proofs.Common.{◌≡◌, ◌+◌, ◌-◌, ◌*◌, ◌∙◌, ◌++◌, sym, ap, length, length-take, length-drop, take, arith}
use Rattle.std.proofs.lemmas.Slice.{take-put_mid}
use Rattle.device_log.specs.Image.{span}
use Rattle.device_log.proofs.Spans.{span_none, span_push}
use Rattle.logged_disk.specs.Blocks.{written_image}
use Rattle.logged_disk.proofs.blocks.read_blocks.Goals as goal

pub loop-k-init : goal.loop-k-init
loop-k-init c = sym (span_none (written_image c.args.written.now) c.args.first)

pub loop-k-preserved : goal.loop-k-preserved
loop-k-preserved c =
    let k = c.loop-k.k in
    let image = written_image c.args.written.now in
    let new = c.read_block.new.into in
    let part = simp (length-take, length-drop) at (c.read_block.auto.into) in
    let len : length new ≡ 512 = omega (arith, part, c.loop-k.auto.into) in
    let front : k * 512 ≡ 512 * k = omega arith in
    take-put_mid (k * 512) (k * 512 + 512 - k * 512) c.loop-k.into new (512 * (k + 1)) (omega arith) (omega arith)
    ∙ (ap (λ n. take n c.loop-k.into ++ new) front
    ∙ (ap (λ l. l ++ new) c.loop-k.invariant
    ∙ (ap (λ l. span image c.args.first k ++ l) c.read_block.ensures ∙ sym (span_push image c.args.first k))))
