use Rattle.std.proofs.Common.{ap, ◌∙◌}
use Rattle.device_log.specs.Image.{span}
use Rattle.device_log.proofs.Spans.{span_one}
use Rattle.stripe_header.specs.Layout.{gate_of}
use Rattle.reopening.specs.Slices.{image_of}
use Rattle.reopening.proofs.slices.gate_at.Goals as goal

pub returns : goal.returns
returns c =
    let image = image_of c.args.image.now in
    c.copy_from_slice.ensures.after
    ∙ (c.blocks_at.ensures.blocks
    ∙ (ap (λ at. span image at 1) c.gate.ensures.value
    ∙ span_one image (gate_of c.args.side)))
