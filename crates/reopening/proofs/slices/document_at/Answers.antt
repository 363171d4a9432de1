use Rattle.std.proofs.Common.{◌≡◌, ◌-◌, ap, ◌∙◌}
use Rattle.std.specs.Prelude.{min}
use Rattle.device_log.proofs.Spans.{span_one}
use Rattle.tape_base.specs.Blocks.{blocks_of}
use Rattle.stripe_header.specs.Layout.{block_of_place}
use Rattle.doc_header.specs.Reading.{length_of}
use Rattle.reopening.specs.Slices.{image_of}
use Rattle.reopening.proofs.Slicing.{document_spans}
use Rattle.reopening.proofs.slices.document_at.Goals as goal

pub returns-clause-bytes : goal.returns-clause-bytes
returns-clause-bytes c =
    let a = c.args.area.now in
    let image = image_of c.args.image.now in
    let place = c.args.place in
    let first : c.blocks_at.result.now ≡ image (block_of_place a place) = c.blocks_at.ensures.blocks ∙ (span_one image c.block_of-at.result ∙ ap image c.block_of-at.ensures.value) in
    let told : c.blocks_of_length-told.result ≡ blocks_of (length_of (image (block_of_place a place))) = c.blocks_of_length-told.ensures ∙ ap blocks_of (c.length_told.ensures ∙ ap length_of first) in
    c.blocks_at-2.ensures.blocks
    ∙ document_spans a image place c.block_of-at.result c.min.result c.block_of-at.ensures.value
    (c.min.ensures
    ∙ (ap (λ t. min t (a.geometry.content - c.slot.result)) told
    ∙ ap (λ s. min (blocks_of (length_of (image (block_of_place a place)))) (a.geometry.content - s)) c.slot.ensures.value))
