use Rattle.std.proofs.Common.{ap, ◌∙◌}
use Rattle.stripe_header.specs.Spelling.{numbers_of, span_bytes}
use Rattle.stripe_header.proofs.SpanLaws.{written}
use Rattle.stripe_header.proofs.spans.write_span.Goals as goal

pub returns-clause-span : goal.returns-clause-span
returns-clause-span c =
    let blocks = ap (span_bytes 2 (numbers_of c.args.area.now.geometry)) c.stripe_blocks.ensures in
    written c.args.area.now _ (c.put_span.ensures.bytes ∙ blocks)
