use Rattle.std.proofs.Common.{◌+◌, ◌≡◌, ◌∙◌, ap, drop, arith, slice_range}
use Rattle.edge_io.proofs.Ranges.{range_behind}
use Rattle.edge_io.proofs.buffer.LineBuffer.take_line.Goals as goal

pub returns-clause-rest : goal.returns-clause-rest
returns-clause-rest c =
    let i = c.self.inside in
    let place : i.start + c.args.len + 1 ≡ i.start + (c.args.len + 1) = omega arith in
    ap (λ k. slice_range i.bytes.items k i.end) place
    ∙ (range_behind i.bytes.items i.start i.end (c.args.len + 1) ∙ ap (λ shown. drop (c.args.len + 1) shown.rest) c.self.view_is)
