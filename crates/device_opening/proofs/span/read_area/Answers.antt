use Rattle.std.proofs.Common.{◌≡◌, length, rules, sym, ◌∙◌}
use Rattle.device_opening.proofs.Spans.{no_block, span_as_read}
use Rattle.device_opening.proofs.span.read_area.Goals as goal

pub returns-then-size-eq0-clause-span : goal.returns-then-size-eq0-clause-span
returns-then-size-eq0-clause-span g c = no_block (g.D.Disk.state c.args.disk.now) (sym c.blocks-size.ensures ∙ c.if-size-eq0.true)

pub returns-clause-span : goal.returns-clause-span
returns-clause-span g c =
    let block = c.read.new.into in
    let long : length block ≡ 512 = search rules in
    span_as_read (g.D.Disk.state c.args.disk.now) (g.D.Disk.state c.read.new.disk) block c.blocks-size.result c.area_in.result (λ is. c.if-size-eq0.false (c.blocks-size.ensures ∙ is)) c.blocks-size.ensures long
    c.area_in.ensures.area c.area_in.ensures.fault c.in_ok-read.ensures.reads
