use Rattle.std.specs.Prelude.{string_bytes}
use Rattle.inspections.specs.Lines.{nothing_line}
use Rattle.run_script.proofs.Halts.{grows_more, note_grows, took_piece, went_out}
use Rattle.run_script.proofs.inspect.print_lines.Goals as goal

pub returns-in_default-clause-grows : goal.returns-in_default-clause-grows
returns-in_default-clause-grows g c = note_grows _ _ _ c.write_all.result c.write_all.ensures

pub returns-then-said-clause-out : goal.returns-then-said-clause-out
returns-then-said-clause-out g c = (c.if-said.true, took_piece _ _ (string_bytes c.args.said.now.text) (rw c.as_bytes.ensures.value at c.in-Ok.ensures))

pub returns-then-said-clause-grows : goal.returns-then-said-clause-grows
returns-then-said-clause-grows g c = note_grows _ _ _ c.write_all.result c.write_all.ensures

pub returns-clause-out : goal.returns-clause-out
returns-clause-out g c =
    let old = g.K.Sink.writes c.args.sink.now in
    let mid = g.K.Sink.writes c.write_all.new.self in
    let new = g.K.Sink.writes c.send.new.sink in
    let text = string_bytes c.args.said.now.text in
    (c.if-said.false, went_out old mid new text nothing_line (took_piece old mid text (rw c.as_bytes.ensures.value at c.in-Ok.ensures)) (rw c.nothing_text.ensures at c.send.ensures.out))

pub returns-clause-grows : goal.returns-clause-grows
returns-clause-grows g c = grows_more _ _ _ (note_grows _ _ _ c.write_all.result c.write_all.ensures) c.send.ensures.grows
