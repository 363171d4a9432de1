use Rattle.std.proofs.Common.{◌∙◌, ◌++◌, ◌≡◌, List, ℕ, [], ap, subst}
use Rattle.script_grammar.specs.Texts.{answer_line}
use Rattle.run_promise.specs.Story.{SendsFront, SinkTook}
use Rattle.run_script.proofs.Halts.{note_grows, sends_piece, took_piece}
use Rattle.run_script.proofs.run.write_answer.Goals as goal

pub returns-in-Ok-write_all-clause-written : goal.returns-in-Ok-write_all-clause-written
returns-in-Ok-write_all-clause-written g c =
    let old = g.K.Sink.writes c.args.sink.now in
    let new = g.K.Sink.writes c.write_all.new.self in
    let piece = c.deref.result.now in
    let whole : piece ≡ answer_line c.args.said.now = c.deref.ensures.value ∙ (c.in-Ok.ensures.ok ∙ ap (λ l. l ++ answer_line c.args.said.now) c.new-text.ensures.items) in
    subst (λ (p : List ℕ). SinkTook old new p) whole (took_piece old new piece c.in-Ok-write_all.ensures)

pub returns-in-Ok-write_all-clause-grows : goal.returns-in-Ok-write_all-clause-grows
returns-in-Ok-write_all-clause-grows g c = note_grows _ _ _ c.write_all.result c.write_all.ensures

pub returns-clause-failed : goal.returns-clause-failed
returns-clause-failed g c =
    let old = g.K.Sink.writes c.args.sink.now in
    let new = g.K.Sink.writes c.write_all.new.self in
    let piece = c.deref.result.now in
    let whole : piece ≡ answer_line c.args.said.now = c.deref.ensures.value ∙ (c.in-Ok.ensures.ok ∙ ap (λ l. l ++ answer_line c.args.said.now) c.new-text.ensures.items) in
    subst (λ (p : List ℕ). SendsFront old new [] p) whole (sends_piece old new piece c.in-Err.ensures)

pub returns-clause-grows : goal.returns-clause-grows
returns-clause-grows g c = note_grows _ _ _ c.write_all.result c.write_all.ensures
