use Rattle.std.proofs.Common.{◌∙◌, ◌+◌, ◌++◌, ◌≡◌, List, ℕ, ap, subst}
use Rattle.script_grammar.specs.Texts.{answer_line}
use Rattle.run_promise.specs.Story.{SinkTook}
use Rattle.run_script.proofs.Halts.{note_grows, took_piece}
use Rattle.work_script.specs.Turns.{turn_head}
use Rattle.work_script.proofs.turns.write_turn.Goals as goal

pub returns-in-Ok-write_all-clause-writes : goal.returns-in-Ok-write_all-clause-writes
returns-in-Ok-write_all-clause-writes g c =
    let old = g.K.Sink.writes c.args.sink.now in
    let new = g.K.Sink.writes c.write_all.new.self in
    let line = turn_head c.args.number (c.args.worker + 1) c.args.job ++ answer_line c.args.said.now in
    let same : turn_head c.args.number (c.from-worker.result + 1) c.args.job ++ answer_line c.args.said.now ≡ line =
    ap (λ (w : ℕ). turn_head c.args.number (w + 1) c.args.job ++ answer_line c.args.said.now) c.from-worker.ensures in
    let whole : c.deref.result.now ≡ line = c.deref.ensures.value ∙ (c.in-Ok.ensures ∙ (ap (λ l. l ++ (turn_head c.args.number (c.from-worker.result + 1) c.args.job ++ answer_line c.args.said.now)) c.new-text.ensures.items ∙ same)) in
    subst (λ (p : List ℕ). SinkTook old new p) whole (took_piece old new c.deref.result.now c.in-Ok-write_all.ensures)

pub returns-in-Ok-write_all-clause-grows : goal.returns-in-Ok-write_all-clause-grows
returns-in-Ok-write_all-clause-grows g c = note_grows _ _ _ c.write_all.result c.write_all.ensures

pub returns-clause-grows : goal.returns-clause-grows
returns-clause-grows g c = note_grows _ _ _ c.write_all.result c.write_all.ensures
