use Rattle.std.proofs.Common.{None, Some, sym, subst}
use Rattle.script_grammar.specs.declared.answer.StepAnswer.TheVariants as answer
use Rattle.cache_replay.specs.WriterLines.{OpenDoes, OpensLine}
use Rattle.cache_replay.proofs.Openings.{not_opened, opens}
use Rattle.cache_replay.proofs.writer_lines.begin.Goals as goal

pub returns-in-Ok-clause-does : goal.returns-in-Ok-clause-does
returns-in-Ok-clause-does g c =
    let a = g.S.Calls.at c.args.cache.now in
    let b = g.S.Calls.at c.open_write.new.self in
    subst (λ n. OpenDoes a b c.args.actor.0 (OpensLine c.args.key c.args.pin c.args.request c.args.response) (Some (g.S.Calls.written c.in-Ok.writer)) (Some (answer.Writer n)))
    (sym c.put_of-put.ensures)
    (opens a b c.requires.plain (g.met.S.Calls.at_rest c.open_write.new.self c.in-Ok.ensures.keeps.goes_on.holds_then).quiet
    c.args.actor c.args.key c.args.request c.args.response c.args.pin (g.S.Calls.written c.in-Ok.writer) c.in-Ok.ensures.gives.answers c.in-Ok.ensures.serves)

pub returns-in-Err-clause-does : goal.returns-in-Err-clause-does
returns-in-Err-clause-does g c =
    let a = g.S.Calls.at c.args.cache.now in
    let b = g.S.Calls.at c.open_write.new.self in
    subst (OpenDoes a b c.args.actor.0 (OpensLine c.args.key c.args.pin c.args.request c.args.response) None) (sym c.answer_unless_memory.ensures)
    (not_opened a b c.requires.plain (g.met.S.Calls.at_rest c.open_write.new.self c.in-Err.ensures.keeps.goes_on.holds_then).quiet
    c.args.actor c.args.key c.args.request c.args.response c.args.pin c.in-Err.why (g.met.S.Calls.at_rest c.args.cache.now c.requires.holds)
    c.in-Err.ensures.gives.answers.0 c.in-Err.ensures.gives.answers.1 c.in-Err.ensures.serves)
