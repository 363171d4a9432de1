use Rattle.cache_replay.proofs.WriterSteps.{gives_up}
use Rattle.cache_replay.proofs.writer_lines.give_up.Goals as goal

pub returns-in-Ok-clause-does : goal.returns-in-Ok-clause-does
returns-in-Ok-clause-does g c =
    gives_up (g.S.Calls.at c.args.cache.now) (g.S.Calls.at c.abort_write.new.self) (g.S.Calls.written c.args.writer) c.in-Ok.put c.requires.plain
    (g.met.S.Calls.at_rest c.abort_write.new.self c.in-Ok.ensures.keeps.goes_on.holds_then).quiet c.in-Ok.ensures.gives.0 c.in-Ok.ensures.serves
