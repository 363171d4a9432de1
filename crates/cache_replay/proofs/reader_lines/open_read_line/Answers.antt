use Rattle.script_grammar.specs.declared.step.Step.TheVariants as step
use Rattle.cache_replay.proofs.OnPart.{actor_line}
use Rattle.cache_replay.proofs.reader_lines.open_read_line.Goals as goal

pub returns-in-Some : goal.returns-in-Some
returns-in-Some g c = record {
  line = actor_line c.args.session.now c.in-Some.part c.open_reader.new.part c.open_reader.new.actors c.in-Some.is
      (step.OpenRead c.args.actor.now c.args.key c.args.request) c.open_reader.result tt c.open_reader.ensures.line;
}
