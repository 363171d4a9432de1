use Rattle.script_grammar.specs.declared.step.Step.TheVariants as step
use Rattle.cache_replay.proofs.OnPart.{actor_line}
use Rattle.cache_replay.proofs.writer_lines.open_write_line.Goals as goal

pub returns-in-Some : goal.returns-in-Some
returns-in-Some g c = record {
  line = actor_line c.args.session.now c.in-Some.part c.open_write_in.new.part c.open_write_in.new.actors c.in-Some.is
      (step.OpenWrite c.args.actor.now c.args.key c.args.pin c.args.request c.args.response) c.open_write_in.result tt c.open_write_in.ensures.line;
}
