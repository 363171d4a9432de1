use Rattle.script_grammar.specs.declared.step.Step.TheVariants as step
use Rattle.cache_replay.proofs.OnPart.{actor_line}
use Rattle.cache_replay.proofs.writer_lines.close_line.Goals as goal

pub returns-in-Some : goal.returns-in-Some
returns-in-Some g c = record {
  line = actor_line c.args.session.now c.in-Some.part c.close_in.new.part c.close_in.new.actors c.in-Some.is
      (step.Close c.args.actor.now) c.close_in.result tt c.close_in.ensures.line;
}
