use Rattle.script_grammar.specs.declared.step.Step.TheVariants as step
use Rattle.cache_replay.proofs.OnPart.{actor_line}
use Rattle.cache_replay.proofs.writer_lines.data_line.Goals as goal

pub returns-in-Some : goal.returns-in-Some
returns-in-Some g c = record {
  line = actor_line c.args.session.now c.in-Some.part c.data_in.new.part c.data_in.new.actors c.in-Some.is
      (step.Feed c.args.actor.now c.args.body.now) c.data_in.result tt c.data_in.ensures.line;
}
