use Rattle.script_grammar.specs.declared.step.Step.TheVariants as step
use Rattle.cache_replay.proofs.OnPart.{actor_line}
use Rattle.cache_replay.proofs.reader_lines.next_line.Goals as goal

pub returns-in-Some : goal.returns-in-Some
returns-in-Some g c = record {
  line = actor_line c.args.session.now c.in-Some.part c.next.new.part c.next.new.actors c.in-Some.is
      (step.Next c.args.actor.now) c.next.result tt c.next.ensures.line;
}
