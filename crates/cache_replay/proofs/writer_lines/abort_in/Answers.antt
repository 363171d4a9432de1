use Rattle.std.proofs.Common.{◌∙◌, refl}
use Rattle.cache_replay.specs.WriterLines.{GivesUpLine}
use Rattle.script_grammar.specs.declared.step.Step.TheVariants as step
use Rattle.cache_replay.proofs.ActorLines.{unnamed_line}
use Rattle.cache_replay.proofs.ActorWriters.{writer_answers, writer_idles}
use Rattle.cache_replay.proofs.writer_lines.abort_in.Goals as goal

pub returns-in-Some : goal.returns-in-Some
returns-in-Some g c = record {
  line = writer_answers c.args.now GivesUpLine tt c.args.part.now _ c.args.actors.now c.number.new.self c.take_writer.new.actors c.set_back.new.actors c.args.actor.now c.in-Ok.number
      c.in-Some.writer
      c.give_up-outcome.result.left c.give_up-outcome.result.answer c.set_back.result c.in-Ok.ensures.number c.number.ensures.slots
      (c.set_back.ensures.names ∙ (c.in-Some.ensures.names ∙ c.in-Ok.ensures.names)) c.requires.active c.in-Some.ensures.takes c.set_back.ensures.slots refl
      (record { rest = g.met.S.Calls.at_rest; vectors = g.met.S.Calls.vectors_listed; recorded = g.met.S.Calls.recorded })
      c.give_up-outcome.ensures.leaves c.give_up-outcome.ensures.stands
      (c.give_up-outcome.ensures.does c.args.now) c.set_back.ensures.said c.set_back.ensures.stop;
}

pub returns-in-None : goal.returns-in-None
returns-in-None g c = record {
  line = writer_idles c.args.now GivesUpLine tt c.args.part.now c.args.actors.now c.number.new.self c.take_writer.new.actors c.args.actor.now c.in-Ok.number c.idle.result
      c.idle.ensures
      c.in-Ok.ensures.number c.number.ensures.slots (c.in-None.ensures.names ∙ c.in-Ok.ensures.names) c.requires.active c.in-None.ensures.takes;
}

pub returns-in-Err : goal.returns-in-Err
returns-in-Err g c = record {
  line = unnamed_line c.args.now (step.Abort c.args.actor.now) c.args.part.now c.args.actors.now c.number.new.self _ refl c.requires.active c.in-Err.ensures.err;
}
