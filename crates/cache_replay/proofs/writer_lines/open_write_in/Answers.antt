use Rattle.std.proofs.Common.{◌∙◌, refl, sym}
use Rattle.script_grammar.specs.declared.step.Step.TheVariants as step
use Rattle.cache_replay.proofs.ActorLines.{unnamed_line}
use Rattle.cache_replay.proofs.ActorWriters.{open_answers, open_busy}
use Rattle.cache_replay.proofs.writer_lines.open_write_in.Goals as goal

pub returns-in-Some : goal.returns-in-Some
returns-in-Some g c = record {
  line = open_busy c.args.now c.args.part.now c.args.actors.now c.number.new.self c.args.actor.now c.args.key c.args.pin c.args.request c.args.response c.in-Ok.number
      c.in-Some.field-0.now c.busy.result c.busy.ensures c.in-Ok.ensures.number c.number.ensures.slots c.in-Ok.ensures.names c.requires.active (sym c.in-Some.ensures);
}

pub returns-in-None : goal.returns-in-None
returns-in-None g c = record {
  line = open_answers c.args.now c.args.part.now _ c.args.actors.now c.number.new.self c.set_back.new.actors c.args.actor.now c.args.key c.args.pin c.args.request c.args.response
      c.in-Ok.number
      c.begin-outcome.result.left c.begin-outcome.result.answer c.set_back.result c.in-Ok.ensures.number c.number.ensures.slots
      (c.set_back.ensures.names ∙ c.in-Ok.ensures.names) c.requires.active (sym c.in-None.ensures) c.set_back.ensures.slots refl
      (record { rest = g.met.S.Calls.at_rest; vectors = g.met.S.Calls.vectors_listed; recorded = g.met.S.Calls.recorded })
      c.begin-outcome.ensures.leaves c.begin-outcome.ensures.stands
      c.begin-outcome.ensures.does c.set_back.ensures.said c.set_back.ensures.stop;
}

pub returns-in-Err : goal.returns-in-Err
returns-in-Err g c = record {
  line = unnamed_line c.args.now (step.OpenWrite c.args.actor.now c.args.key c.args.pin c.args.request c.args.response) c.args.part.now c.args.actors.now c.number.new.self _ refl c.requires.active c.in-Err.ensures.err;
}
