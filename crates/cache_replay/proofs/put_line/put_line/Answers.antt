use Rattle.std.specs.Prelude.{Some, None}
use Rattle.script_grammar.specs.declared.step.Step.TheVariants as step
use Rattle.cache_replay.specs.Session.{state_in_part}
use Rattle.cache_replay.proofs.OnPart.{active}
use Rattle.cache_replay.proofs.OnSession.{put_without, plain_line}
use Rattle.cache_replay.proofs.put_line.put_line.Goals as goal

pub returns-in-Some : goal.returns-in-Some
returns-in-Some g c = record {
  line = plain_line (record { rest = g.met.S.Calls.at_rest; vectors = g.met.S.Calls.vectors_listed; recorded = g.met.S.Calls.recorded }) c.args.session.now
      c.in-Some.part c.put_in.new.part c.in-Some.is c.requires.session (Some (state_in_part c.in-Some.part).next_put) None
      (step.Put c.args.key c.args.body.now c.args.request c.args.response)
      (put_without c.in-Some.part c.args.key c.args.body.now c.args.request c.args.response
      (active c.args.session.now c.in-Some.part c.in-Some.is c.requires.session).part_is) c.put_in.result c.put_in.ensures.line;
}
