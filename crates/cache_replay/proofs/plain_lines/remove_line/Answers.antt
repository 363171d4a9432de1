use Rattle.std.specs.Prelude.{None}
use Rattle.script_grammar.specs.declared.step.Step.TheVariants as step
use Rattle.cache_replay.specs.Session.{state_in_part}
use Rattle.cache_replay.proofs.OnSession.{remove_without, plain_line}
use Rattle.cache_replay.proofs.plain_lines.remove_line.Goals as goal

pub returns-in-Some : goal.returns-in-Some
returns-in-Some g c = record {
  line = plain_line (record { rest = g.met.S.Calls.at_rest; vectors = g.met.S.Calls.vectors_listed; recorded = g.met.S.Calls.recorded }) c.args.session.now
      c.in-Some.part c.remove_from.new.part c.in-Some.is c.requires.session None None (step.Remove c.args.key)
      (remove_without (state_in_part c.in-Some.part) c.args.key) c.remove_from.result c.remove_from.ensures.line;
}
