use Rattle.std.proofs.Common.{◌∙◌, ap}
use Rattle.script_grammar.specs.declared.step.Step.TheVariants as step
use Rattle.cache_replay.specs.Session.{slots_of}
use Rattle.cache_replay.specs.ReaderLines.{reader_held}
use Rattle.cache_replay.proofs.ActorLines.{refilled, seen_same, seen_set, unnamed_line}
use Rattle.cache_replay.proofs.ActorReads.{next_idle, next_line}
use Rattle.cache_replay.proofs.ReaderLines.{not_taken, took}
use Rattle.cache_replay.proofs.reader_lines.next.Goals as goal

pub returns-in-Some : goal.returns-in-Some
returns-in-Some g c =
    let same = seen_same g.S.Calls c.args.actors.now c.number.new.self c.in_ok-number.ensures.slots in
    record {
      line = next_line (record { rest = g.met.S.Calls.at_rest; vectors = g.met.S.Calls.vectors_listed; recorded = g.met.S.Calls.recorded }) c.args.part.now _ c.args.actors.now c.take_reader.new.actors c.set.new.self c.args.actor.now c.in_ok-number.number
          (g.S.Calls.reading c.in-Some.reader) (g.S.Calls.reading c.read_on-said.new.reader)
          c.in_ok-number.ensures.number (c.set.ensures.names ∙ (c.in-Some.ensures.names ∙ c.in_ok-number.ensures.names))
          (took (slots_of g.S.Calls c.args.actors.now) (slots_of g.S.Calls c.number.new.self) (slots_of g.S.Calls c.take_reader.new.actors) c.in_ok-number.number
          (g.S.Calls.reading c.in-Some.reader) same c.in-Some.ensures.slots c.in-Some.ensures.reader)
          (seen_set g.S.Calls c.take_reader.new.actors c.set.new.self c.in_ok-number.number _ c.set.ensures.slots)
          c.requires.active c.read_on-said.ensures.leaves (g.met.S.Calls.at_rest _ c.read_on-said.ensures.leaves.goes.holds_then)
          (refilled c.args.part.now.page c.read_on-said.new.page) c.read_on-said.result c.read_on-said.ensures.reads c.args.now c.read_on-said.ensures.stop;
    }

pub returns-in-None : goal.returns-in-None
returns-in-None g c =
    let same = seen_same g.S.Calls c.args.actors.now c.number.new.self c.in_ok-number.ensures.slots in
    record {
      line = next_idle c.args.now c.args.part.now c.args.actors.now c.take_reader.new.actors c.args.actor.now c.in_ok-number.number c.refused.result c.refused.ensures
          c.in_ok-number.ensures.number (c.in-None.ensures.names ∙ c.in_ok-number.ensures.names)
          (not_taken (slots_of g.S.Calls c.args.actors.now) (slots_of g.S.Calls c.number.new.self) (slots_of g.S.Calls c.take_reader.new.actors) c.in_ok-number.number
          same c.in-None.ensures.slots c.in-None.ensures.reader)
          (c.in-None.ensures.reader ∙ ap reader_held (same c.in_ok-number.number)) c.requires.active;
    }

pub returns-in_err-number : goal.returns-in_err-number
returns-in_err-number g c = record {
  line = unnamed_line c.args.now (step.Next c.args.actor.now) c.args.part.now c.args.actors.now c.number.new.self c.from_residual.result c.from_residual.ensures.1 c.requires.active
      c.in_err-number.ensures.err;
}
