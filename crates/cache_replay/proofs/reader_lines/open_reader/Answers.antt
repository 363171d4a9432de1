use Rattle.std.proofs.Common.{◌∙◌, refl, sym, ap}
use Rattle.std.specs.Prelude.{is_some}
use Rattle.script_grammar.specs.declared.step.Step.TheVariants as step
use Rattle.cache_replay.specs.Session.{slots_of}
use Rattle.cache_replay.specs.ReaderLines.{as_held}
use Rattle.cache_replay.proofs.ActorLines.{changed_from, seen_same, unnamed_line, wanting_line}
use Rattle.cache_replay.proofs.OpenLine.{none_there, open_busy, open_line, seen_opened}
use Rattle.cache_replay.proofs.reader_lines.open_reader.Goals as goal

pub returns-then-has_something : goal.returns-then-has_something
returns-then-has_something g c =
    let same = seen_same g.S.Calls c.args.actors.now c.number.new.self c.in_ok-number.ensures.slots in
    record {
      line = open_busy c.args.now c.args.part.now c.args.actors.now c.number.new.self c.args.actor.now c.args.key c.args.request c.in_ok-number.number c.refused.result
          c.refused.ensures c.in_ok-number.ensures.number c.in_ok-number.ensures.names same
          (ap is_some (sym (same c.in_ok-number.number)) ∙ (sym c.has_something.ensures ∙ c.if-has_something.true)) c.requires.active;
    }

pub returns-in_err-opened : goal.returns-in_err-opened
returns-in_err-opened g c =
    let same = seen_same g.S.Calls c.args.actors.now c.number.new.self c.in_ok-number.ensures.slots in
    record {
      line = wanting_line c.args.now (step.OpenRead c.args.actor.now c.args.key c.args.request) c.args.part.now _ c.args.actors.now c.number.new.self c.args.actor.now
          c.from_residual-in_err-opened.result c.from_residual-in_err-opened.ensures.1 c.requires.active c.in_err-opened.ensures.keeps
          (g.met.S.Calls.at_rest _ c.in_err-opened.ensures.keeps.goes_on.holds_then) refl c.in_err-opened.ensures.gives same c.in_ok-number.ensures.names;
    }

pub returns : goal.returns
returns g c =
    let same = seen_same g.S.Calls c.args.actors.now c.number.new.self c.in_ok-number.ensures.slots in
    record {
      line = open_line (record { rest = g.met.S.Calls.at_rest; vectors = g.met.S.Calls.vectors_listed; recorded = g.met.S.Calls.recorded }) c.args.part.now _ c.args.actors.now c.give_reader.new.actors c.args.actor.now c.in_ok-number.number _ c.args.key c.args.request c.in_ok-opened.opened
          c.in_ok-number.ensures.number refl (c.give_reader.ensures.names ∙ c.in_ok-number.ensures.names)
          (sym (same c.in_ok-number.number) ∙ none_there (slots_of g.S.Calls c.number.new.self c.in_ok-number.number) (sym c.has_something.ensures ∙ c.if-has_something.false))
          (changed_from (slots_of g.S.Calls c.args.actors.now) (slots_of g.S.Calls c.number.new.self) (slots_of g.S.Calls c.give_reader.new.actors) c.in_ok-number.number
          (as_held (seen_opened g.S.Calls.reading c.in_ok-opened.opened)) same c.give_reader.ensures.slots)
          c.requires.active c.in_ok-opened.ensures.keeps (g.met.S.Calls.at_rest _ c.in_ok-opened.ensures.keeps.goes_on.holds_then) c.in_ok-opened.ensures.stands refl
          c.in_ok-opened.ensures.gives c.in_ok-opened.ensures.own c.in_ok-opened.ensures.serves c.args.now c.give_reader.result c.give_reader.ensures.answer;
    }

pub returns-in_err-number : goal.returns-in_err-number
returns-in_err-number g c = record {
  line = unnamed_line c.args.now (step.OpenRead c.args.actor.now c.args.key c.args.request) c.args.part.now c.args.actors.now c.number.new.self c.from_residual.result c.from_residual.ensures.1 c.requires.active
      c.in_err-number.ensures.err;
}
