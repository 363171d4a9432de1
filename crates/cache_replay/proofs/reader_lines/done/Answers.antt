use Rattle.std.proofs.Common.{◌∙◌, refl, sym, ap}
use Rattle.std.specs.Prelude.{None, Some}
use Rattle.script_grammar.specs.declared.step.Step.TheVariants as step
use Rattle.cache_replay.specs.Session.{ReaderHeld, slots_of}
use Rattle.cache_replay.specs.ReaderLines.{reader_held}
use Rattle.cache_replay.proofs.ActorLines.{changed_again, changed_to_same, seen_same, seen_set, unnamed_line, wanting_line}
use Rattle.cache_replay.proofs.DoneLine.{done_idle, done_line}
use Rattle.cache_replay.proofs.ReaderLines.{not_taken, took}
use Rattle.cache_replay.proofs.reader_lines.done.Goals as goal

pub returns-in-Ok : goal.returns-in-Ok
returns-in-Ok g c =
    let same = seen_same g.S.Calls c.args.actors.now c.number.new.self c.in_ok-number.ensures.slots in
    record {
      line = done_line (record { rest = g.met.S.Calls.at_rest; vectors = g.met.S.Calls.vectors_listed; recorded = g.met.S.Calls.recorded }) c.args.part.now _ c.args.actors.now c.take_reader.new.actors c.args.actor.now c.in_ok-number.number (g.S.Calls.reading c.in-Some.reader)
          c.in_ok-number.ensures.number (c.in-Some.ensures.names ∙ c.in_ok-number.ensures.names)
          (took (slots_of g.S.Calls c.args.actors.now) (slots_of g.S.Calls c.number.new.self) (slots_of g.S.Calls c.take_reader.new.actors) c.in_ok-number.number
          (g.S.Calls.reading c.in-Some.reader) same c.in-Some.ensures.slots c.in-Some.ensures.reader)
          c.requires.active c.in-Ok.ensures.keeps (g.met.S.Calls.at_rest _ c.in-Ok.ensures.keeps.goes_on.holds_then) c.in-Ok.ensures.stands refl
          c.in-Ok.ensures.gives c.in-Ok.ensures.own c.in-Ok.ensures.serves c.args.now;
    }

pub returns-in-None : goal.returns-in-None
returns-in-None g c =
    let same = seen_same g.S.Calls c.args.actors.now c.number.new.self c.in_ok-number.ensures.slots in
    record {
      line = done_idle c.args.now c.args.part.now c.args.actors.now c.take_reader.new.actors c.args.actor.now c.in_ok-number.number c.refused.result c.refused.ensures
          c.in_ok-number.ensures.number (c.in-None.ensures.names ∙ c.in_ok-number.ensures.names)
          (not_taken (slots_of g.S.Calls c.args.actors.now) (slots_of g.S.Calls c.number.new.self) (slots_of g.S.Calls c.take_reader.new.actors) c.in_ok-number.number
          same c.in-None.ensures.slots c.in-None.ensures.reader)
          (c.in-None.ensures.reader ∙ ap reader_held (same c.in_ok-number.number)) c.requires.active;
    }

pub returns-in-Err : goal.returns-in-Err
returns-in-Err g c =
    let same = seen_same g.S.Calls c.args.actors.now c.number.new.self c.in_ok-number.ensures.slots in
    let taken = took (slots_of g.S.Calls c.args.actors.now) (slots_of g.S.Calls c.number.new.self) (slots_of g.S.Calls c.take_reader.new.actors) c.in_ok-number.number
    (g.S.Calls.reading c.in-Some.reader) same c.in-Some.ensures.slots c.in-Some.ensures.reader in
    let mid = slots_of g.S.Calls c.take_reader.new.actors in
    let set = seen_set g.S.Calls c.take_reader.new.actors c.set.new.self c.in_ok-number.number _ c.set.ensures.slots in
    let has = Some (ReaderHeld (g.S.Calls.reading c.in-Err.reader)) in
    record {
      line = wanting_line c.args.now (step.Done c.args.actor.now) c.args.part.now _ c.args.actors.now c.set.new.self c.args.actor.now _ refl
          c.requires.active c.in-Err.ensures.keeps (g.met.S.Calls.at_rest _ c.in-Err.ensures.keeps.goes_on.holds_then) refl c.in-Err.ensures.gives.0
          (changed_to_same (slots_of g.S.Calls c.args.actors.now) (slots_of g.S.Calls c.set.new.self) c.in_ok-number.number has
          (changed_again (slots_of g.S.Calls c.args.actors.now) mid (slots_of g.S.Calls c.set.new.self) c.in_ok-number.number has None taken.left set)
          (taken.had ∙ ap (λ x. Some (ReaderHeld (g.S.Calls.reading x))) (sym (c.in-Err.reader-is ∙ c.in-Err.ensures.gives.1))))
          (c.set.ensures.names ∙ (c.in-Some.ensures.names ∙ c.in_ok-number.ensures.names));
    }

pub returns-in_err-number : goal.returns-in_err-number
returns-in_err-number g c = record {
  line = unnamed_line c.args.now (step.Done c.args.actor.now) c.args.part.now c.args.actors.now c.number.new.self c.from_residual.result c.from_residual.ensures.1 c.requires.active
      c.in_err-number.ensures.err;
}
