use Rattle.std.proofs.Common.{Ok, refl, subst}
use Rattle.cache_calls.specs.Plain.{Removes}
use Rattle.cache_replay.proofs.PlainTurns.{absent, removed, unremoved}
use Rattle.cache_replay.proofs.plain_lines.remove_from.Goals as goal

pub returns-in-Ok-Removed : goal.returns-in-Ok-Removed
returns-in-Ok-Removed g c =
    let gives = subst (λ r. Removes (g.S.Calls.at c.args.part.now.cache) (g.S.Calls.at c.remove.new.self) c.args.key (Ok r)) c.in-Ok-Removed.field-0-is
    c.in-Ok-Removed.ensures.gives in
    record {
      line = removed c.args.now c.args.part.now _ c.args.key c.in-Ok-Removed.put c.requires.part c.remove.ensures.keeps
          (g.met.S.Calls.at_rest _ c.remove.ensures.keeps.goes_on.holds_then) refl c.remove.ensures.stands
          (c.in-Ok-Removed.ensures.serves c.args.now) gives.1;
    }

pub returns-in-Ok-Absent : goal.returns-in-Ok-Absent
returns-in-Ok-Absent g c =
    let gives = subst (λ r. Removes (g.S.Calls.at c.args.part.now.cache) (g.S.Calls.at c.remove.new.self) c.args.key (Ok r)) c.in-Ok-Absent.field-0-is
    c.in-Ok-Absent.ensures.gives in
    record {
      line = absent c.args.now c.args.part.now _ c.args.key c.in-Ok-Absent.why c.requires.part c.remove.ensures.keeps
          (g.met.S.Calls.at_rest _ c.remove.ensures.keeps.goes_on.holds_then) refl c.remove.ensures.stands
          (c.in-Ok-Absent.ensures.serves c.args.now) gives.2 gives.1;
    }

pub returns-in-Err : goal.returns-in-Err
returns-in-Err g c = record {
  line = unremoved c.args.now c.args.part.now _ c.args.key c.requires.part c.remove.ensures.keeps
      (g.met.S.Calls.at_rest _ c.remove.ensures.keeps.goes_on.holds_then) refl c.remove.ensures.stands c.in-Err.ensures.gives;
}
