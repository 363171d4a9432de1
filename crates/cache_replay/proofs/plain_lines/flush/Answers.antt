use Rattle.std.proofs.Common.{Ok, Err, refl}
use Rattle.cache_replay.proofs.PlainTurns.{flushes}
use Rattle.cache_replay.proofs.plain_lines.flush.Goals as goal

pub returns-in-Ok : goal.returns-in-Ok
returns-in-Ok g c = record {
  line = flushes c.args.now c.args.part.now _ c.requires.part (g.met.S.Calls.at_rest _ c.flush.ensures.keeps.goes_on.holds_then) (Ok c.in-Ok.flushed) _ refl
      c.flush.ensures.keeps refl c.flush.ensures.stands
      c.in-Ok.ensures.serves c.in-Ok.ensures.gives.answers c.flush.ensures.own;
}

pub returns-in-Err : goal.returns-in-Err
returns-in-Err g c = record {
  line = flushes c.args.now c.args.part.now _ c.requires.part (g.met.S.Calls.at_rest _ c.flush.ensures.keeps.goes_on.holds_then) (Err c.in-Err.why)
      c.flush_refused.result c.flush_refused.ensures c.flush.ensures.keeps refl c.flush.ensures.stands
      c.in-Err.ensures.serves c.in-Err.ensures.gives.answers c.flush.ensures.own;
}
