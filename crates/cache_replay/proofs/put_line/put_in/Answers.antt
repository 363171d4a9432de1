use Rattle.std.proofs.Common.{refl, sym, ◌∙◌}
use Rattle.cache_replay.proofs.PutLine.{put_said, put_wants}
use Rattle.cache_replay.proofs.put_line.put_in.Goals as goal

pub returns-in-Some : goal.returns-in-Some
returns-in-Some g c = record {
  line = put_said c.args.now c.args.part.now _ c.args.key c.args.body.now c.args.request c.args.response c.requires.part
      (g.met.S.Calls.at_rest _ c.put.ensures.keeps.goes_on.holds_then) c.put.result refl c.put.ensures.keeps c.put.ensures.tells
      c.put.ensures.stands
      c.in-Some.said (sym c.closed_answer.ensures ∙ c.in-Some.is) c.put.ensures.puts;
}

pub returns-in-None : goal.returns-in-None
returns-in-None g c = record {
  line = put_wants c.args.now c.args.part.now _ c.args.key c.args.body.now c.args.request c.args.response c.requires.part
      (g.met.S.Calls.at_rest _ c.put.ensures.keeps.goes_on.holds_then) c.put.result refl c.put.ensures.keeps c.put.ensures.tells
      c.put.ensures.stands;
}
