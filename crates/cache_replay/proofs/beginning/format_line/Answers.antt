use Rattle.std.proofs.Common.{Ok, subst, sym}
use Rattle.cache_replay.specs.Deals.{FormatsAs}
use Rattle.cache_replay.proofs.Formats.{line_begun, line_failed, line_refused, line_stopped}
use Rattle.cache_replay.proofs.beginning.format_line.Goals as goal

pub returns-in-Err : goal.returns-in-Err
returns-in-Err g c = record {
  answers = line_refused c.args.name.now c.args.segments c.args.buckets c.args.content c.args.agg c.args.reach c.args.fragment c.args.generation c.args.alternates
      c.number_of.result c.in-Err.bad c.args.replay.now (g.B.Bay.past c.args.bay.now) c.requires.replay (sym c.in-Err.ensures.refused)
      c.number_of.ensures;
}

pub returns-in-Begun : goal.returns-in-Begun
returns-in-Begun g c =
    let before = g.B.Bay.past c.args.bay.now in
    let after = g.B.Bay.past c.format.new.bay in
    record {
      answers = line_begun c.args.name.now c.args.segments c.args.buckets c.args.content c.args.agg c.args.reach c.args.fragment c.args.generation c.args.alternates
          c.in-Ok.geometry c.args.replay.now c.format.new.replay before after (sym c.in-Ok.ensures.refused)
          c.in-Ok.ensures.numbers c.floor_of.result c.requires.replay c.floor_of.ensures
          (subst (λ t. FormatsAs c.args.name.now c.in-Ok.geometry c.args.replay.now c.format.new.replay before after (Ok t)) c.in-Begun.is c.in_ok-format-in-Ok.ensures.formats);
    }

pub returns-in-Refused : goal.returns-in-Refused
returns-in-Refused g c =
    let before = g.B.Bay.past c.args.bay.now in
    let after = g.B.Bay.past c.format.new.bay in
    record {
      answers = line_failed c.args.name.now c.args.segments c.args.buckets c.args.content c.args.agg c.args.reach c.args.fragment c.args.generation c.args.alternates
          c.in-Ok.geometry c.args.replay.now c.format.new.replay before after (sym c.in-Ok.ensures.refused)
          c.in-Ok.ensures.numbers c.in-Refused.count c.requires.replay
          (subst (λ t. FormatsAs c.args.name.now c.in-Ok.geometry c.args.replay.now c.format.new.replay before after (Ok t)) c.in-Refused.is c.in_ok-format-in-Ok.ensures.formats);
    }

pub returns-in_err-format-in-Ok : goal.returns-in_err-format-in-Ok
returns-in_err-format-in-Ok g c = record {
  answers = line_stopped c.args.name.now c.args.segments c.args.buckets c.args.content c.args.agg c.args.reach c.args.fragment c.args.generation c.args.alternates
      c.in-Ok.geometry c.args.replay.now c.format.new.replay (g.B.Bay.past c.args.bay.now) (g.B.Bay.past c.format.new.bay) (sym c.in-Ok.ensures.refused)
      c.in-Ok.ensures.numbers c.in_err-format-in-Ok.field-0.0 c.from_residual.result c.from_residual.ensures.1 c.in_err-format-in-Ok.ensures.formats;
}
