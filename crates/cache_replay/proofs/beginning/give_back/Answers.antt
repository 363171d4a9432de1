use Rattle.std.proofs.Common.{arith, length-append}
use Rattle.cache_replay.specs.Replay.{bare_return}
use Rattle.cache_replay.specs.Session.{return_of}
use Rattle.cache_replay.proofs.GivingBack.{gives_then}
use Rattle.cache_replay.proofs.beginning.give_back.Goals as goal

pub give_back_part-requires : goal.give_back_part-requires
give_back_part-requires g c = record { held = omega (arith, c.requires.held, length-append (return_of c.args.part) (bare_return c.args.bare)) }

pub give_back_bare-requires : goal.give_back_bare-requires
give_back_bare-requires g c = record { held = omega (arith, c.requires.held, length-append (return_of c.args.part) (bare_return c.args.bare), c.give_back_part.ensures.gives.out) }

pub returns : goal.returns
returns g c = record {
  gives = gives_then (return_of c.args.part) (bare_return c.args.bare) _ _ _ c.give_back_part.ensures.gives c.give_back_bare.ensures.gives;
}
