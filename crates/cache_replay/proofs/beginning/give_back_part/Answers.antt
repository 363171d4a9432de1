use Rattle.std.proofs.Common.{◌∷◌, ◌≤◌, ◌∙◌, length, ap, sym, subst}
use Rattle.device_bay.specs.Calls.{TookBack, out_of}
use Rattle.cache_replay.specs.Deals.{GivesBack}
use Rattle.cache_replay.specs.Session.{at_in, return_of}
use Rattle.cache_replay.proofs.GivingBack.{gives_nothing, gives_one}
use Rattle.cache_replay.proofs.beginning.give_back_part.Goals as goal

pub returns-in-Some : goal.returns-in-Some
returns-in-Some g c =
    let old = g.B.Bay.past c.args.bay.now in
    let new = g.B.Bay.past c.give_back.new.self in
    record {
      gives = subst (λ part. GivesBack (return_of part) old new) (sym c.in-Some.is)
          (gives_one (at_in c.in-Some.part).device old new (subst (λ part. length (return_of part) ≤ out_of old) c.in-Some.is c.requires.held)
          (c.give_back.ensures.took ∙ ap (λ d. TookBack d ∷ old) c.into_device.ensures));
    }

pub returns-in-None : goal.returns-in-None
returns-in-None g c =
    let past = g.B.Bay.past c.args.bay.now in
    record { gives = subst (λ part. GivesBack (return_of part) past past) (sym c.in-None.is) (gives_nothing past) }
