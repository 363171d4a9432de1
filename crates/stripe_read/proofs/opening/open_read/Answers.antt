use Rattle.std.proofs.Common.{◌∙◌}
use Rattle.std.proofs.lemmas.Result.{err_from_is_err_and}
use Rattle.stripe_core.specs.Stripe.{kept_in, seen_in}
use Rattle.stripe_read.proofs.Beginning.{adds_then, never_fails, opens_then, quiet_then, reader_then, tells_then}
use Rattle.stripe_answers.proofs.Wanting.{holds_anyway, nothing_answered}
use Rattle.stripe_core.proofs.Continuing.{continues_further, continues_still, continues_then}
use Rattle.stripe_core.proofs.Stills.{still_shows, unwritten_then}
use Rattle.stripe_read.proofs.opening.open_read.Goals as goal

pub returns-in_err-prepare : goal.returns-in_err-prepare
returns-in_err-prepare g c =
    let result = c.from_residual.result in
    let wanting = err_from_is_err_and c.from_residual.result c.from_residual.ensures.1 in
    record {
      rests = continues_still _ _ c.prepare.ensures.continues c.prepare.ensures.records c.requires;
      adds = nothing_answered result _ wanting.0 wanting.1;
      opens = nothing_answered result _ wanting.0 wanting.1;
      reader = nothing_answered result _ wanting.0 wanting.1;
      tells = nothing_answered result _ wanting.0 wanting.1;
      err = holds_anyway result _ c.prepare.ensures.records;
      unwritten = still_shows _ _ c.prepare.ensures.still;
    }

pub returns-in_err-looked : goal.returns-in_err-looked
returns-in_err-looked g c =
    let result = c.from_residual-in_err-looked.result in
    let wanting = err_from_is_err_and c.from_residual-in_err-looked.result c.from_residual-in_err-looked.ensures.1 in
    let same = c.in_err-looked.ensures.err ∙ c.prepare.ensures.records in
    record {
      rests = continues_still _ _ (continues_then _ _ _ c.prepare.ensures.continues c.look_up.ensures.continues) same c.requires;
      adds = nothing_answered result _ wanting.0 wanting.1;
      opens = nothing_answered result _ wanting.0 wanting.1;
      reader = nothing_answered result _ wanting.0 wanting.1;
      tells = nothing_answered result _ wanting.0 wanting.1;
      err = holds_anyway result _ same;
      unwritten = unwritten_then _ _ _ (still_shows _ _ c.prepare.ensures.still) c.look_up.ensures.unwritten;
    }

pub returns : goal.returns
returns g c =
    let k = kept_in c.args.stripe.now in
    let k0 = kept_in c.prepare.new.self in
    let k1 = kept_in c.look_up.new.stripe in
    let k2 = kept_in c.begin.new.stripe in
    let who = c.args.actor in
    let key = c.args.key in
    let request = c.args.request in
    let found = c.in_ok-looked.looked in
    let same = c.prepare.ensures.records in
    let looks = c.in_ok-looked.ensures.adds in
    let begins = c.begin.ensures in
    record {
      rests =
          continues_further _ _ _ c.prepare.ensures.continues (continues_then _ _ _ c.look_up.ensures.continues begins.continues)
          (quiet_then k k0 k1 k2 who key request found same looks c.begin.result begins.adds begins.opens begins.memory c.requires.quiet);
      adds = adds_then k k0 k1 k2 who key request found same looks c.begin.result begins.adds begins.opens;
      opens =
          opens_then k k0 k1 k2 who key request found same looks (seen_in c.args.stripe.now).device (seen_in c.prepare.new.self).device
          (seen_in c.look_up.new.stripe).device (seen_in c.begin.new.stripe).device c.begin.result begins.adds begins.opens
          c.prepare.ensures.still.past begins.still
          c.requires.quiet c.in_ok-looked.ensures.looks;
      reader = reader_then k k0 k1 k2 who key request found same looks c.begin.result begins.adds begins.opens;
      tells = tells_then k k0 k1 k2 who key request found same looks c.begin.result begins.adds begins.opens;
      err = never_fails c.begin.result _ begins.memory;
      unwritten =
          unwritten_then _ _ _ (still_shows _ _ c.prepare.ensures.still)
          (unwritten_then _ _ _ c.look_up.ensures.unwritten (still_shows _ _ begins.still));
    }
