use Rattle.std.proofs.Common.{arith, refl}
use Rattle.std.proofs.lemmas.Result.{err_from_is_err_and}
use Rattle.stripe_core.specs.Stripe.{seen_in}
use Rattle.stripe_core.proofs.Continuing.{continues_same}
use Rattle.stripe_core.proofs.Stills.{unwritten_as}
use Rattle.stripe_answers.proofs.Seeing.{seen_none}
use Rattle.stripe_answers.proofs.Wanting.{holds_anyway, nothing_answered}
use Rattle.stripe_vectors.proofs.reading.read_live.Goals as goal

pub returns-in_err-into : goal.returns-in_err-into
returns-in_err-into g c =
    let device = (seen_in c.args.stripe.now).device in
    let result = c.from_residual.result in
    let wanting = err_from_is_err_and c.from_residual.result c.from_residual.ensures.1 in
    record {
      continues = continues_same c.args.stripe.now c.requires.stripe;
      adds = nothing_answered result _ wanting.0 wanting.1;
      finds = nothing_answered result _ wanting.0 wanting.1;
      seen = seen_none device device refl;
      err = holds_anyway result _ refl;
      unwritten = unwritten_as device device refl;
      row = λ put. refl;
      unit = omega arith;
    }

pub returns : goal.returns
returns g c = c.read_through.ensures
