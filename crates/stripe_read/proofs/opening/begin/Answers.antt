use Rattle.std.proofs.Common.{◌≡◌, ◌∙◌, [], ◌∷◌, ap, arith, false, refl, true}
use Rattle.cache_model.specs.declared.record.Rec.TheVariants as rec
use Rattle.cache_model.specs.Kept.{with_records}
use Rattle.stripe_core.specs.Stripe.{kept_in, state_in}
use Rattle.stripe_read.specs.Lookups.{opened_as}
use Rattle.stripe_read.proofs.opening.begin.Goals as goal

pub returns-in_err-reader : goal.returns-in_err-reader
returns-in_err-reader g c = let no : false ≡ true = c.in_err-reader.ensures.memory (omega (arith, c.requires.unit)) in cc

pub returns : goal.returns
returns g c =
    let k = kept_in c.args.stripe.now in
    record {
      continues = c.start_read.ensures.continues;
      adds = c.in_ok-reader.ensures.adds
          ∙ (ap (λ n. with_records k (rec.ReadOpened n c.args.actor c.args.key c.args.request c.answer.result ∷ []))
          c.in_ok-reader.ensures.reader
          ∙ ap (λ a. with_records k (rec.ReadOpened (state_in c.args.stripe.now).next_reader c.args.actor c.args.key c.args.request a ∷ []))
          c.answer.ensures);
      opens = c.opened.ensures ∙ ap (λ n. opened_as n c.args.key c.args.looked) c.in_ok-reader.ensures.reader;
      memory = refl;
      still = c.start_read.ensures.still;
    }
