use Rattle.std.proofs.Common.{◌∙◌, ap, sym}
use Rattle.open_directory.specs.Directory.{Held, put_followed}
use Rattle.cache_model.specs.declared.answer.ReadAnswer.TheVariants as read
use Rattle.cache_model.specs.Kept.{Kept, state_of}
use Rattle.cache_model.specs.Verdict.{cause_of_miss}
use Rattle.stripe_core.specs.Stripe.{state_in}
use Rattle.stripe_read.proofs.Looking.{followed_is, missed_is}
use Rattle.stripe_read.proofs.opening.look_further.Goals as goal

pub returns-in-Some-clause-answer : goal.returns-in-Some-clause-answer
returns-in-Some-clause-answer g c =
    followed_is (state_in c.args.stripe.now) c.args.stripe.now.actors c.args.key c.args.request.now c.in-Some.put c.requires.actors
    (ap (λ (h : Held). put_followed c.args.key c.args.request.now h.writers) (sym c.open_directory.ensures) ∙ (sym c.follow.ensures.last ∙ c.in-Some.is))

pub returns-in-None-clause-answer : goal.returns-in-None-clause-answer
returns-in-None-clause-answer g c =
    let why = ap read.Miss (c.why.ensures ∙ ap (λ (k : Kept). cause_of_miss (state_of k) c.args.key) c.chronicle.ensures) in
    why
    ∙ missed_is (state_in c.args.stripe.now) c.args.stripe.now.actors c.args.key c.args.request.now c.requires.actors
    (ap (λ (h : Held). put_followed c.args.key c.args.request.now h.writers) (sym c.open_directory.ensures) ∙ (sym c.follow.ensures.last ∙ c.in-None.is))
