use Rattle.std.proofs.Common.{◌∙◌, ap, sym, subst}
use Rattle.std.specs.Prelude.{Some}
use Rattle.open_directory.specs.Directory.{Held, IsHeldDirectory, put_state}
use Rattle.stripe_core.specs.Stripe.{state_in}
use Rattle.stripe_read.proofs.Following.{put_is_told, put_stands}
use Rattle.stripe_read.proofs.reading.how_put_stands.Goals as goal

pub unreachable-requires : goal.unreachable-requires
unreachable-requires g c =
    let r = c.args.reader.now in
    let same = c.open_directory-directory.ensures in
    put_is_told (state_in c.args.stripe.now) c.args.stripe.now.actors r c.requires.stripe.actors (subst IsHeldDirectory same c.writers-writers.ensures.held) c.requires.reader c.requires.follows
    (ap (λ (h : Held). put_state r.put h.puts) (sym same) ∙ (sym c.put_state.ensures.state ∙ c.in-None.is))

pub returns-in-Some-Open : goal.returns-in-Some-Open
returns-in-Some-Open g c =
    let r = c.args.reader.now in
    let same = c.open_directory-directory.ensures in
    put_stands (state_in c.args.stripe.now) c.args.stripe.now.actors r _ c.requires.stripe.actors (subst IsHeldDirectory same c.writers-writers.ensures.held) c.requires.reader c.requires.follows
    (ap (λ (h : Held). put_state r.put h.puts) (sym same) ∙ (sym c.put_state.ensures.state ∙ (c.in-Some-Open.is ∙ ap Some c.in-Some-Open.field-0-is)))

pub returns-in-Some-Committed : goal.returns-in-Some-Committed
returns-in-Some-Committed g c =
    let r = c.args.reader.now in
    let same = c.open_directory-directory.ensures in
    put_stands (state_in c.args.stripe.now) c.args.stripe.now.actors r _ c.requires.stripe.actors (subst IsHeldDirectory same c.writers-writers.ensures.held) c.requires.reader c.requires.follows
    (ap (λ (h : Held). put_state r.put h.puts) (sym same) ∙ (sym c.put_state.ensures.state ∙ (c.in-Some-Committed.is ∙ ap Some c.in-Some-Committed.field-0-is)))

pub returns-in-Some-Aborted : goal.returns-in-Some-Aborted
returns-in-Some-Aborted g c =
    let r = c.args.reader.now in
    let same = c.open_directory-directory.ensures in
    put_stands (state_in c.args.stripe.now) c.args.stripe.now.actors r _ c.requires.stripe.actors (subst IsHeldDirectory same c.writers-writers.ensures.held) c.requires.reader c.requires.follows
    (ap (λ (h : Held). put_state r.put h.puts) (sym same) ∙ (sym c.put_state.ensures.state ∙ (c.in-Some-Aborted.is ∙ ap Some c.in-Some-Aborted.field-0-is)))
