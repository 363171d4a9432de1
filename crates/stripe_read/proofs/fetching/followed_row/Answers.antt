use Rattle.std.proofs.Common.{◌∙◌, ap, subst}
use Rattle.open_directory.specs.Directory.{Held, IsHeldDirectory, kept_cuts, row_of_index}
use Rattle.stripe_core.specs.Stripe.{state_in}
use Rattle.stripe_read.proofs.Following.{followed_next}
use Rattle.stripe_read.proofs.fetching.followed_row.Goals as goal

pub returns-clause-row : goal.returns-clause-row
returns-clause-row g c =
    let r = c.args.reader.now in
    let same = c.open_directory-directory.ensures in
    c.row.ensures.row
    ∙ (ap (λ (h : Held). row_of_index r.next (kept_cuts r.put h.puts)) same
    ∙ followed_next (state_in c.args.stripe.now) c.args.stripe.now.actors r c.requires.stripe.actors (subst IsHeldDirectory same c.writers-writers.ensures.held) c.requires.reader c.requires.follows)
