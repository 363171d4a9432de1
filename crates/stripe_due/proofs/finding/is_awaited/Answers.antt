use Rattle.std.proofs.Common.{◌∙◌, ap}
use Rattle.stripe_due.specs.Walk.{is_left_to_reader}
use Rattle.stripe_due.proofs.Awaited.{awaited_is}
use Rattle.stripe_due.proofs.finding.is_awaited.Goals as goal

pub returns : goal.returns
returns c s h =
    c.is_left.ensures
    ∙ (ap (is_left_to_reader c.args.id) c.readers_of.ensures ∙ awaited_is s c.args.actors.now _ c.args.id c.open_directory.ensures.numbered h c.open_directory.ensures.same)
