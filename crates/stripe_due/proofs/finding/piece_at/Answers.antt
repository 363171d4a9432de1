use Rattle.std.proofs.Common.{◌∙◌, ap, sym}
use Rattle.std.specs.Prelude.{option_map}
use Rattle.cache_model.specs.Kept.{state_of}
use Rattle.stripe_due.proofs.Passing.{kept_pinned, pinned_at}
use Rattle.stripe_due.proofs.finding.piece_at.Goals as goal

pub returns : goal.returns
returns g c =
    ap (option_map (kept_pinned c.args.place)) (sym c.in_ok-id.was ∙ c.live_at.ensures) ∙ pinned_at (state_of (g.C.Chronicle.kept c.args.chronicle.now)) c.args.place
