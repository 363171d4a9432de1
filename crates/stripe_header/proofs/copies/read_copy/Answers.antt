use Rattle.stripe_header.proofs.CopyLaws.{is_accepted, is_again}
use Rattle.stripe_header.proofs.copies.read_copy.Goals as goal

pub returns-clause-found : goal.returns-clause-found
returns-clause-found c = is_accepted c.args.g.now c.args.gate.now c.args.body.now _ c.requires.room c.read.ensures.exact

pub returns-clause-only : goal.returns-clause-only
returns-clause-only c version state directory gated copy =
    is_again c.args.g.now c.args.gate.now c.args.body.now _ c.read.ensures.exact version state directory gated copy
