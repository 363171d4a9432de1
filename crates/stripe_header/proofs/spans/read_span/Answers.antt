use Rattle.stripe_header.proofs.SpanLaws.{is_accepted, is_again}
use Rattle.stripe_header.proofs.spans.read_span.Goals as goal

pub returns-clause-found : goal.returns-clause-found
returns-clause-found c = is_accepted c.args.bytes.now _ c.read.ensures.exact

pub returns-clause-only : goal.returns-clause-only
returns-clause-only c version n blocks fits span = is_again c.args.bytes.now _ c.read.ensures.exact version n blocks fits span
