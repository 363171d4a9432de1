use Rattle.std.proofs.Common.{length}
use Rattle.held_pieces.specs.Whereabouts.{WalkComesTo}
use Rattle.stripe_pieces.specs.Pieces.{state_now}
use Rattle.stripe_pieces.proofs.pieces.Pieces.whereabouts.Given as goal

abbrev pub invariant-walks : goal.invariant-walks
invariant-walks g l = WalkComesTo g.R.Directory (state_now l.self) l.id l.directory l.walk

abbrev pub decreases-walks : goal.decreases-walks
decreases-walks g l = length (g.R.Directory.rest l.directory l.walk)
