use Rattle.stripe_pieces.specs.Pieces.{kept_now, seen_now}
use Rattle.stripe_pieces.proofs.Copied.{HasCopied}
use Rattle.stripe_pieces.proofs.pieces.Pieces.copy.Given as goal

abbrev pub invariant-loop-i : goal.invariant-loop-i
invariant-loop-i g l =
    HasCopied g.R.Directory.purges (kept_now l.fn.self) (kept_now l.self) (seen_now l.fn.self) (seen_now l.self)
    (g.C.Chronicle.room l.fn.self.chronicle) (g.C.Chronicle.room l.self.chronicle) l.ahead.due.items l.ahead.fates.items l.ahead.bytes.items l.i l.at
