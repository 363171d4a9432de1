use Rattle.stripe_pieces.specs.Pieces.{kept_now, seen_now}
use Rattle.stripe_pieces.proofs.Telling.{HasTold}
use Rattle.stripe_pieces.proofs.pieces.Pieces.tell.Given as goal

abbrev pub invariant-loop-i : goal.invariant-loop-i
invariant-loop-i g l =
    HasTold (kept_now l.fn.self) (kept_now l.self) (seen_now l.fn.self) (seen_now l.self)
    (g.C.Chronicle.room l.fn.self.chronicle) (g.C.Chronicle.room l.self.chronicle) l.done l.ahead.due.items l.ahead.fates.items l.i
