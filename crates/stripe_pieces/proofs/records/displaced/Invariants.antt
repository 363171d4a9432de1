use Rattle.stripe_pieces.proofs.Pushing.{HasPushed}
use Rattle.stripe_pieces.proofs.records.displaced.Given as goal

abbrev pub invariant-loop-i : goal.invariant-loop-i
invariant-loop-i g l =
    HasPushed (g.C.Chronicle.kept l.fn.chronicle) (g.C.Chronicle.kept l.chronicle) l.displaced.told
    (g.C.Chronicle.room l.fn.chronicle) (g.C.Chronicle.room l.chronicle) l.i
