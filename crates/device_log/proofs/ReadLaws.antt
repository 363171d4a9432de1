-- That each read gave what was seen is a proposition, so that an invariant may hold it.
use Rattle.std.proofs.Common.{List, [], ◌∷◌}
use Rattle.std.proofs.Props.{props}
use Rattle.device_log.specs.Image.{Image}
use Rattle.device_log.specs.Calls.{Call, Read, Wrote, Synced, RefusedCall, Told, PowerCut, Flipped}
use Rattle.device_log.specs.Seen.{ReadsAreSeen}

pub reads_are_prop : (first : Image) (past : List Call) → IsProp (ReadsAreSeen first past)
unfolding ReadsAreSeen
reads_are_prop first [] = Prim.hlevel props
reads_are_prop first (Read at bytes ∷ older) = let rest = reads_are_prop first older in Prim.hlevel (props, rest)
reads_are_prop first (Wrote at bytes ∷ older) = reads_are_prop first older
reads_are_prop first (Synced ∷ older) = reads_are_prop first older
reads_are_prop first (RefusedCall what count ∷ older) = reads_are_prop first older
reads_are_prop first (Told act ∷ older) = reads_are_prop first older
reads_are_prop first (PowerCut choice left ∷ older) = reads_are_prop first older
reads_are_prop first (Flipped at byte ∷ older) = reads_are_prop first older
