-- Which cuts a log has on a device that is honest.
use Rattle.std.proofs.Common.{Bool, List, [], ◌∷◌}
use Rattle.std.proofs.Props.{props}
use Rattle.device_log.specs.Image.{Image}
use Rattle.device_log.specs.Calls.{Call, Read, Wrote, Synced, RefusedCall, Told, PowerCut, Flipped}
use Rattle.device_log.specs.Seen.{seen_of, MayLeave}

-- Each cut left one of those images that it might leave behind the calls before it.
unfoldable pub CutsAreHonest : Bool → Image → List Call → Type 0
CutsAreHonest settled first [] = Unit {0}
CutsAreHonest settled first (Read at bytes ∷ older) = CutsAreHonest settled first older
CutsAreHonest settled first (Wrote at bytes ∷ older) = CutsAreHonest settled first older
CutsAreHonest settled first (Synced ∷ older) = CutsAreHonest settled first older
CutsAreHonest settled first (RefusedCall what count ∷ older) = CutsAreHonest settled first older
CutsAreHonest settled first (Told act ∷ older) = CutsAreHonest settled first older
CutsAreHonest settled first (PowerCut choice left ∷ older) =
    MayLeave settled first older (seen_of first (PowerCut choice left ∷ older)) × CutsAreHonest settled first older
CutsAreHonest settled first (Flipped at byte ∷ older) = CutsAreHonest settled first older

-- that is a proposition, so that an invariant may hold it
pub cuts_are_prop : (settled : Bool) (first : Image) (past : List Call) → IsProp (CutsAreHonest settled first past)
unfolding CutsAreHonest
cuts_are_prop settled first [] = Prim.hlevel props
cuts_are_prop settled first (Read at bytes ∷ older) = cuts_are_prop settled first older
cuts_are_prop settled first (Wrote at bytes ∷ older) = cuts_are_prop settled first older
cuts_are_prop settled first (Synced ∷ older) = cuts_are_prop settled first older
cuts_are_prop settled first (RefusedCall what count ∷ older) = cuts_are_prop settled first older
cuts_are_prop settled first (Told act ∷ older) = cuts_are_prop settled first older
cuts_are_prop settled first (PowerCut choice left ∷ older) = let rest = cuts_are_prop settled first older in Prim.hlevel (props, rest)
cuts_are_prop settled first (Flipped at byte ∷ older) = cuts_are_prop settled first older
