-- Of which documents a pair of a key's vector may be.
use Rattle.std.proofs.Common.{ℕ, List}
use Rattle.tape_base.specs.declared.keys.Key.{Key}
use Rattle.logged_disk.specs.Device.{DeviceState as Device, IsAfter}
use Rattle.logged_disk.proofs.GoingOn.{told_before}
use Rattle.cache_model.specs.State.{Row, State}
use Rattle.cache_model.specs.Permit.{Permit}
use Rattle.cache_model.specs.Pair.{Documents, IsKeyPair}
use Rattle.cache_model.specs.Vectors.{IsVectorAs}
use Rattle.call_laws.specs.Untold.{Untold}
use Rattle.call_laws.proofs.Kept.{untold_later}

-- a pair is one of more documents
pub key_wider : (P Q : Documents) → ((s : State) (row : Row) (document : List ℕ) → P s row document → Q s row document)
    → (p : Permit) (s : State) (key : Key) → IsKeyPair P p s key → IsKeyPair Q p s key
key_wider P Q wider p s key h = record {
  row = h.row;
  vector = h.vector;
  pair = record {
    document = h.pair.document;
    bytes = h.pair.bytes;
    live = h.pair.live;
    placed = wider s h.row h.pair.document h.pair.placed;
    given = h.pair.given;
    collide = h.pair.collide;
  };
}

-- one on a device that did not tell its content is one on that device later
pub key_later : (one other : Device) → IsAfter one other → (p : Permit) (s : State) (key : Key) → IsKeyPair (Untold one IsVectorAs) p s key
    → IsKeyPair (Untold other IsVectorAs) p s key
key_later one other goes p s key pair =
    key_wider (Untold one IsVectorAs) (Untold other IsVectorAs) (untold_later IsVectorAs one other (told_before one other goes)) p s key
    pair
