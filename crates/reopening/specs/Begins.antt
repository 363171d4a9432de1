-- What an image opens to may begin a session.
use Rattle.std.specs.Prelude.{◌≡◌, ℕ, Bool, Some}
use Rattle.hex.specs.Hex.{IsBytes}
use Rattle.device_log.specs.Image.{Image}
use Rattle.stripe_header.specs.declared.area.Area.{Area}
use Rattle.cache_model.specs.Opening.{Opening}
use Rattle.cache_model.specs.Openings.{IsOpening}
use Rattle.reopening.specs.Opens.{opens_to}

-- whatever bytes its blocks have, what an image opens to is an accepted copy with pieces that a session may take up, also
-- one whose directory displaces (`packed`)
abbrev pub OpeningsMayBegin : Type 0
OpeningsMayBegin = (packed : Bool) (a : Area) (c : Image) (o : Opening)
    → ((j : ℕ) → IsBytes (c j)) → opens_to a c ≡ Some o → IsOpening packed a.geometry o
