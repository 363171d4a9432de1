-- What was told as damaged: a piece whose bytes, as they were read, are not those of its digest.
use Rattle.std.specs.Prelude.{◌≡◌, Bool, true, false, List}
use Rattle.std.specs.List.{AllByRecursion, list_any}
use Rattle.cache_model.specs.declared.cause.Cause.{Cause}
use Rattle.cache_model.specs.declared.cause.Cause.TheVariants as cause
use Rattle.cache_model.specs.declared.record.Rec.{Rec}
use Rattle.cache_model.specs.declared.record.Rec.TheVariants as rec
use Rattle.cache_model.specs.State.{State}

-- the record tells a piece as damaged
abbrev pub tells_damage : Rec → Bool
tells_damage (rec.Damaged piece place kept found) = true
tells_damage _ = false

-- none of these records does
abbrev pub TellNoDamage : List Rec → Type 0
TellNoDamage recs = AllByRecursion (λ r. tells_damage r ≡ false) recs

-- the cause is that the bytes that were read are not those of the piece
abbrev pub is_damage : Cause → Bool
is_damage (cause.Damaged place kept found) = true
is_damage _ = false

-- a piece was told as damaged
abbrev pub has_damage : State → Bool
has_damage s = list_any (λ lost. is_damage lost.1) s.lost
