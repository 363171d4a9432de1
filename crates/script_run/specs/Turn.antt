-- What a line did.
use Rattle.std.specs.Prelude.{ℕ, List, [], ◌∷◌, ◌++◌, Option, Some, None, false}
use Rattle.device_log.specs.Calls.{Call}
use Rattle.cache_model.specs.declared.answer.ReadAnswer.{ReadAnswer}
use Rattle.cache_model.specs.declared.record.Rec.{Rec}
use Rattle.cache_model.specs.declared.record.Rec.TheVariants as rec
use Rattle.cache_model.specs.Permit.{Permit, Reason}

-- the records that a line added, why it did less than was asked, what the device did for that, the bytes of a body that it
-- gave, and the calls by which it told the switch of the device something
pub record Turn : Type 0 where
  pub added : List Rec
  pub refused : Option Reason
  pub device : Permit
  pub given : List ℕ
  pub told : List Call

-- a line that does nothing: no records, no calls, no bytes
abbrev pub no_turn : Turn
no_turn = record { added = []; refused = None; device = record { packed = false; syncs = false; now = 0; past = []; events = [] }; given = []; told = [] }

-- all calls that the device made in a turn, the newest first
abbrev pub calls_in : Turn → List Call
calls_in turn = turn.told ++ turn.device.events

-- what a lookup among these records was answered
abbrev pub lookup_in : List Rec → Option ReadAnswer
lookup_in [] = None
lookup_in (rec.ReadOpened reader actor key request answer ∷ recs) = Some answer
lookup_in (r ∷ recs) = lookup_in recs

-- the record itself, where it tells a reader something
abbrev pub is_told : Rec → Option Rec
is_told (rec.Gave reader index length) = Some (rec.Gave reader index length)
is_told (rec.Ended reader length) = Some (rec.Ended reader length)
is_told (rec.Waited reader cut) = Some (rec.Waited reader cut)
is_told (rec.Broke reader why) = Some (rec.Broke reader why)
is_told _ = None

-- the later of two where there is one, else the earlier
abbrev pub later : Option Rec → Option Rec → Option Rec
later first (Some last) = Some last
later first None = first

-- what a reader was told last among these records, whichever reader it is
abbrev pub told_in : List Rec → Option Rec
told_in [] = None
told_in (r ∷ recs) = later (is_told r) (told_in recs)
