-- What the entry of a piece displaces, whatever step it is made in, and the records that tell of it.
use Rattle.std.specs.Prelude.{◌≡◌, Bool, List}
use Rattle.std.specs.List.{AllByRecursion}
use Rattle.tape_base.specs.declared.pieces.PieceId.{PieceId}
use Rattle.cache_model.specs.declared.record.Rec.{Rec}
use Rattle.cache_model.specs.declared.record.Rec.TheVariants as rec
use Rattle.cache_model.specs.Permit.{Permit}
use Rattle.cache_model.specs.Room.{MayDisplace}
use Rattle.cache_model.specs.State.{State}

-- what the entry of a piece displaces, in each step of a directory that displaces at all (`packed`), or that does not
abbrev pub PushesOut : Bool → State → PieceId → List Rec → Type 0
PushesOut packed s id displaced = (p : Permit) → p.packed ≡ packed → MayDisplace p s id displaced

-- the record tells that a piece was displaced
abbrev pub IsOfDisplacement : Rec → Type 0
IsOfDisplacement (rec.Displaced piece segment live) = Unit {0}
IsOfDisplacement _ = ⊥

-- each of them does
abbrev pub AreOfDisplacement : List Rec → Type 0
AreOfDisplacement recs = AllByRecursion IsOfDisplacement recs
