-- Two runs of the same lines are the same up to the first line that recorded trouble, whatever their devices did.
use Rattle.std.specs.Prelude.{ℕ, ◌≡◌, ◌⊎◌, true, List, [], ◌∷◌, ◌++◌}
use Rattle.device_log.specs.Calls.{Call}
use Rattle.std.specs.List.{AllByRecursion}
use Rattle.tape_base.specs.declared.pieces.PieceId.{PieceId}
use Rattle.cache_model.specs.declared.record.Rec.{Rec}
use Rattle.cache_model.specs.declared.record.Rec.TheVariants as rec
use Rattle.cache_model.specs.Permit.{IsAmong}
use Rattle.model_laws.specs.Agreeing.{IsUntroubled}
use Rattle.model_laws.specs.Purging.{is_device_trouble}
use Rattle.script_run.specs.Run.{Run}
use Rattle.script_run.specs.Turn.{Turn}
use Rattle.script_run.specs.Takes.{IsRun, run_after}
use Rattle.script_laws.specs.Agreeing.{AreSame, NoneDisplaced, NoneHarmed}

-- the turn recorded a refused call, or bytes that are not those of a digest
pub record MeetsDeviceTrouble (turn : Turn) : Type 0 where
  pub told : Rec
  pub among : IsAmong told turn.added
  pub tells : is_device_trouble told ≡ true

-- it recorded that a piece was displaced
pub record DisplacesPiece (turn : Turn) : Type 0 where
  pub piece : PieceId
  pub segment : ℕ
  pub live : ℕ
  pub recorded : IsAmong (rec.Displaced piece segment live) turn.added

-- in the one turn the switch of the device was told something, and in the other the device had none
pub record IsToldAlone (one other : Turn) : Type 0 where
  pub call : Call
  pub told : one.told ≡ call ∷ []
  pub none : other.told ≡ []

-- so it is of the one or of the other
abbrev pub AreToldApart : Turn → Turn → Type 0
AreToldApart one other = IsToldAlone one other ⊎ IsToldAlone other one

-- two turns of one line part where the device of the one or the other was in trouble, or both displaced a piece, or the line is
-- for the switch of a device, which the one has and the other has not
pub data TurnsPart (one other : Turn) : Type 0 where
  first_in_trouble : MeetsDeviceTrouble one → TurnsPart one other
  second_in_trouble : MeetsDeviceTrouble other → TurnsPart one other
  both_displace : DisplacesPiece one → DisplacesPiece other → TurnsPart one other
  told_apart : AreToldApart one other → TurnsPart one other

-- none of these turns recorded any of that
abbrev pub AreUntroubled : List Turn → Type 0
AreUntroubled turns = AllByRecursion (λ (turn : Turn). IsUntroubled turn.added) turns

-- the turns of these lines, none of which recorded trouble, and that of the line behind them; others may follow
pub record IsUntroubledUpTo (run : Run) (before : List (List ℕ)) (turns : List Turn) : Type 0 where
  pub earlier : List Turn
  pub turn : Turn
  pub later : List Turn
  pub turns_are : turns ≡ earlier ++ turn ∷ later
  pub legal : IsRun run before earlier
  pub untroubled : AreUntroubled earlier

-- with either turns the lines before one of these are the same, and recorded no trouble; in that line the two part
pub record LinesPart (run : Run) (lines : List (List ℕ)) (one other : List Turn) : Type 0 where
  pub before : List (List ℕ)
  pub bytes : List ℕ
  pub after : List (List ℕ)
  pub lines_are : lines ≡ before ++ bytes ∷ after
  pub first : IsUntroubledUpTo run before one
  pub second : IsUntroubledUpTo run before other
  pub same : AreSame run before first.earlier second.earlier
  pub part : TurnsPart first.turn second.turn

-- from one run the same lines go on to be the same, or to part so
abbrev pub LinesAgreeBeforeTrouble : Type 0
LinesAgreeBeforeTrouble = (run : Run) (lines : List (List ℕ)) (one other : List Turn) → IsRun run lines one → IsRun run lines other
    → AreSame run lines one other ⊎ LinesPart run lines one other

-- from one run the same lines go on to print the same, and to leave the same but for what the devices fix, where either time
-- nothing was displaced, and of no device a fault or damage was told; or a line is for the switch of a device, which one of
-- them has not
abbrev pub OutputIsFixed : Type 0
OutputIsFixed = (run : Run) (lines : List (List ℕ)) (one other : List Turn) → IsRun run lines one → IsRun run lines other
    → NoneDisplaced one → NoneDisplaced other
    → NoneHarmed (run_after run lines one) → NoneHarmed (run_after run lines other)
    → AreSame run lines one other ⊎ ((p : LinesPart run lines one other) × AreToldApart p.first.turn p.second.turn)
