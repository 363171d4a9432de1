-- Determinism, whatever devices refuse: two runs of one source write the same up to the first line in which a call was refused,
-- or in which both displaced a piece.
use Rattle.std.specs.Prelude.{◌≡◌, ℕ, List, [], ◌∷◌, ◌++◌, ◌⊎◌, Option}
use Rattle.device_log.specs.Calls.{Asked, RefusedCall}
use Rattle.device_log.specs.Streams.{taken_by}
use Rattle.edge_io.specs.Text.{text_read}
use Rattle.cache_model.specs.declared.record.Rec.TheVariants as rec
use Rattle.cache_model.specs.Permit.{IsAmong}
use Rattle.script_grammar.specs.declared.answer.StepAnswer.{StepAnswer}
use Rattle.script_run.specs.Run.{fresh}
use Rattle.script_run.specs.Turn.{Turn}
use Rattle.script_run.specs.Takes.{IsRun, output_of}
use Rattle.script_laws.specs.Agreeing.{AreSame}
use Rattle.script_laws.specs.Parting.{AreToldApart, AreUntroubled, DisplacesPiece, LinesPart}
use Rattle.run_promise.specs.Lines.{answers_of}
use Rattle.run_promise.specs.declared.status.Status.TheVariants as status
use Rattle.run_promise.specs.Story.{Taken}
use Rattle.headline.specs.Account.{Account, AllTell, IsConcluded, RunLogs}
use Rattle.headline.specs.Fixed.{GiveSame, HasHistory, TakeSame}
use Rattle.headline.specs.Reads.{DidBefore}

-- ---- runs that were read to their end

-- the device refused a call of the turn, which recorded that
pub record MeetsRefusal (turn : Turn) : Type 0 where
  pub asked : Asked
  pub count : ℕ
  pub refused : IsAmong (RefusedCall asked count) turn.device.events
  pub recorded : IsAmong (rec.Fault count) turn.added

-- the device of the one turn or of the other refused a call, or both displaced a piece, or only one of the two has the switch
-- that the line is for
pub data MeetTrouble (one other : Turn) : Type 0 where
  one_refuses : MeetsRefusal one → MeetTrouble one other
  other_refuses : MeetsRefusal other → MeetTrouble one other
  each_displaces : DisplacesPiece one → DisplacesPiece other → MeetTrouble one other
  one_has_no_switch : AreToldApart one other → MeetTrouble one other

-- a run comes to this line: none of the lines before it recorded trouble, and what they print the sink took first, behind what
-- it had
pub record ComesToLine (l : RunLogs) (before : List (List ℕ)) (bytes : List ℕ) (after : List (List ℕ)) : Type 0 where
  pub history : HasHistory l (before ++ bytes ∷ after)
  pub did : DidBefore history.turns before
  pub untroubled : AreUntroubled did.earlier
  pub rest : List ℕ
  pub first : taken_by l.new ≡ taken_by l.old ++ (output_of fresh before did.earlier ++ rest)

-- both come to one line of the text that both sources gave, and the lines before it are the same in both, but for what devices
-- alone fix; in that line they met trouble
pub record RunsPart (l m : RunLogs) (same : GiveSame l m) : Type 0 where
  pub before : List (List ℕ)
  pub bytes : List ℕ
  pub after : List (List ℕ)
  pub taken : Taken (text_read same.reads) (before ++ bytes ∷ after) []
  pub one : ComesToLine l before bytes after
  pub other : ComesToLine m before bytes after
  pub agree : AreSame fresh before one.did.earlier other.did.earlier
  pub trouble : MeetTrouble one.did.turn other.did.turn

-- two runs that were read to their end, over sources that gave the same and devices that told their content, wrote the same,
-- or they part so
abbrev pub RunsAgreeBeforeTrouble : Type 0
RunsAgreeBeforeTrouble = (l m : RunLogs) → IsConcluded l status.Done → IsConcluded m status.Done
    → (same : GiveSame l m) → AllTell l → AllTell m → TakeSame l m ⊎ RunsPart l m same

-- ---- whatever ended a run, and whatever its devices told

-- the turns of the lines with which a legal history begins; their answers are those with which the answers of the run begin
pub record HistoryBegins {l : RunLogs} (a : Account l) (lines : List (List ℕ)) : Type 0 where
  pub earlier : List Turn
  pub later : List Turn
  pub turns_are : a.turns ≡ earlier ++ later
  pub legal : IsRun fresh lines earlier
  pub rest : List (Option StepAnswer)
  pub says : a.answers ≡ answers_of fresh lines earlier ++ rest

-- two histories begin with these lines, which are the same in both, but for what devices alone fix, or part at one of them
pub record BeginAlike {l m : RunLogs} (a : Account l) (b : Account m) (lines : List (List ℕ)) : Type 0 where
  pub one : HistoryBegins a lines
  pub other : HistoryBegins b lines
  pub agree : AreSame fresh lines one.earlier other.earlier ⊎ LinesPart fresh lines one.earlier other.earlier

-- so do any two that have the same first lines
abbrev pub HistoriesAgreeBeforeTrouble : Type 0
HistoriesAgreeBeforeTrouble = (l m : RunLogs) (a : Account l) (b : Account m) (lines left more : List (List ℕ))
    → a.told ≡ lines ++ left → b.told ≡ lines ++ more → BeginAlike a b lines
