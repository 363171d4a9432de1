-- Determinism: what the source gave fixes what the sink took, where not both runs displaced a piece.
use Rattle.std.specs.Prelude.{◌≡◌, ℕ, true, List, [], ◌∷◌, ◌++◌, ◌⊎◌}
use Rattle.std.specs.List.{AllByRecursion}
use Rattle.device_log.specs.Streams.{SourceRead, taken_by}
use Rattle.edge_io.specs.Text.{text_read}
use Rattle.logged_disk.specs.Device.{DeviceState as Device}
use Rattle.cache_model.specs.Permit.{IsAmong}
use Rattle.script_run.specs.Run.{fresh}
use Rattle.script_run.specs.Turn.{Turn}
use Rattle.script_run.specs.Ledger.{IsLeftAlone}
use Rattle.script_run.specs.Takes.{IsRun, output_of, run_after}
use Rattle.script_laws.specs.Parting.{AreToldApart, DisplacesPiece}
use Rattle.run_promise.specs.declared.status.Status.TheVariants as status
use Rattle.run_promise.specs.Story.{Taken, told_by_records}
use Rattle.run_promise.specs.Top.{ComeBackSteady, EachBack, IsSteady}
use Rattle.headline.specs.Account.{AllTell, IsConcluded, RunLogs}
use Rattle.headline.specs.Reads.{DidBefore}

-- each device that came back since told its content to the end, and refused nothing
abbrev pub AreSteady : RunLogs → Type 0
AreSteady l = (devices : List Device) → l.now.returned ≡ l.before.returned ++ devices → AllByRecursion IsSteady devices

-- each device that came back since has a switch, as one in memory does
abbrev pub AreSwitched : RunLogs → Type 0
AreSwitched l = (devices : List Device) → l.now.returned ≡ l.before.returned ++ devices
    → AllByRecursion (λ (device : Device). device.has_switch ≡ true) devices

-- the switch of none was told anything, and no bit was turned
abbrev pub AreAlone : RunLogs → Type 0
AreAlone l = (devices : List Device) → l.now.returned ≡ l.before.returned ++ devices
    → AllByRecursion (λ (device : Device). IsLeftAlone device.past) devices

-- what the clause `steady` of the top call says gives the premises of the laws on honest devices, where each has a switch that
-- was told nothing
abbrev pub SwitchedRunsAreSteady : Type 0
SwitchedRunsAreSteady = (l : RunLogs) → ComeBackSteady l.before.returned l.now.returned → AreSwitched l → AreAlone l → AreSteady l × AllTell l

-- the sources of two runs gave the same text
pub record GiveSame (l m : RunLogs) : Type 0 where
  pub reads : List SourceRead
  pub others : List SourceRead
  pub since : l.read ≡ reads ++ l.first
  pub since_too : m.read ≡ others ++ m.first
  pub same : text_read reads ≡ text_read others

-- their sinks took the same bytes
pub record TakeSame (l m : RunLogs) : Type 0 where
  pub output : List ℕ
  pub taken : taken_by l.new ≡ taken_by l.old ++ output
  pub taken_too : taken_by m.new ≡ taken_by m.old ++ output

-- a legal run of these lines, which print what the sink took; the calls of its turns are all that the logs of its devices have
pub record HasHistory (l : RunLogs) (lines : List (List ℕ)) : Type 0 where
  pub turns : List Turn
  pub legal : IsRun fresh lines turns
  pub prints : taken_by l.new ≡ taken_by l.old ++ output_of fresh lines turns
  pub back : EachBack l.before l.now (told_by_records (run_after fresh lines turns))

-- in such a run of these lines a turn did
pub record HasDisplaced (l : RunLogs) (lines : List (List ℕ)) : Type 0 where
  pub history : HasHistory l lines
  pub turn : Turn
  pub among : IsAmong turn history.turns
  pub displaces : DisplacesPiece turn

-- the lines of the text that both sources gave displaced a piece, in the one run and in the other
pub record BothDisplaced (l m : RunLogs) (same : GiveSame l m) : Type 0 where
  pub lines : List (List ℕ)
  pub taken : Taken (text_read same.reads) lines []
  pub one : HasDisplaced l lines
  pub other : HasDisplaced m lines

-- one line of the text that both sources gave is for the switch of a device, which only one of the two runs has there
pub record SwitchesDiffer (l m : RunLogs) (same : GiveSame l m) : Type 0 where
  pub before : List (List ℕ)
  pub bytes : List ℕ
  pub after : List (List ℕ)
  pub taken : Taken (text_read same.reads) (before ++ bytes ∷ after) []
  pub one : HasHistory l (before ++ bytes ∷ after)
  pub other : HasHistory m (before ++ bytes ∷ after)
  pub did : DidBefore one.turns before
  pub did_too : DidBefore other.turns before
  pub apart : AreToldApart did.turn did_too.turn

-- two runs that were read to their end, over sources that gave the same and devices that were steady, wrote the same, or both
-- of them displaced a piece, or their switches differ
abbrev pub SourceFixesSink : Type 0
SourceFixesSink = (l m : RunLogs) → IsConcluded l status.Done → IsConcluded m status.Done
    → (same : GiveSame l m) → AreSteady l → AreSteady m → TakeSame l m ⊎ BothDisplaced l m same ⊎ SwitchesDiffer l m same
