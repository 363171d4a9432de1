-- What an inspection of a device concludes, and what a check does.
use Rattle.std.specs.Prelude.{◌≡◌, ◌≤◌, ◌⊎◌, ℕ, Bool, true, false, List, [], ◌∷◌, ◌++◌, length, Result, Ok, Err, string_bytes, ⊤}
use Rattle.device_log.specs.Image.{Image}
use Rattle.device_log.specs.Streams.{SinkWrite}
use Rattle.logged_disk.specs.Device.{DeviceState as Device}
use Rattle.script_grammar.specs.declared.last_line.LastLine.TheVariants as last
use Rattle.script_grammar.specs.Texts.{last_line}
use Rattle.script_run.specs.Ledger.{Ledger}
use Rattle.device_reads.specs.declared.reads.ReadFault.{ReadFault}
use Rattle.device_reads.specs.declared.reads.ReadFault.TheVariants.{DeviceFault, Memory}
use Rattle.device_reads.specs.Reads.{AreReads, Tell, WasLast}
use Rattle.inspections.specs.declared.device.Inspection.{Inspection}
use Rattle.inspections.specs.Check.{SaysOpening}
use Rattle.inspections.specs.Inspect.{Says}
use Rattle.inspections.specs.Lines.{nothing_line}
use Rattle.run_promise.specs.declared.status.Status.{Status}
use Rattle.run_promise.specs.declared.status.Status.TheVariants as status
use Rattle.run_promise.specs.Story.{Refusals, SendsFront, SinkTook}
use Rattle.run_promise.specs.Top.{WentOut}

-- what went out of these lines: all of them, and behind those of what does not open the last line, or a front of it; or a
-- write failed, and a front of them did
abbrev pub PrintsLines : (text : List ℕ) → (opens : Bool) → (old new : List SinkWrite) → Status → Type 0
PrintsLines text opens old new status.Done = (opens ≡ true) × SinkTook old new text
PrintsLines text opens old new status.NoCache = (opens ≡ false) × WentOut old new text nothing_line
PrintsLines text opens old new status.WriteFault = SendsFront old new [] text
PrintsLines text opens old new s = ⊥

-- nothing went out, for want of memory
abbrev pub WantsInspection : (old new : List SinkWrite) → Status → Type 0
WantsInspection old new s = (s ≡ status.OutOfMemory) × (new ≡ old)

-- the last line of what was refused went out, or a front of it
abbrev pub PrintsFault : (old new : List SinkWrite) → Status → Type 0
PrintsFault old new s = (s ≡ status.BayFault) × WentOut old new [] (last_line last.BayFault)

-- what goes out of an inspection
abbrev pub PrintsSaid : Result Inspection ReadFault → (old new : List SinkWrite) → Status → Type 0
PrintsSaid (Ok said) old new s = PrintsLines (string_bytes said.text) said.opens old new s
PrintsSaid (Err (DeviceFault count)) old new s = PrintsFault old new s ⊎ WantsInspection old new s
PrintsSaid (Err (Memory e)) old new s = WantsInspection old new s

-- what is said of a device of so many blocks with this content: its lines, and whether it opens
abbrev pub Sayings : Type 1
Sayings = ℕ → Image → List ℕ → Bool → Type 0

-- no read failed, and the lines went out that are said of each image with which the reads of the device agree
pub record PrintsInspection (Said : Sayings) (device : Device) (old new : List SinkWrite) (s : Status) : Type 0 where
  pub text : List ℕ
  pub opens : Bool
  pub unrefused : device.faults ≡ 0
  pub says : Tell device.past (λ c. Said device.size c text opens)
  pub out : PrintsLines text opens old new s

-- the last read of the device failed
pub record FaultsInspection (device : Device) (old new : List SinkWrite) (s : Status) : Type 0 where
  pub count : ℕ
  pub last_call : WasLast count device
  pub out : PrintsFault old new s

-- The device of that name was attached at its own size, read alone, each block at most once, by few calls, and came back. Its
-- log begins with its attach.
pub record InspectsDevice (Said : Sayings) (IsFew : ℕ → Type 0) (name : List ℕ) (old new : List SinkWrite) (bay : Refusals) (before now : Ledger) (s : Status) : Type 0 where
  pub device : Device
  pub attached : now.names ≡ before.names ++ name ∷ []
  pub returned : now.returned ≡ before.returned ++ device ∷ []
  pub unrefused : bay.now ≡ bay.before
  pub reads : AreReads 0 device.size device.past
  pub few : IsFew (length device.past)
  pub out : PrintsInspection Said device old new s ⊎ (FaultsInspection device old new s ⊎ WantsInspection old new s)

-- the attach of the device of that name was refused
pub record RefusesDevice (name : List ℕ) (old new : List SinkWrite) (bay : Refusals) (before now : Ledger) (s : Status) : Type 0 where
  pub count : ℕ
  pub refused : bay.now ≡ bay.before ++ record { name = name; blocks = 0; count = count } ∷ []
  pub unattached : now ≡ before
  pub out : PrintsFault old new s

-- no device was attached, and nothing went out
pub record WantsDevice (old new : List SinkWrite) (before now : Ledger) (s : Status) : Type 0 where
  pub wants : WantsInspection old new s
  pub unattached : now ≡ before

-- what comes of looking at the device of that name
abbrev pub LooksAt : (Said : Sayings) → (IsFew : ℕ → Type 0) → (name : List ℕ) → (old new : List SinkWrite) → (bay : Refusals) → (before now : Ledger) → Status → Type 0
LooksAt Said IsFew name old new bay before now s =
    InspectsDevice Said IsFew name old new bay before now s ⊎ (RefusesDevice name old new bay before now s ⊎ WantsDevice old new before now s)

-- an inspection makes four calls at most
abbrev pub Inspects : (name : List ℕ) → (old new : List SinkWrite) → (bay : Refusals) → (before now : Ledger) → Status → Type 0
Inspects = LooksAt Says (λ n. n ≤ 4)

-- a check makes any number
abbrev pub Checks : (name : List ℕ) → (old new : List SinkWrite) → (bay : Refusals) → (before now : Ledger) → Status → Type 0
Checks = LooksAt SaysOpening (λ n. ⊤)
