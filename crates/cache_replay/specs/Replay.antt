-- What a replay is for the run that it serves, a session or a bare device, and what a line makes of it.
use Rattle.std.specs.Prelude.{ℕ, ◌≡◌, ◌⊎◌, ⊤, List, [], ◌∷◌, ◌++◌, length, is_some, map, Option, Some, None}
use Rattle.device_log.specs.Calls.{Call}
use Rattle.logged_disk.specs.Device.{DeviceState as Device}
use Rattle.logged_disk.specs.declared.device.Disk.{Ghosts as DiskGhosts}
use Rattle.cache_model.specs.State.{State}
use Rattle.cache_calls.specs.declared.calls.Calls.{Ghosts as CallsGhosts}
use Rattle.script_grammar.specs.declared.answer.StepAnswer.{StepAnswer}
use Rattle.script_grammar.specs.declared.step.Step.{Step}
use Rattle.script_run.specs.Run.{Harm, Run, loosened, no_harm}
use Rattle.script_run.specs.Turn.{Turn}
use Rattle.script_run.specs.Answers.{step_answer}
use Rattle.script_run.specs.Behind.{after_step, harm_in, own_harm, with_calls_of}
use Rattle.script_run.specs.Ledger.{AreReached, Deals, IsReached, Ledger}
use Rattle.script_run.specs.Takes.{StepShows, StepTakes}
use Rattle.cache_replay.specs.declared.session.Bare.{Bare}
use Rattle.cache_replay.specs.declared.session.Part.{Part}
use Rattle.cache_replay.specs.declared.session.Replay.{Replay}
use Rattle.cache_replay.specs.declared.stop.Stop.{Stop}
use Rattle.cache_replay.specs.declared.stop.Stop.TheVariants.{Memory}
use Rattle.cache_replay.specs.Session.{IsSession, names_in, return_in}
use Rattle.cache_replay.specs.Plays.{Plays}
use Rattle.run_promise.specs.Outline.{IsAnswered, Outline, doubted, outline_after, outline_in, told_of}
use Rattle.run_promise.specs.Needs.{AttachesAs, NeedsSession}

module _ {D : Type 0} {d : DiskGhosts D} where
  -- a bare device, as it would be given back
  abbrev pub bare_return : Option (Bare D d) → List Device
  bare_return None = []
  bare_return (Some bare) = d.state bare.device ∷ []

  -- a bare device made the calls of the run, and what the last session left is told of it
  abbrev pub IsBareAs : List Call → Option State → Option (Bare D d) → Type 0
  IsBareAs calls None None = ⊤
  IsBareAs calls (Some t) (Some bare) = IsReached (harm_in calls t) (d.state bare.device)
  IsBareAs calls last bare = ⊥

module _ {D S W R : Type 0} {d : DiskGhosts D} {c : CallsGhosts S W R} where
  -- ---- a replay

  -- the device at hand, that of the session or a bare one
  abbrev pub returns_in : Replay D S W R d c → List Device
  returns_in replay = return_in replay.session ++ bare_return replay.bare

  -- how many devices are at hand
  abbrev pub devices_in : Replay D S W R d c → ℕ
  devices_in replay = length (returns_in replay)

  -- the names of the actors, in the order of their first steps
  abbrev pub actors_in : Replay D S W R d c → List (List ℕ)
  actors_in replay = names_in replay.session

  -- beside a bare device there is no session
  abbrev pub IsAlone : Option (Part S W R c) → Option (Bare D d) → Type 0
  IsAlone (Some part) (Some bare) = ⊥
  IsAlone part bare = ⊤

  -- what holds of a replay between lines
  pub record IsReplay (replay : Replay D S W R d c) : Type 0 where
    pub session : IsSession replay.session
    pub alone : IsAlone replay.session.part replay.bare

  -- ---- a replay beside a run

  -- a replay as the run has it, as long as no two documents of one SHA-256 were shown
  pub record PlaysOn (run : Run) (replay : Replay D S W R d c) : Type 0 where
    pub session : Plays run replay.session
    pub bare : IsBareAs run.calls run.last replay.bare

  -- the device at hand is as it was told
  abbrev pub HasReached : Run → Replay D S W R d c → Type 0
  HasReached run replay = AreReached (own_harm run) (returns_in replay)

-- a replay as the run has it has a device that is as it was told
module _ {D S W R : Type 0} (d : DiskGhosts D) (c : CallsGhosts S W R) where
  abbrev pub PlaysReach : Type 0
  PlaysReach = (run : Run) (replay : Replay D S W R d c) → IsReplay replay → PlaysOn run replay → HasReached run replay

module _ {D S W R : Type 0} {d : DiskGhosts D} {c : CallsGhosts S W R} where
  -- ---- a line

  -- a step did what it must, and this is its answer
  pub record ReplayMoves (run : Run) (step : Step) (new : Replay D S W R d c) (said : StepAnswer) : Type 0 where
    pub turn : Turn
    pub takes : StepTakes run turn step
    pub plays : PlaysOn (after_step run turn step) new
    pub says : step_answer run turn step ≡ said

  -- A step did what it must, this is its answer, the devices of what it ended came back, and its own was attached.
  pub record DeviceMoves (run : Run) (step : Step) (new : Replay D S W R d c) (said : StepAnswer) (before now : Ledger) : Type 0 where
    pub moves : ReplayMoves run step new said
    pub harms : List Harm
    pub ended : (after_step run moves.turn step).ended ≡ run.ended ++ harms
    pub names : List (List ℕ)
    pub named : (after_step run moves.turn step).names ≡ run.names ++ names
    pub deals : Deals before now harms names

  -- ---- whatever the records are worth

  -- an outline has the device at hand, where there is one, of which no count above its own was told, and a session where there
  -- is one
  pub record IsOutlined (o : Outline) (replay : Replay D S W R d c) : Type 0 where
    pub reached : AreReached (told_of o.session) (returns_in replay)
    pub stands : o.stands ≡ is_some replay.session.part

  -- A step was answered, the devices of what it ended came back, and its own was attached.
  pub record Outlines (o : Outline) (step : Step) (new : Replay D S W R d c) (said : StepAnswer) (before now : Ledger) : Type 0 where
    pub answered : IsAnswered o step said
    pub outlined : IsOutlined (outline_after o step said) new
    pub harms : List Harm
    pub ended : (outline_after o step said).ended ≡ o.ended ++ harms
    pub names : List (List ℕ)
    pub named : (outline_after o step said).names ≡ o.names ++ names
    pub deals : Deals before now harms names

  -- What a line leaves that ended the run for this reason, where so much was told of the device at hand: it and the bay
  -- are as they were; or the line works on that device and wanted memory, and may have made calls of it; or, of a format that
  -- wanted memory once its device was attached, both devices came back, the earlier one first, and none is at hand.
  pub data IsLeftAtEnd (harms : List Harm) (step : Step) (new : Replay D S W R d c) (before now : Ledger) (why : Stop) : Type 0 where
    stays : AreReached harms (returns_in new) → now ≡ before → IsLeftAtEnd harms step new before now why
    tried : NeedsSession step → why ≡ Memory → AreReached (map loosened harms) (returns_in new) → now ≡ before
        → IsLeftAtEnd harms step new before now why
    ended : (name : List ℕ) → AttachesAs name step → returns_in new ≡ [] → Deals before now (harms ++ no_harm ∷ []) (name ∷ []) → why ≡ Memory
        → IsLeftAtEnd harms step new before now why

  -- ---- a step that did what it must, or shows a pair

  -- A step shows two documents of one SHA-256, and from there on the outline goes on by the answer, which has the calls of that
  -- turn: the session's device made them. What is told of that device is doubted: it did not tell its content.
  pub record DeviceShows (run : Run) (step : Step) (new : Replay D S W R d c) (said : StepAnswer) (before now : Ledger) : Type 0 where
    pub turn : Turn
    pub shows : StepShows run turn run.state step
    pub outlines : Outlines (doubted (outline_in (with_calls_of run turn))) step new said before now

  -- it did what it must, or shows such a pair
  abbrev pub DeviceEnds : Run → Step → Replay D S W R d c → StepAnswer → (before now : Ledger) → Type 0
  DeviceEnds run step new said before now =
      DeviceMoves run step new said before now ⊎ DeviceShows run step new said before now
