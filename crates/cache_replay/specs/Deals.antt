-- What a step comes to, with the devices that a bay gave and took back meanwhile.
use Rattle.std.specs.Prelude.{ℕ, ◌≡◌, ◌+◌, ◌<◌, ◌≤◌, ◌++◌, List, [], ◌∷◌, false, is_some, length, true, Result, IfOk, IfErr}
use Rattle.tape_base.specs.declared.geometries.Geometry.{Geometry}
use Rattle.logged_disk.specs.Device.{DeviceState as Device}
use Rattle.device_bay.specs.Calls.{BayCall, names_of, out_of, returned_by}
use Rattle.cache_model.specs.Legal.{format_records}
use Rattle.logged_disk.specs.declared.device.Disk.{Ghosts as DiskGhosts}
use Rattle.cache_calls.specs.declared.calls.Calls.{Ghosts as CallsGhosts}
use Rattle.script_grammar.specs.declared.step.Step.{Step}
use Rattle.script_grammar.specs.declared.answer.StepAnswer.{StepAnswer}
use Rattle.tape_base.specs.Place.{device_blocks_of}
use Rattle.device_log.specs.Calls.{Call}
use Rattle.script_run.specs.Behind.{harm_of_format, with_format, without_session}
use Rattle.script_run.specs.Ledger.{AreReached, Deals, KeepsOrder, ledger_behind}
use Rattle.script_run.specs.Run.{Harm, Run, loosened, no_harm}
use Rattle.script_run.specs.Takes.{LaysOut, StopsFormat}
use Rattle.cache_replay.specs.declared.beginning.Tried.{Tried}
use Rattle.cache_replay.specs.declared.beginning.Tried.TheVariants as tried
use Rattle.cache_replay.specs.declared.session.Replay.{Replay}
use Rattle.cache_replay.specs.declared.stop.Stop.{Stop}
use Rattle.run_promise.specs.Outline.{Outline}
use Rattle.cache_replay.specs.Replay.{DeviceEnds, IsLeftAtEnd, IsOutlined, IsReplay, Outlines, PlaysOn, actors_in, devices_in, returns_in}
use Rattle.run_promise.specs.Needs.{AttachesAs}
use Rattle.cache_replay.specs.Stop.{IsFormatStop, RefusesAtStop, RefusesNone, StopsStep}

-- these devices were given back, and nothing else was done
pub record GivesBack (devices : List Device) (before after : List BayCall) : Type 0 where
  pub back : returned_by after ≡ returned_by before ++ devices
  pub out : out_of after + length devices ≡ out_of before
  pub order : (own : List Device) → KeepsOrder (devices ++ own) before own after
  pub names : names_of after ≡ names_of before
  pub refusals : RefusesNone before after

-- none was given or came back, though an attach may have been refused
pub record GivesNone (before after : List BayCall) : Type 0 where
  pub back : returned_by after ≡ returned_by before
  pub out : out_of after ≡ out_of before
  pub order : (own : List Device) → KeepsOrder own before own after
  pub names : names_of after ≡ names_of before

module _ {D S W R : Type 0} {d : DiskGhosts D} {c : CallsGhosts S W R} where
  -- a step, whatever it is: beside each run it did what it must, or shows a pair; its answer, whatever the records are worth;
  -- what it leaves that ended the run, and why; and each device is kept, attached or given back
  pub record AnswersStep (step : Step) (old new : Replay D S W R d c) (before after : List BayCall) (result : Result StepAnswer Stop) : Type 0 where
    pub replay : IsReplay new
    pub ends : IfOk result (λ said. (run : Run) → PlaysOn run old → DeviceEnds run step new said (ledger_behind before) (ledger_behind after))
    pub outline : IfOk result (λ said. (o : Outline) → IsOutlined o old → Outlines o step new said (ledger_behind before) (ledger_behind after))
    pub left : IfErr result (λ why. (harms : List Harm) → AreReached harms (returns_in old)
        → IsLeftAtEnd harms step new (ledger_behind before) (ledger_behind after) why)
    pub stop : IfErr result (StopsStep old step before after)
    pub out : out_of after + devices_in old ≡ out_of before + devices_in new
    pub names : length (actors_in new) ≤ length (actors_in old) + 1
    pub order : KeepsOrder (returns_in old) before (returns_in new) after
    pub refusals : RefusesAtStop before after result

  -- a session began on a device of this name, which made these calls
  pub record HasBegun (name : List ℕ) (geometry : Geometry) (old new : Replay D S W R d c) (before after : List BayCall) : Type 0 where
    pub calls : List Call
    pub laid : LaysOut geometry calls
    pub plays : (run : Run) → PlaysOn run old → PlaysOn (with_format run name calls (format_records geometry)) new
    pub begun : AreReached (loosened no_harm ∷ []) (returns_in new)
    pub stands : is_some new.session.part ≡ true
    pub deals : (harms : List Harm) → AreReached harms (returns_in old) → Deals (ledger_behind before) (ledger_behind after) harms (name ∷ [])

  -- or it refused one of these, and came back behind that of the session before; no session stands
  pub record HasFailed (name : List ℕ) (geometry : Geometry) (count : ℕ) (old new : Replay D S W R d c) (before after : List BayCall) : Type 0 where
    pub calls : List Call
    pub stopped : StopsFormat geometry count calls
    pub some : 0 < count
    pub none : returns_in new ≡ []
    pub stands : is_some new.session.part ≡ false
    pub plays : (run : Run) → PlaysOn run old → PlaysOn (without_session run name calls count) new
    pub deals : (harms : List Harm) → AreReached harms (returns_in old)
        → Deals (ledger_behind before) (ledger_behind after) (harms ++ harm_of_format calls count ∷ []) (name ∷ [])

  -- the one or the other
  abbrev pub IsTried : List ℕ → Geometry → (old new : Replay D S W R d c) → (before after : List BayCall) → Tried → Type 0
  IsTried name geometry old new before after tried.Begun = HasBegun name geometry old new before after
  IsTried name geometry old new before after (tried.Refused count) = HasFailed name geometry count old new before after

  -- the device of this name was attached and tried, and that of the session before came back; or the run ended
  pub record FormatsAs (name : List ℕ) (geometry : Geometry) (old new : Replay D S W R d c) (before after : List BayCall) (result : Result Tried Stop) : Type 0 where
    pub replay : IsReplay new
    pub tried : IfOk result (IsTried name geometry old new before after)
    pub left : IfErr result (λ why. (harms : List Harm) (step : Step) → AttachesAs name step → AreReached harms (returns_in old)
        → IsLeftAtEnd harms step new (ledger_behind before) (ledger_behind after) why)
    pub stop : IfErr result (IsFormatStop name (device_blocks_of geometry) before after)
    pub out : out_of after + devices_in old ≡ out_of before + devices_in new
    pub names : actors_in new ≡ actors_in old
    pub order : KeepsOrder (returns_in old) before (returns_in new) after
    pub refusals : RefusesAtStop before after result
