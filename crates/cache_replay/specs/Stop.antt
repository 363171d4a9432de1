-- When each reason to end the run comes.
use Rattle.std.specs.Prelude.{ℕ, ◌≡◌, Bool, true, false, List, None, Result, MatchResult, ⊤}
use Rattle.device_bay.specs.Calls.{BayCall, AttachRefusal, refusals_of}
use Rattle.device_bay.specs.Bay.{Refuses}
use Rattle.cache_calls.specs.declared.calls.Calls.{Ghosts as CallsGhosts}
use Rattle.script_grammar.specs.declared.step.Step.{Step}
use Rattle.run_promise.specs.Needs.{AttachesWith, NeedsSession}
use Rattle.logged_disk.specs.declared.device.Disk.{Ghosts as DiskGhosts}
use Rattle.script_run.specs.Switch.{is_of_device}
use Rattle.cache_replay.specs.declared.session.Replay.{Replay}
use Rattle.cache_replay.specs.declared.session.Session.{Session}
use Rattle.cache_replay.specs.declared.stop.Stop.{Stop}
use Rattle.cache_replay.specs.declared.stop.Stop.TheVariants.{NoCache, BayFault, Memory}

-- the attach that a step asks for is noted as refused, and nothing else is noted
pub record RefusesStep (step : Step) (old new : List BayCall) : Type 0 where
  pub refusal : AttachRefusal
  pub attaches : AttachesWith refusal.name refusal.blocks step
  pub refuses : Refuses refusal.name refusal.blocks refusal.count old new

-- a format ends the run where the bay refused its attach, or for want of memory
abbrev pub IsFormatStop : (name : List ℕ) (blocks : ℕ) → (old new : List BayCall) → Stop → Type 0
IsFormatStop name blocks old new BayFault = (count : ℕ) × Refuses name blocks count old new
IsFormatStop name blocks old new Memory = ⊤
IsFormatStop name blocks old new NoCache = ⊥

module _ {S W R : Type 0} {c : CallsGhosts S W R} where
  -- a line on a session does where there is none, or for want of memory
  abbrev pub IsSessionStop : Session S W R c → Stop → Type 0
  IsSessionStop session NoCache = session.part ≡ None
  IsSessionStop session BayFault = ⊥
  IsSessionStop session Memory = ⊤

module _ {D S W R : Type 0} {d : DiskGhosts D} {c : CallsGhosts S W R} where
  -- what a line needs is not there: a session, or for a line of a device any device
  pub record LacksIn (replay : Replay D S W R d c) (s : Step) : Type 0 where
    pub part : replay.session.part ≡ None
    pub bare : is_of_device s ≡ true → replay.bare ≡ None

  -- why a step ends the run, by the replay before it
  abbrev pub StopsStep : Replay D S W R d c → Step → (old new : List BayCall) → Stop → Type 0
  StopsStep replay s old new NoCache = NeedsSession s × LacksIn replay s
  StopsStep replay s old new BayFault = RefusesStep s old new
  StopsStep replay s old new Memory = ⊤

-- a fault of the bay ended the run
abbrev pub is_bay_stop : Stop → Bool
is_bay_stop BayFault = true
is_bay_stop _ = false

-- no attach was refused
abbrev pub RefusesNone : (old new : List BayCall) → Type 0
RefusesNone old new = refusals_of new ≡ refusals_of old

-- nor was one where a step is answered, or stops for another reason
abbrev pub RefusesAtStop : {T : Type 0} → (old new : List BayCall) → Result T Stop → Type 0
RefusesAtStop old new result =
    MatchResult result (λ _. RefusesNone old new) (λ why. is_bay_stop why ≡ false → RefusesNone old new)
