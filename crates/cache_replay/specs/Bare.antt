-- What lines for a bare device come to, and what a cut leaves of a session.
use Rattle.std.specs.Prelude.{ℕ, ◌≡◌, max, Bool, true, false, not, List, [], ◌∷◌, None, Option, Some, Result, Ok, Err, IfOk}
use Rattle.std.specs.declared.alloc.AllocError.{AllocError}
use Rattle.device_log.specs.Calls.{Call, Fail, PowerCut, StopAfter, Told}
use Rattle.logged_disk.specs.Device.{DeviceState as Device}
use Rattle.logged_disk.specs.declared.device.Disk.{Ghosts as DiskGhosts}
use Rattle.cache_answers.specs.Orders.{HasMade}
use Rattle.cache_calls.specs.declared.calls.Calls.{Ghosts as CallsGhosts}
use Rattle.script_grammar.specs.declared.step.Step.{Step}
use Rattle.script_grammar.specs.declared.step.Step.TheVariants as step
use Rattle.script_grammar.specs.declared.answer.Refused.TheVariants as refused
use Rattle.script_grammar.specs.declared.answer.StepAnswer.{StepAnswer}
use Rattle.script_grammar.specs.declared.answer.StepAnswer.TheVariants as answer
use Rattle.cache_replay.specs.declared.bare_lines.BareOrder.{BareOrder}
use Rattle.cache_replay.specs.declared.bare_lines.BareOrder.TheVariants as order
use Rattle.cache_replay.specs.declared.session.Bare.{Bare}
use Rattle.cache_replay.specs.declared.session.Part.{Part}
use Rattle.cache_replay.specs.declared.session.Replay.{Replay}
use Rattle.cache_replay.specs.declared.stop.Stop.{Stop}
use Rattle.cache_replay.specs.declared.stop.Stop.TheVariants.{Memory, NoCache}
use Rattle.cache_replay.specs.Replay.{actors_in}
use Rattle.cache_replay.specs.Session.{at_in, slots_in}

-- the line of an order
abbrev pub step_of_bare : BareOrder → Step
step_of_bare (order.Fail nth) = step.Fail nth
step_of_bare (order.StopAfter calls) = step.StopAfter calls
step_of_bare (order.Cut choice) = step.Cut choice

-- this is the call that it is; a cut tells what it left
abbrev pub IsBareCall : BareOrder → Call → Type 0
IsBareCall (order.Fail nth) call = call ≡ Told (Fail (max 1 nth))
IsBareCall (order.StopAfter calls) call = call ≡ Told (StopAfter calls)
IsBareCall (order.Cut choice) call = (left : List ℕ) × (call ≡ PowerCut choice left)

-- a device that has a switch made that call, and another one none
abbrev pub IsToldBare : BareOrder → Result Bool AllocError → List Call → Type 0
IsToldBare o (Ok true) made = (call : Call) × IsBareCall o call × (made ≡ call ∷ [])
IsToldBare o (Ok false) made = made ≡ []
IsToldBare o (Err e) made = made ≡ []

-- an order to a device, which made these calls for it; where memory was wanting it made none
pub record TellsBare (o : BareOrder) (old new : Device) (result : Result Bool AllocError) : Type 0 where
  pub has : IfOk result (λ has. has ≡ old.has_switch)
  pub made : List Call
  pub told : IsToldBare o result made
  pub goes : HasMade made old new

-- what is answered where the device was told it
abbrev pub told_of_order : BareOrder → StepAnswer
told_of_order (order.Fail nth) = answer.Armed
told_of_order (order.StopAfter calls) = answer.Armed
told_of_order (order.Cut choice) = answer.Cut

-- what is answered by whether it was
abbrev pub answer_of_order : BareOrder → Result Bool AllocError → Result StepAnswer Stop
answer_of_order o (Ok true) = Ok (told_of_order o)
answer_of_order o (Ok false) = Ok (answer.Refused refused.NoSwitch None)
answer_of_order o (Err e) = Err Memory

-- an order to a bare device: what the device made of it, and what the line answers
pub record AnswersOrderTo (o : BareOrder) (old new : Device) (result : Result StepAnswer Stop) : Type 0 where
  pub asked : Result Bool AllocError
  pub answers : result ≡ answer_of_order o asked
  pub tells : TellsBare o old new asked

module _ {D : Type 0} {d : DiskGhosts D} where
  -- without a device there is no cache
  abbrev pub AnswersBare : BareOrder → (old new : Option (Bare D d)) → Result StepAnswer Stop → Type 0
  AnswersBare o None None result = result ≡ Err NoCache
  AnswersBare o (Some old) (Some new) result = AnswersOrderTo o (d.state old.device) (d.state new.device) result
  AnswersBare o old new result = ⊥

module _ {S W R : Type 0} {c : CallsGhosts S W R} where
  -- there is a session whose device has no switch
  abbrev pub is_switchless_at : Option (Part S W R c) → Bool
  is_switchless_at None = false
  is_switchless_at (Some part) = not (at_in part).device.has_switch

module _ {D S W R : Type 0} {d : DiskGhosts D} {c : CallsGhosts S W R} where
  -- the device of the session, where there was one
  abbrev pub IsBareOf : Option (Part S W R c) → (old new : Option (Bare D d)) → Type 0
  IsBareOf None old new = new ≡ old
  IsBareOf (Some part) old new = (bare : Bare D d) × (new ≡ Some bare) × (d.state bare.device ≡ (at_in part).device)

  -- so it is of a replay
  abbrev pub is_switchless : Replay D S W R d c → Bool
  is_switchless replay = is_switchless_at replay.session.part

  -- a session is over, with its writers and readers, and its device is bare
  pub record IsLaidBare (old new : Replay D S W R d c) : Type 0 where
    pub part : new.session.part ≡ None
    pub bare : IsBareOf old.session.part old.bare new.bare
    pub slots : (n : ℕ) → slots_in new.session n ≡ None
    pub names : actors_in new ≡ actors_in old
    pub now : new.session.now ≡ old.session.now
