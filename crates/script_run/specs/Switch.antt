-- What a line tells the switch of its device.
use Rattle.std.specs.Prelude.{ℕ, ◌≡◌, ◌⊎◌, Bool, false, true, List, [], ◌∷◌, Option, Some, None, is_some}
use Rattle.tape_base.specs.declared.geometries.Geometry.{Geometry}
use Rattle.device_log.specs.declared.choice.CutChoice.{CutChoice}
use Rattle.device_log.specs.Calls.{PowerCut}
use Rattle.cache_answers.specs.declared.answers.SwitchOrder.{SwitchOrder}
use Rattle.cache_answers.specs.declared.answers.SwitchOrder.TheVariants as order
use Rattle.cache_answers.specs.Orders.{call_of_order}
use Rattle.script_grammar.specs.declared.step.Step.{Step}
use Rattle.script_grammar.specs.declared.step.Step.TheVariants as step
use Rattle.script_run.specs.Turn.{Turn}

-- the order of a line of the switch
abbrev pub order_of_step : Step → Option SwitchOrder
order_of_step (step.Fail nth) = Some (order.Fail nth)
order_of_step (step.StopAfter calls) = Some (order.StopAfter calls)
order_of_step (step.Flip place byte) = Some (order.Flip place byte)
order_of_step _ = None

-- such a line, or one that cuts the power
abbrev pub is_of_switch : Step → Bool
is_of_switch (step.Cut choice) = true
is_of_switch asks = is_some (order_of_step asks)

-- a line for the switch that needs no session, but a device at hand
abbrev pub is_of_device : Step → Bool
is_of_device (step.Fail nth) = true
is_of_device (step.StopAfter calls) = true
is_of_device (step.Cut choice) = true
is_of_device _ = false

-- it is one call of a device that has a switch, and of another device none, and does nothing else; no other line tells a
-- switch anything
abbrev pub TreatsSwitch : Geometry → Option SwitchOrder → Turn → Type 0
TreatsSwitch g None turn = turn.told ≡ []
TreatsSwitch g (Some o) turn = (turn.device.events ≡ []) × ((turn.told ≡ call_of_order g o ∷ []) ⊎ (turn.told ≡ []))

-- a line that adds no record, gives no bytes and makes no call of the device but by its switch
pub record OnlyTells (turn : Turn) : Type 0 where
  pub added : turn.added ≡ []
  pub refused : turn.refused ≡ None
  pub given : turn.given ≡ []
  pub events : turn.device.events ≡ []

-- a cut is one call of a device that has a switch, which tells what it left, and does nothing else
pub record CutsPower (choice : CutChoice) (turn : Turn) : Type 0 where
  pub only : OnlyTells turn
  pub left : List ℕ
  pub told : turn.told ≡ PowerCut choice left ∷ []

-- of a device that has none it is no call
pub record CutsNothing (turn : Turn) : Type 0 where
  pub only : OnlyTells turn
  pub told : turn.told ≡ []
