-- What an order does to a device, by its switch.
use Rattle.std.specs.Prelude.{◌≡◌, ◌≤◌, max, min, Bool, true, false, List, [], ◌∷◌, ◌++◌, IfOk, Result, Ok, Err}
use Rattle.std.specs.declared.alloc.AllocError.{AllocError}
use Rattle.tape_base.specs.declared.geometries.Geometry.{Geometry}
use Rattle.tape_base.specs.Place.{block_of}
use Rattle.device_log.specs.Calls.{Call, Fail, Flipped, StopAfter, Told}
use Rattle.logged_disk.specs.Device.{DeviceState as Device}
use Rattle.cache_answers.specs.declared.answers.SwitchOrder.{SwitchOrder}
use Rattle.cache_answers.specs.declared.answers.SwitchOrder.TheVariants as order

-- the call of the device that an order is, with a count from 1 and a byte of a block; the block of a place is that of its slot
abbrev pub call_of_order : Geometry → SwitchOrder → Call
call_of_order g (order.Fail nth) = Told (Fail (max 1 nth))
call_of_order g (order.StopAfter calls) = Told (StopAfter calls)
call_of_order g (order.Flip place byte) = Flipped (block_of g place) (min byte 511)

-- a device made these calls more, and refused none of them; it is the same device, and tells no more than before
pub record HasMade (made : List Call) (old new : Device) : Type 0 where
  pub size : new.size ≡ old.size
  pub trust : new.trust ≤ old.trust
  pub number : new.number ≡ old.number
  pub switch : new.has_switch ≡ old.has_switch
  pub settled : new.settled ≡ old.settled
  pub first : new.first ≡ old.first
  pub past : new.past ≡ made ++ old.past
  pub faults : new.faults ≡ old.faults

-- the calls of an order: one where the switch was told it, else none
abbrev pub calls_of_order : Call → Result Bool AllocError → List Call
calls_of_order call (Ok true) = call ∷ []
calls_of_order call (Ok false) = []
calls_of_order call (Err e) = []

-- the switch of a device was told an order, where the device has one; where memory was wanting it was told nothing
pub record TellsSwitch (call : Call) (old new : Device) (result : Result Bool AllocError) : Type 0 where
  pub has : IfOk result (λ has. has ≡ old.has_switch)
  pub made : HasMade (calls_of_order call result) old new
