-- Devices whose switch was told nothing, and of which no bit was turned, told their content and refused nothing.
use Rattle.std.proofs.Common.{◌≡◌, ℕ, true, List, [], ◌∷◌, ◌++◌, subst, arith}
use Rattle.std.specs.Prelude.{All}
use Rattle.std.proofs.lemmas.List.Elements.{All-tail}
use Rattle.logged_disk.specs.Device.{DeviceState as Device}
use Rattle.device_bay.specs.Calls.{BayCall, IsBayLog, IsDevice, returned_by}
use Rattle.device_bay.proofs.BayLemmas.{untold_has_no_fault, unturned_tells}
use Rattle.script_run.specs.Ledger.{InOrder, IsLeftAlone}
use Rattle.run_promise.specs.Top.{AreSteadyBySwitch, ComeBackSteady, IsSteady}

is_steady : (device : Device) → IsDevice device → IsLeftAlone device.past → device.has_switch ≡ true → IsSteady device
is_steady device is alone has = record {
  tells = unturned_tells device is has alone.unturned;
  unfaulted = untold_has_no_fault device is has alone.untold;
}

-- the devices behind others, of which all have a log that a device can have
each_steady : (front devices : List Device) → All IsDevice (front ++ devices) → AreSteadyBySwitch devices
each_steady [] [] all = tt
each_steady [] (device ∷ devices) all =
    (λ has alone. is_steady device (all 0 device (omega arith)) alone has, each_steady [] devices (All-tail IsDevice device devices all))
each_steady (first ∷ front) devices all = each_steady front devices (All-tail IsDevice first (front ++ devices) all)

pub steady_in_order : (given : ℕ) (own : List Device) (old new : List BayCall) → InOrder given own old new → IsBayLog new
    → ComeBackSteady (returned_by old) (returned_by new)
steady_in_order given own old new order log = record {
  devices = order.devices;
  returned = order.returned;
  steady = each_steady (returned_by old) order.devices (subst (λ l. All IsDevice l) order.returned log.devices);
}
