-- What calls of the pieces use up that ask no device.
use Rattle.std.proofs.Common.{◌≡◌, ℕ, ◌+◌, ◌≤◌, refl, sym, ◌∙◌, ap, subst, arith}
use Rattle.logged_disk.specs.Device.{DeviceState as Device, IsAfter, Keeps}
use Rattle.logged_disk.proofs.GoingOn.{asked_nothing, stays_put}
use Rattle.power_cuts.specs.Surviving.{LeaveCopies, NoneMade}
use Rattle.cyclone.specs.Cyclone.{SameButRows, Seen}
use Rattle.piece_answers.specs.Covers.{Uses}

-- so many records and entries
pub still_uses : (records entries room left : ℕ) (old new : Seen) → new.geometry ≡ old.geometry → new.device ≡ old.device → room ≤ left + records
    → old.spare ≤ new.spare + entries → Uses records entries 0 0 room left old new
still_uses records entries room left old new geometry still few spare = record {
  same = geometry;
  of_records = few;
  of_entries = spare;
  device = subst (Keeps 0 0 old.device) (sym still) (asked_nothing old.device).keeps;
  goes = subst (IsAfter old.device) (sym still) (stays_put old.device);
  leaves = subst (λ (d : Device). LeaveCopies old.geometry old.device.past d.past) (sym still) NoneMade;
  later = let same : new.device.faults ≡ old.device.faults = ap (λ (d : Device). d.faults) still in omega (arith, same);
}

-- records alone, where no more than entries goes
pub rows_use : (records room left : ℕ) (old new : Seen) → SameButRows old new → room ≤ left + records → Uses records 0 0 0 room left old new
rows_use records room left old new rest few =
    still_uses records 0 room left old new (ap (λ (y : Seen). y.geometry) rest.same) (ap (λ (y : Seen). y.device) rest.same) few (omega (arith, rest.spare))

-- behind others, and together
pub uses_behind : (records entries more others all_records all_entries calls blocks room left now : ℕ) (a b c : Seen) → Uses records entries calls blocks room left a b
    → Uses more others 0 0 left now b c → c.device ≡ b.device → records + more ≤ all_records → entries + others ≤ all_entries
    → Uses all_records all_entries calls blocks room now a c
uses_behind records entries more others all_records all_entries calls blocks room left now a b c first last still many few = record {
  same = last.same ∙ first.same;
  of_records = omega (arith, first.of_records, last.of_records, many);
  of_entries = omega (arith, first.of_entries, last.of_entries, few);
  device = subst (Keeps calls blocks a.device) (sym still) first.device;
  goes = subst (IsAfter a.device) (sym still) first.goes;
  leaves = subst (λ (d : Device). LeaveCopies a.geometry a.device.past d.past) (sym still) first.leaves;
  later = let same : c.device.faults ≡ b.device.faults = ap (λ (d : Device). d.faults) still in omega (arith, same, first.later);
}

-- what uses up less than that
pub uses_more : (records entries all_records all_entries calls blocks room left : ℕ) (a b : Seen) → Uses records entries calls blocks room left a b
    → records ≤ all_records → entries ≤ all_entries → Uses all_records all_entries calls blocks room left a b
uses_more records entries all_records all_entries calls blocks room left a b uses many few = record {
  same = uses.same;
  of_records = omega (arith, uses.of_records, many);
  of_entries = omega (arith, uses.of_entries, few);
  device = uses.device;
  goes = uses.goes;
  leaves = uses.leaves;
  later = uses.later;
}

-- where nothing was done, no more than any other call
pub nothing_used : (records entries calls blocks room : ℕ) (c : Seen) → Uses records entries calls blocks room room c c
nothing_used records entries calls blocks room c =
    record {
      same = refl;
      of_records = omega arith;
      of_entries = omega arith;
      device = record { size = refl; trust = omega arith; number = refl; switch = refl; settled = refl; first = refl; calls = omega arith; blocks = omega arith };
      goes = stays_put c.device;
      leaves = NoneMade;
      later = omega arith;
    }
