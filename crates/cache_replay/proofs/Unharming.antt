-- What was told of the device at hand: the calls of its log, no more faults than it counted, and no damage where it tells
-- its content.
use Rattle.std.proofs.Common.{◌≡◌, ℕ, ◌≤◌, List, [], ◌∷◌, ◌++◌, refl, sym, ap, subst}
use Rattle.std.specs.Prelude.{Option, Some, None, is_some, map, option_map}
use Rattle.device_log.specs.Calls.{Call}
use Rattle.logged_disk.specs.Device.{DeviceState as Device}
use Rattle.logged_disk.specs.declared.device.Disk.{Ghosts as DiskGhosts}
use Rattle.cache_model.specs.State.{State}
use Rattle.call_laws.specs.Moments.{At}
use Rattle.cache_calls.specs.declared.calls.Calls.{Ghosts as CallsGhosts}
use Rattle.cache_calls.specs.Keeping.{IsUnharmed, state_at}
use Rattle.script_run.specs.Run.{Harm, Run, at_hand, loosened}
use Rattle.script_run.specs.Behind.{harm_in, harm_of, own_harm}
use Rattle.script_run.specs.Ledger.{AreReached}
use Rattle.cache_replay.specs.declared.session.Part.{Part}
use Rattle.cache_replay.specs.declared.session.Bare.{Bare}
use Rattle.cache_replay.specs.declared.session.Replay.{Replay}
use Rattle.cache_replay.specs.Session.{HoldingSeen, IsAt, at_in, return_of, slots_in}
use Rattle.run_promise.specs.Outline.{outline_in, told_of}
use Rattle.cache_replay.specs.Plays.{CallsAt, IsUnharmedAt, PlaysAt}
use Rattle.cache_replay.specs.Replay.{HasReached, IsAlone, IsBareAs, IsOutlined, IsReplay, PlaysOn, bare_return, returns_in}

-- what was told of devices stands where they may have made more calls
pub reached_loosely : (harms : List Harm) (devices : List Device) → AreReached harms devices → AreReached (map loosened harms) devices
reached_loosely [] [] h = tt
reached_loosely [] (d ∷ devices) h = absurd h
reached_loosely (harm ∷ harms) [] h = absurd h
reached_loosely (harm ∷ harms) (d ∷ devices) h = (record { made = h.0.made; all = λ no. cc; counted = h.0.counted; unharmed = h.0.unharmed; switched = h.0.switched }, reached_loosely harms devices h.1)

-- the outline of a run tells of its session what the run does
same_own : (calls : List Call) (state : Option State) → told_of (option_map (λ s. loosened (harm_in calls s)) state) ≡ map loosened (harm_of calls state)
same_own calls None = refl
same_own calls (Some s) = refl

one_reached : (a : At) (calls : List Call) → a.device.past ≡ calls → (state_at a).fault ≤ a.device.faults → IsUnharmed a
    → AreReached (harm_in calls (state_at a) ∷ []) (a.device ∷ [])
one_reached a calls are counted h = (record { made = record { later = []; is = are }; all = λ yes. are; counted = counted; unharmed = λ trusted. h.unharmed trusted; switched = tt }, tt)

module _ {S W R : Type 0} {c : CallsGhosts S W R} where
  -- whether there is a session is as the run has it
  pub stands_as : (run : Run) (part : Option (Part S W R c)) (slots : ℕ → Option HoldingSeen) → PlaysAt run part slots → is_some run.state ≡ is_some part
  stands_as run None slots plays = ap is_some plays.state
  stands_as run (Some part) slots plays = ap is_some plays.state

module _ {D : Type 0} {d : DiskGhosts D} where
  -- a bare device is as was told
  bare_reached : (calls : List Call) (last : Option State) (bare : Option (Bare D d)) → IsBareAs calls last bare → AreReached (harm_of calls last) (bare_return bare)
  bare_reached calls None None is = tt
  bare_reached calls (Some t) (Some bare) is = (is, tt)
  bare_reached calls None (Some bare) is = absurd is
  bare_reached calls (Some t) None is = absurd is

module _ {D S W R : Type 0} {d : DiskGhosts D} {c : CallsGhosts S W R} where
  own_reached : (run : Run) (part : Option (Part S W R c)) (bare : Option (Bare D d)) (slots : ℕ → Option HoldingSeen) → IsAlone part bare → IsAt part slots
      → PlaysAt run part slots → IsUnharmedAt part → CallsAt run part → IsBareAs run.calls run.last bare
      → AreReached (own_harm run) (return_of part ++ bare_return bare)
  own_reached run None bare slots alone h plays unharmed calls is =
      subst (λ o. AreReached (harm_of run.calls (at_hand o run.last)) (bare_return bare)) (sym plays.state) (bare_reached run.calls run.last bare is)
  own_reached run (Some part) None slots alone h plays unharmed calls is =
      subst (λ o. AreReached (harm_of run.calls (at_hand o run.last)) (return_of (Some part))) (sym plays.state)
      (one_reached (at_in part) run.calls calls h.part_is.rest.counted unharmed)
  own_reached run (Some part) (Some bare) slots alone h plays unharmed calls is = absurd alone

  -- the device at hand is as was told
  pub plays_reached : (run : Run) (replay : Replay D S W R d c) → IsReplay replay → PlaysOn run replay → HasReached run replay
  plays_reached run replay h plays =
      own_reached run replay.session.part replay.bare (slots_in replay.session) h.alone h.session plays.session.at plays.session.unharmed plays.session.calls plays.bare

  -- so the run's outline has it
  pub plays_outlined : (run : Run) (replay : Replay D S W R d c) → IsReplay replay → PlaysOn run replay → IsOutlined (outline_in run) replay
  plays_outlined run replay h plays = record {
    reached = subst (λ harms. AreReached harms (returns_in replay)) (sym (same_own run.calls (at_hand run.state run.last)))
        (reached_loosely (own_harm run) (returns_in replay) (plays_reached run replay h plays));
    stands = stands_as run replay.session.part (slots_in replay.session) plays.session.at;
  }
