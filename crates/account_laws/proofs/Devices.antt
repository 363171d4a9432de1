-- What was told of devices, and the devices that came back.
use Rattle.std.proofs.Common.{◌≡◌, ℕ, ◌≤◌, List, [], ◌∷◌, ◌++◌, refl, sym, ◌∙◌, ap, true, arith, inl, inr, append_assoc}
use Rattle.std.specs.Prelude.{Bool, map}
use Rattle.std.specs.List.{AllByRecursion}
use Rattle.std.proofs.lemmas.Bool.{false_from_ne_true}
use Rattle.device_log.specs.Calls.{Call}
use Rattle.logged_disk.specs.Device.{DeviceState as Device}
use Rattle.cache_model.proofs.Found.{no_truth}
use Rattle.script_run.specs.Run.{Harm, loosened, no_harm}
use Rattle.script_run.specs.Ledger.{AreReached, ComeBack, GoesOnFrom, IsReached}
use Rattle.run_promise.specs.Story.{DevicesTold, all_in, own_loosened}
use Rattle.run_promise.specs.Top.{EachBackOrMore}
use Rattle.headline.specs.Account.{AreBack, ComeBackFrom, RunLogs}

-- ---- more that is told

pub goes_on : (a b c : List Call) → GoesOnFrom a b → GoesOnFrom b c → GoesOnFrom a c
goes_on a b c h g = record { later = g.later ++ h.later; is = g.is ∙ (ap (λ (xs : List Call). g.later ++ xs) h.is ∙ sym (append_assoc g.later h.later a)) }

pub goes_on_none : (a : List Call) → GoesOnFrom a a
goes_on_none a = record { later = []; is = refl }

-- all that is told in the first is told in the other
pub record IsWithin (x y : Harm) : Type 0 where
  pub faults : x.fault ≤ y.fault
  pub damage : x.damaged ≡ true → y.damaged ≡ true
  pub calls : GoesOnFrom x.calls y.calls
  pub switches : (has : Bool) → AllByRecursion (λ told. has ≡ told) y.switches → AllByRecursion (λ told. has ≡ told) x.switches

-- so it is of each of these, and more devices are told of behind them
abbrev pub AreWithin : List Harm → List Harm → Type 0
AreWithin [] ys = Unit {0}
AreWithin (x ∷ xs) [] = ⊥
AreWithin (x ∷ xs) (y ∷ ys) = IsWithin x y × AreWithin xs ys

pub within_self : (x : Harm) → IsWithin x x
within_self x = record { faults = omega arith; damage = λ e. e; calls = goes_on_none x.calls; switches = λ has h. h }

pub within_loosened : (x : Harm) → IsWithin x (loosened x)
within_loosened x = record { faults = omega arith; damage = λ e. e; calls = goes_on_none x.calls; switches = λ has h. h }

within_trans : (x y z : Harm) → IsWithin x y → IsWithin y z → IsWithin x z
within_trans x y z h g = record {
  faults = omega (arith, h.faults, g.faults);
  damage = λ e. g.damage (h.damage e);
  calls = goes_on x.calls y.calls z.calls h.calls g.calls;
  switches = λ has told. h.switches has (g.switches has told);
}

pub all_within_trans : (xs ys zs : List Harm) → AreWithin xs ys → AreWithin ys zs → AreWithin xs zs
all_within_trans [] ys zs h g = tt
all_within_trans (x ∷ xs) [] zs h g = absurd h
all_within_trans (x ∷ xs) (y ∷ ys) [] h g = absurd g
all_within_trans (x ∷ xs) (y ∷ ys) (z ∷ zs) h g = (within_trans x y z h.0 g.0, all_within_trans xs ys zs h.1 g.1)

-- a front of them, and others behind it
pub within_behind : (xs ys zs : List Harm) → AreWithin ys zs → AreWithin (xs ++ ys) (xs ++ zs)
within_behind [] ys zs h = h
within_behind (x ∷ xs) ys zs h = (within_self x, within_behind xs ys zs h)

pub all_within_self : (xs : List Harm) → AreWithin xs xs
all_within_self [] = tt
all_within_self (x ∷ xs) = (within_self x, all_within_self xs)

pub within_front : (xs ys : List Harm) → AreWithin xs (xs ++ ys)
within_front [] ys = tt
within_front (x ∷ xs) ys = (within_self x, within_front xs ys)

all_within_loosened : (xs : List Harm) → AreWithin xs (map loosened xs)
all_within_loosened [] = tt
all_within_loosened (x ∷ xs) = (within_loosened x, all_within_loosened xs)

-- ---- devices of which more is told

reached_within : (x y : Harm) (d : Device) → IsWithin x y → IsReached (loosened y) d → IsReached (loosened x) d
reached_within x y d w h = record {
  made = goes_on x.calls y.calls d.past w.calls h.made;
  all = λ no. cc;
  counted = omega (arith, w.faults, h.counted);
  unharmed = λ tells. false_from_ne_true x.damaged (λ e. no_truth (sym (w.damage e) ∙ h.unharmed tells));
  switched = w.switches d.has_switch h.switched;
}

pub back_within : (xs ys : List Harm) (ds : List Device) → AreWithin xs ys → AreBack ys ds → AreBack xs ds
back_within [] ys ds w h = tt
back_within (x ∷ xs) [] ds w h = absurd w
back_within (x ∷ xs) (y ∷ ys) [] w h = absurd h
back_within (x ∷ xs) (y ∷ ys) (d ∷ ds) w h = (reached_within x y d w.0 h.0, back_within xs ys ds w.1 h.1)

reached_loosely : (x : Harm) (d : Device) → IsReached x d → IsReached (loosened x) d
reached_loosely x d h = record { made = h.made; all = λ no. cc; counted = h.counted; unharmed = h.unharmed; switched = h.switched }

back_reached : (xs : List Harm) (ds : List Device) → AreReached xs ds → AreBack xs ds
back_reached [] ds h = tt
back_reached (x ∷ xs) [] h = absurd h
back_reached (x ∷ xs) (d ∷ ds) h = (reached_loosely x d h.0, back_reached xs ds h.1)

-- ---- what is told of devices that came back

pub come_back : (l : RunLogs) (xs : List Harm) → ComeBack l.before.returned l.now.returned xs → ComeBackFrom l xs
come_back l xs h = record { devices = h.devices; returned = h.returned; told = back_reached xs h.devices h.reached }

pub come_within : (l : RunLogs) (xs ys : List Harm) → AreWithin xs ys → ComeBackFrom l ys → ComeBackFrom l xs
come_within l xs ys w h = record { devices = h.devices; returned = h.returned; told = back_within xs ys h.devices w h.told }

pub more_back : (l : RunLogs) (held : List ℕ) (given : ℕ) (t : DevicesTold) → EachBackOrMore l.before l.now held given t → ComeBackFrom l (all_in t)
more_back l held given t (inl each) = come_back l (all_in t) each.back
more_back l held given t (inr (inl wants)) =
    come_within l (all_in t) (all_in (own_loosened t)) (within_behind t.ended t.own (map loosened t.own) (all_within_loosened t.own))
    (come_back l (all_in (own_loosened t)) wants.devices.back)
more_back l held given t (inr (inr gave)) =
    come_within l (all_in t) (all_in t ++ no_harm ∷ []) (within_front (all_in t) (no_harm ∷ [])) (come_back l (all_in t ++ no_harm ∷ []) gave.deals.back)
