-- Devices are given back, and nothing else is done.
use Rattle.std.proofs.Common.{◌≡◌, ℕ, ◌+◌, ◌-◌, ◌≤◌, List, [], ◌∷◌, ◌++◌, length-append, refl, sym, ◌∙◌, ap, subst, arith}
use Rattle.std.proofs.lemmas.List.{append-nil, append_assoc}
use Rattle.logged_disk.specs.Device.{DeviceState as Device}
use Rattle.device_bay.specs.Calls.{BayCall, TookBack, out_of, returned_by}
use Rattle.cache_replay.specs.Deals.{GivesBack}
use Rattle.script_run.specs.Ledger.{KeepsOrder}
use Rattle.cache_replay.proofs.Order.{order_same, order_then, order_took}

-- one came back
pub gives_one : (device : Device) (old new : List BayCall) → 1 ≤ out_of old → new ≡ TookBack device ∷ old → GivesBack (device ∷ []) old new
gives_one device old new held is = subst (GivesBack (device ∷ []) old) (sym is) (record {
  back = refl;
  out = was_out (out_of old) held;
  order = λ own. order_took device own old (TookBack device ∷ old) refl;
  names = refl;
  refusals = refl;
})
  where
    was_out : (n : ℕ) → 1 ≤ n → n - 1 + 1 ≡ n
    was_out n held = omega (arith, held)

-- there was none
pub gives_nothing : (past : List BayCall) → GivesBack [] past past
gives_nothing past = record {
  back = sym (append-nil (returned_by past));
  out = omega arith;
  order = λ own. order_same own past;
  names = refl;
  refusals = refl;
}

-- these came back, and then those
pub gives_then : (xs ys : List Device) (a b c : List BayCall) → GivesBack xs a b → GivesBack ys b c → GivesBack (xs ++ ys) a c
gives_then xs ys a b c p q = record {
  back = q.back ∙ (ap (λ (l : List Device). l ++ ys) p.back ∙ append_assoc (returned_by a) xs ys);
  out = omega (arith, length-append xs ys, p.out, q.out);
  order = λ own. subst (λ (l : List Device). KeepsOrder l a own c) (sym (append_assoc xs ys own))
      (order_then (xs ++ (ys ++ own)) (ys ++ own) own a b c (p.order (ys ++ own)) (q.order own));
  names = q.names ∙ p.names;
  refusals = q.refusals ∙ p.refusals;
}
