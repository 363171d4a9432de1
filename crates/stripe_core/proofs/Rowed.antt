-- Memory that stays made for the next fragment.
use Rattle.std.proofs.Common.{◌≡◌, ℕ, ◌<◌, Option, Some, None, Result, Ok, Err, OnOk, IfSome, subst, sym}
use Rattle.stripe_actors.specs.Actors.{ActorsSeen as Actors}
use Rattle.stripe_core.specs.Stripe.{room_for}

on_ok : {X E P : Type 0} (r : Result X E) → P → OnOk r P
on_ok (Ok x) p = p
on_ok (Err e) p = tt

pub row_stays : {X E : Type 0} (r : Result X E) (put : Option ℕ) (old new : Actors) → ((n : ℕ) → room_for n new ≡ room_for n old) → IfSome put (λ n. 0 < room_for n old) → OnOk r (IfSome put (λ n. 0 < room_for n new))
row_stays r None old new same h = on_ok r tt
row_stays r (Some n) old new same h = let P : ℕ → Type 0 = λ k. 0 < k in on_ok r (subst P (sym (same n)) h)
