-- What is among the values of a list, and the calls of a step.
use Rattle.std.proofs.Common.{List, [], ◌∷◌, ◌++◌, refl, sym, subst, inl, inr}
use Rattle.device_log.specs.Calls.{Call}
use Rattle.cache_model.specs.Given.{AreUpTo}
use Rattle.cache_model.specs.Permit.{Permit, IsAmong}

pub among_behind : {X : Type 0} (x : X) (before behind : List X) → IsAmong x (before ++ x ∷ behind)
among_behind x [] behind = inl refl
among_behind x (y ∷ before) behind = inr (among_behind x before behind)

pub among_rest : {X : Type 0} (x : X) (before behind : List X) → IsAmong x behind → IsAmong x (before ++ behind)
among_rest x [] behind h = h
among_rest x (y ∷ before) behind h = inr (among_rest x before behind h)

-- the call up to which a step had come is one of its calls
pub call_made : (p : Permit) (call : Call) (older : List Call) → AreUpTo p (call ∷ older) → IsAmong call p.events
call_made p call older up = subst (IsAmong call) (sym up.is) (among_behind call up.later older)
