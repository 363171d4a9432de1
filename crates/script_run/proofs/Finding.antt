-- What was found in lists.
use Rattle.std.proofs.Common.{◌≡◌, List, [], ◌∷◌, Bool, true, false, refl, subst}
use Rattle.std.specs.Prelude.{Option, Some, find, cond}
use Rattle.std.specs.List.{AllByRecursion}
use Rattle.std.proofs.lemmas.Option.{same_Some}
use Rattle.cache_model.proofs.Found.{none_is}

pub found_by : {X : Type 0} (P : X → Type 0) (first x : X) (rest : Option X) (b : Bool) → (b ≡ true → P first) → (rest ≡ Some x → P x) → cond b (Some first) rest ≡ Some x → P x
found_by P first x rest true own others h = subst P (same_Some first x h) (own refl)
found_by P first x rest false own others h = others h

-- it is one of the list
pub found_in : {X : Type 0} (P : X → Type 0) (test : X → Bool) (xs : List X) (x : X) → AllByRecursion P xs → find test xs ≡ Some x → P x
found_in P test [] x each h = none_is h
found_in P test (first ∷ xs) x each h = found_by P first x (find test xs) (test first) (λ e. each.0) (found_in P test xs x each.1) h

-- and passes the test
pub found_true : {X : Type 0} (test : X → Bool) (xs : List X) (x : X) → find test xs ≡ Some x → test x ≡ true
found_true test [] x h = none_is h
found_true test (first ∷ xs) x h = found_by (λ y. test y ≡ true) first x (find test xs) (test first) (λ e. e) (found_true test xs x) h
