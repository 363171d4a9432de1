-- The jobs that were done, and those that are left.
use Rattle.std.proofs.Common.{◌≡◌, ℕ, ◌+◌, ◌<◌, Bool, true, cond, List, [], ◌∷◌, ◌++◌, length, take, drop, get_or, slice_set, sym, ap, ◌∙◌, subst, arith}
use Rattle.std.proofs.lemmas.List.{take_more, take-append-drop, get_or-drop, drop-set-lt, drop-drop}
use Rattle.stripe_lock.specs.declared.kept.KeptState.{Ghosts}
use Rattle.stripe_lock.specs.declared.view.StripeTurn.{StripeTurn}
use Rattle.stripe_lock.specs.Passes.{PassState}
use Rattle.stripe_lock.specs.Turns.{Turned, LookedIn}
use Rattle.lock_workers.specs.Jobs.{HasDone, DidFront}
use Rattle.lock_workers.proofs.Under.{done_more, done_looked}

module _ {X : Type 0} where
  drop_next : (i : ℕ) (xs ys : List X) → drop i xs ≡ drop i ys → drop (i + 1) xs ≡ drop (i + 1) ys
  drop_next i xs ys e = sym (drop-drop 1 i xs) ∙ ap (drop 1) e ∙ drop-drop 1 i ys

  -- what is set stands before what is left
  pub left_same : (i : ℕ) (cur xs : List X) (y : X) → drop i cur ≡ drop i xs → drop (i + 1) (slice_set cur i y) ≡ drop (i + 1) xs
  left_same i cur xs y e = drop-set-lt (i + 1) cur i y (omega arith) ∙ drop_next i cur xs e

  same_at : (i : ℕ) (cur xs : List X) (d : X) → drop i cur ≡ drop i xs → get_or cur i d ≡ get_or xs i d
  same_at i cur xs d e =
      let here : i + 0 ≡ i = omega arith in
      subst (λ (n : ℕ). get_or cur n d ≡ get_or xs n d) here (sym (get_or-drop i cur 0 d) ∙ ap (λ (l : List X). get_or l 0 d) e ∙ get_or-drop i xs 0 d)

  -- the first of those that are left goes to those that are done
  pub front_more : (i : ℕ) (cur xs : List X) (x : X) → i < length xs → drop i cur ≡ drop i xs → x ≡ get_or cur i x → take (i + 1) xs ≡ take i xs ++ x ∷ []
  front_more i cur xs x l e is = take_more xs i x l ∙ ap (λ (y : X). take i xs ++ y ∷ []) (sym (is ∙ same_at i cur xs x e))

module _ {T J R A : Type 0} (k : Ghosts T R) (number : J → ℕ) (fits : J → J → List R → List (StripeTurn R) → StripeTurn R → A → Type 0) (n : ℕ) (jobs : List J) (old new : PassState R) where
  -- a job more is done
  pub job_more : (i : ℕ) (cur : List J) (job after : J) (answer : A) (count : ℕ) → i < length jobs → drop i cur ≡ drop i jobs → job ≡ get_or cur i job
      → HasDone number fits n (take i jobs) old → Turned k (number job) (fits job after) old new answer count → HasDone number fits n (take (i + 1) jobs) new
  job_more i cur job after answer count l e is d t =
      subst (λ (js : List J). HasDone number fits n js new) (sym (front_more i cur jobs job l e is)) (done_more k number fits n (take i jobs) old new job after answer count d t)

  -- there was no memory for the next one
  pub front_short : (i : ℕ) → HasDone number fits n (take i jobs) old → LookedIn k old new → DidFront number fits n jobs new true
  front_short i d l = record {
    front = take i jobs;
    rest = drop i jobs;
    split = sym (take-append-drop i jobs);
    whole = λ e. absurd (subst (λ (b : Bool). cond b (Unit {0}) ⊥) e tt);
    done = done_looked k number fits n (take i jobs) old new d l;
  }
