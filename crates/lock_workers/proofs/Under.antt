-- What a turn, a look and a longer history do to the turns under a number.
use Rattle.std.proofs.Common.{◌≡◌, ℕ, suc, Bool, true, false, cond, eqb, List, [], ◌∷◌, ◌++◌, length, sym, refl, ap, ◌∙◌, subst, arith, eq-eqb}
use mathlib.Core.List.{IsPrefix}
use Rattle.stripe_lock.specs.declared.kept.KeptState.{Ghosts}
use Rattle.stripe_lock.specs.declared.view.StripeTurn.{StripeTurn}
use Rattle.stripe_lock.specs.History.{places_from, places_of, with_places, HasJust, first_number}
use Rattle.stripe_lock.specs.Passes.{PassState}
use Rattle.stripe_lock.specs.Turns.{Turned, LookedIn}
use Rattle.stripe_lock.proofs.Histories.{prefix_same, prefix_more}
use Rattle.lock_workers.specs.Jobs.{turns_under, IsTurnOf, AreTurnsOf, AreJobsUnder, HasDone}

-- one place more or none, on both sides
cond_same : (b : Bool) (k : ℕ) (xs ys : List ℕ) → cond b (k ∷ xs) xs ≡ cond b (k ∷ ys) ys → xs ≡ ys
cond_same true k xs ys e = ap (λ (l : List ℕ). rest l) e
  where
    rest : List ℕ → List ℕ
    rest [] = []
    rest (x ∷ l) = l
cond_same false k xs ys e = e

module _ {R : Type 0} where
  -- turns without a place are none under the number
  none_under : (n k : ℕ) (ts : List (StripeTurn R)) → places_from n k ts ≡ [] → turns_under n ts ≡ []
  none_under n k [] e = refl
  none_under n k (t ∷ ts) e = by_case (eqb t.worker n) e (none_under n (suc k) ts)
    where
      by_case : (b : Bool) → cond b (k ∷ places_from n (suc k) ts) (places_from n (suc k) ts) ≡ [] → (places_from n (suc k) ts ≡ [] → turns_under n ts ≡ []) → cond b (t ∷ turns_under n ts) (turns_under n ts) ≡ []
      by_case true e rest = absurd (let l = ap length e in omega arith)
      by_case false e rest = rest e

  -- a history with the same places has no other turns under the number
  same_behind : (n k : ℕ) (a h : List (StripeTurn R)) → places_from n k (a ++ h) ≡ places_from n k a → turns_under n (a ++ h) ≡ turns_under n a
  same_behind n k [] h e = none_under n k h e
  same_behind n k (t ∷ a) h e =
      ap (λ l. cond (eqb t.worker n) (t ∷ l) l) (same_behind n (suc k) a h (cond_same (eqb t.worker n) k _ _ e))

  pub same_under : (n : ℕ) (a b : List (StripeTurn R)) → IsPrefix a b → places_of n b ≡ places_of n a → turns_under n b ≡ turns_under n a
  same_under n a b p e = subst (λ (l : List (StripeTurn R)). turns_under n l ≡ turns_under n a) p.1 (same_behind n 0 a p.0 (subst (λ (l : List (StripeTurn R)). places_of n l ≡ places_of n a) (sym p.1) e))

  -- a turn under the number stands behind the others
  under-snoc : (n : ℕ) (ts : List (StripeTurn R)) (t : StripeTurn R) → t.worker ≡ n → turns_under n (ts ++ t ∷ []) ≡ turns_under n ts ++ t ∷ []
  under-snoc n [] t own = ap (λ b. cond b (t ∷ []) []) (eq-eqb t.worker n own)
  under-snoc n (u ∷ ts) t own = ap (λ l. cond (eqb u.worker n) (u ∷ l) l) (under-snoc n ts t own) ∙ by_case (eqb u.worker n)
    where
      by_case : (b : Bool) → cond b (u ∷ turns_under n ts ++ t ∷ []) (turns_under n ts ++ t ∷ []) ≡ cond b (u ∷ turns_under n ts) (turns_under n ts) ++ t ∷ []
      by_case true = refl
      by_case false = refl

module _ {J R A : Type 0} (number : J → ℕ) (fits : J → J → List R → List (StripeTurn R) → StripeTurn R → A → Type 0) (chronicle : List R) where
  turn_later : (a b : List (StripeTurn R)) (j : J) (t : StripeTurn R) → IsPrefix a b → IsTurnOf number fits chronicle a j t → IsTurnOf number fits chronicle b j t
  turn_later a b j t p i = record {
    number_is = i.number_is;
    before = i.before;
    stands = prefix_more _ a b i.stands p;
    after = i.after;
    answer = i.answer;
    fit = i.fit;
  }

  pub turns_later : (a b : List (StripeTurn R)) (js : List J) (ts : List (StripeTurn R)) → IsPrefix a b → AreTurnsOf number fits chronicle a js ts → AreTurnsOf number fits chronicle b js ts
  turns_later a b [] [] p all = tt
  turns_later a b [] (t ∷ ts) p all = absurd all
  turns_later a b (j ∷ js) [] p all = absurd all
  turns_later a b (j ∷ js) (t ∷ ts) p all = (turn_later a b j t p all.0, turns_later a b js ts p all.1)

  turns-snoc : (log : List (StripeTurn R)) (js : List J) (ts : List (StripeTurn R)) (j : J) (t : StripeTurn R) → AreTurnsOf number fits chronicle log js ts → IsTurnOf number fits chronicle log j t
      → AreTurnsOf number fits chronicle log (js ++ j ∷ []) (ts ++ t ∷ [])
  turns-snoc log [] [] j t all i = (i, tt)
  turns-snoc log [] (u ∷ ts) j t all i = absurd all
  turns-snoc log (k ∷ js) [] j t all i = absurd all
  turns-snoc log (k ∷ js) (u ∷ ts) j t all i = (all.0, turns-snoc log js ts j t all.1 i)

  -- a longer history that has the same places under the number
  pub jobs_later : (n : ℕ) (a b : List (StripeTurn R)) (js : List J) → IsPrefix a b → places_of n b ≡ places_of n a → AreJobsUnder number fits chronicle a n js → AreJobsUnder number fits chronicle b n js
  jobs_later n a b js p e all =
      subst (λ (ts : List (StripeTurn R)). AreTurnsOf number fits chronicle b js ts) (sym (same_under n a b p e)) (turns_later a b js (turns_under n a) p all)

module _ {T J R A : Type 0} (k : Ghosts T R) (number : J → ℕ) (fits : J → J → List R → List (StripeTurn R) → StripeTurn R → A → Type 0) (n : ℕ) (js : List J) (old new : PassState R) where
  -- a turn of one job more
  pub done_more : (j after : J) (answer : A) (count : ℕ) → HasDone number fits n js old → Turned k (number j) (fits j after) old new answer count → HasDone number fits n (js ++ j ∷ []) new
  done_more j after answer count d t =
      let first : first_number old.owned ≡ n = ap first_number d.owned in
      let known : d.places ≡ places_of n t.before = (subst (HasJust t.before) d.owned t.known).0 in
      let turn : StripeTurn R = t.turn.turn in
      let grown : IsPrefix t.before new.seen = (turn ∷ [], sym t.turn.added) in
      let before : AreJobsUnder number fits old.chronicle t.before n js = jobs_later number fits old.chronicle n old.seen t.before js t.later (sym known ∙ d.known) d.jobs_are in
      let is : IsTurnOf number fits old.chronicle new.seen j turn = record {
        number_is = t.turn.job_is;
        before = t.before;
        stands = subst (λ (l : List (StripeTurn R)). IsPrefix l new.seen) t.turn.added (prefix_same new.seen);
        after = after;
        answer = answer;
        fit = t.turn.turn_fits;
      } in
      let under : turns_under n new.seen ≡ turns_under n t.before ++ turn ∷ [] = ap (turns_under n) t.turn.added ∙ under-snoc n t.before turn (t.turn.worker_is ∙ first) in
      let all : AreTurnsOf number fits old.chronicle new.seen (js ++ j ∷ []) (turns_under n new.seen) =
      subst (λ (ts : List (StripeTurn R)). AreTurnsOf number fits old.chronicle new.seen (js ++ j ∷ []) ts) (sym under)
      (turns-snoc number fits old.chronicle new.seen js (turns_under n t.before) j turn (turns_later number fits old.chronicle t.before new.seen js (turns_under n t.before) grown before) is) in
      record {
        places = places_of n new.seen;
        owned = t.owned ∙ ap (with_places new.seen) d.owned;
        known = refl;
        jobs_are = subst (λ (c : List R). AreJobsUnder number fits c new.seen n (js ++ j ∷ [])) (sym t.chronicle) all;
      }

  -- a look at the history
  pub done_looked : HasDone number fits n js old → LookedIn k old new → HasDone number fits n js new
  done_looked d l =
      let owned : new.owned ≡ record { number = n; places = d.places } ∷ [] = l.owned ∙ d.owned in
      let known : d.places ≡ places_of n new.seen = (subst (HasJust new.seen) owned l.known).0 in
      record {
        places = d.places;
        owned = owned;
        known = known;
        jobs_are = subst (λ (c : List R). AreJobsUnder number fits c new.seen n js) (sym l.chronicle)
            (jobs_later number fits old.chronicle n old.seen new.seen js l.later (sym known ∙ d.known) d.jobs_are);
      }
