-- A turn stands in each history that goes on from where it was made.
use Rattle.std.proofs.Common.{◌≡◌, ℕ, suc, ◌+◌, ◌-◌, cond, eqb, List, [], ◌∷◌, ◌++◌, length, map, sym, refl, ap, ◌∙◌, subst, ⊎_elim, arith, append_assoc, length-append, eq-eqb, ne_eqb}
use Rattle.std.proofs.lemmas.List.{length-map}
use mathlib.Core.List.{IsPrefix, map-append}
use Rattle.stripe_lock.specs.declared.kept.KeptState.{Ghosts}
use Rattle.stripe_lock.specs.declared.view.StripeTurn.{StripeTurn}
use Rattle.stripe_lock.specs.History.{places_from, places_of, HasJust, AreUnder, first_number, first_places, with_places}
use Rattle.stripe_lock.specs.Passes.{PassState}
use Rattle.stripe_lock.specs.Turns.{Turned}
use Rattle.lock_trials.specs.declared.tally.TallyRow.{TallyRow}
use Rattle.lock_trials.specs.Rows.{turns_of, HaveOneRecord}
use Rattle.lock_trials.specs.Standing.{TurnStandsAt, TurnsStandFrom}

pub one_record : (rows : List TallyRow) → HaveOneRecord (turns_of rows)
one_record [] = tt
one_record (r ∷ rs) = (refl, one_record rs)

module _ {R : Type 0} where
  pub stands_later : (a b : List (StripeTurn R)) (worker job number : ℕ) → IsPrefix a b → TurnStandsAt a worker job number → TurnStandsAt b worker job number
  stands_later a b worker job number p s = record {
    before = s.before;
    turn = s.turn;
    after = s.after ++ p.0;
    turns_are = sym p.1 ∙ (ap (λ (l : List (StripeTurn R)). l ++ p.0) s.turns_are ∙ append_assoc (s.before ++ s.turn ∷ []) s.after p.0);
    worker_is = s.worker_is;
    job_is = s.job_is;
    number_is = s.number_is;
  }

  pub stand_later : (a b : List (StripeTurn R)) (worker k : ℕ) (ns : List ℕ) → IsPrefix a b → TurnsStandFrom a worker k ns → TurnsStandFrom b worker k ns
  stand_later a b worker k [] p s = tt
  stand_later a b worker k (n ∷ ns) p s = (stands_later a b worker k n p s.0, stand_later a b worker (suc k) ns p s.1)

  pub stand-snoc : (a : List (StripeTurn R)) (worker k n : ℕ) (ns : List ℕ) → TurnsStandFrom a worker k ns → TurnStandsAt a worker (k + length ns) n → TurnsStandFrom a worker k (ns ++ n ∷ [])
  stand-snoc a worker k n [] s l = let same : k + 0 ≡ k = omega arith in (subst (λ (j : ℕ). TurnStandsAt a worker j n) same l, tt)
  stand-snoc a worker k n (m ∷ ns) s l = let same : k + suc (length ns) ≡ suc k + length ns = omega arith in (s.0, stand-snoc a worker (suc k) n ns s.1 (subst (λ (j : ℕ). TurnStandsAt a worker j n) same l))

  -- a turn under a number without turns is none
  pub none_under : (n : ℕ) (turns : List (StripeTurn R)) → HasJust turns (record { number = n; places = [] } ∷ []) → AreUnder (record { number = n; places = [] } ∷ []) turns → turns ≡ []
  none_under n [] h u = refl
  none_under n (t ∷ ts) h u = let own : n ≡ t.worker = ⊎_elim (λ e. e) (λ none. absurd none) u.0 in
      let some_place : [] ≡ 0 ∷ places_from n 1 ts = h.0 ∙ ap (λ b. cond b (0 ∷ places_from n 1 ts) (places_from n 1 ts)) (eq-eqb t.worker n (sym own)) in absurd (let l : 0 ≡ suc (length (places_from n 1 ts)) = ap length some_place in omega arith)

  -- each turn has one of two places
  count_under : (p q : ℕ) (ps qs : List ℕ) (k : ℕ) (turns : List (StripeTurn R)) → ¬ (p ≡ q) → AreUnder (record { number = p; places = ps } ∷ record { number = q; places = qs } ∷ []) turns
      → length turns ≡ length (places_from p k turns) + length (places_from q k turns)
  count_under p q ps qs k [] apart u = refl
  count_under p q ps qs k (t ∷ ts) apart u = let rest = count_under p q ps qs (suc k) ts apart u.1 in let a = places_from p (suc k) ts in let b = places_from q (suc k) ts in
      ⊎_elim
      (λ (e : p ≡ t.worker). let one : length (cond (eqb t.worker p) (k ∷ a) a) ≡ suc (length a) = ap (λ x. length (cond x (k ∷ a) a)) (eq-eqb t.worker p (sym e)) in
      let none : length (cond (eqb t.worker q) (k ∷ b) b) ≡ length b = ap (λ x. length (cond x (k ∷ b) b)) (ne_eqb t.worker q (λ z. apart (e ∙ z))) in omega arith)
      (λ r. ⊎_elim (λ (e : q ≡ t.worker). let one : length (cond (eqb t.worker q) (k ∷ b) b) ≡ suc (length b) = ap (λ x. length (cond x (k ∷ b) b)) (eq-eqb t.worker q (sym e)) in
      let none : length (cond (eqb t.worker p) (k ∷ a) a) ≡ length a = ap (λ x. length (cond x (k ∷ a) a)) (ne_eqb t.worker p (λ z. apart (sym (e ∙ z)))) in omega arith) (λ no. absurd no) r)
      u.0

  -- as many turns as numbers were told
  pub counts_both : (p q : ℕ) (ns ms : List ℕ) (turns : List (StripeTurn R)) → ¬ (p ≡ q)
      → HasJust turns (record { number = p; places = map (λ n. n - 1) ns } ∷ record { number = q; places = map (λ n. n - 1) ms } ∷ [])
      → AreUnder (record { number = p; places = map (λ n. n - 1) ns } ∷ record { number = q; places = map (λ n. n - 1) ms } ∷ []) turns → length turns ≡ length ns + length ms
  counts_both p q ns ms turns apart h u = let all = count_under p q (map (λ n. n - 1) ns) (map (λ n. n - 1) ms) 0 turns apart u in let a = ap length h.0 in let b = ap length h.1.0 in omega (arith, length-map ns (λ n. n - 1), length-map ms (λ n. n - 1))

module _ {T R A : Type 0} (k : Ghosts T R) (job : ℕ) (fits : List R → List (StripeTurn R) → StripeTurn R → A → Type 0) (old new : PassState R) (answer : A) (count : ℕ) where
  pub stands : (log : List (StripeTurn R)) → Turned k job fits old new answer count → IsPrefix new.seen log → TurnStandsAt log (first_number old.owned) job count
  stands log t p = record {
    before = t.before;
    turn = t.turn.turn;
    after = p.0;
    turns_are = sym p.1 ∙ ap (λ (l : List (StripeTurn R)). l ++ p.0) t.turn.added;
    worker_is = t.turn.worker_is;
    job_is = t.turn.job_is;
    number_is = t.counted ∙ ap length t.turn.added;
  }

  -- the places of a pass that has one number, which go on with the turn
  pub owned_more : (n : ℕ) (ns : List ℕ) → Turned k job fits old new answer count → old.owned ≡ record { number = n; places = map (λ m. m - 1) ns } ∷ []
      → new.owned ≡ record { number = n; places = map (λ m. m - 1) (ns ++ count ∷ []) } ∷ []
  owned_more n ns t own = let now : new.owned ≡ record { number = n; places = places_of n new.seen } ∷ [] = t.owned ∙ ap (with_places new.seen) own in
      let length_is : count ≡ length t.before + 1 = t.counted ∙ (ap length t.turn.added ∙ length-append t.before (t.turn.turn ∷ [])) in let last : length t.before ≡ count - 1 = omega arith in
      let places : places_of n new.seen ≡ map (λ m. m - 1) (ns ++ count ∷ []) = sym (ap first_places now) ∙ (t.mine ∙ ((λ i. first_places (own i) ++ last i ∷ []) ∙ sym (map-append (λ m. m - 1) ns (count ∷ [])))) in
      now ∙ ap (λ (ps : List ℕ). record { number = n; places = ps } ∷ []) places
