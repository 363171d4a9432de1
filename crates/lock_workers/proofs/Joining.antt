-- The passes of workers are joined into one, and the lock ends.
use Rattle.std.proofs.Common.{◌≡◌, ℕ, suc, ◌+◌, ◌<◌, ◌||◌, Bool, true, false, cond, eqb, List, [], ◌∷◌, ◌++◌, length, slice_index_or, sym, refl, ap, ◌∙◌, subst, arith, append_assoc, append-nil, length-append, eq-eqb, ⊎_elim}
use Rattle.std.specs.List.{remove}
use mathlib.Core.List.{IsPrefix}
use Rattle.atomic_table.specs.Seated.{TableId}
use Rattle.stripe_lock.specs.declared.kept.KeptState.{Ghosts}
use Rattle.stripe_lock.specs.declared.view.StripeTurn.{StripeTurn}
use Rattle.stripe_lock.specs.declared.view.PassTurns.{PassTurns}
use Rattle.stripe_lock.specs.History.{AreBelow, AreUnder, HasJust, OwnsNumber, places_of}
use Rattle.stripe_lock.specs.Passes.{PassState}
use Rattle.stripe_lock.specs.Turns.{Joins, LockEnds}
use Rattle.lock_workers.specs.declared.worker.Worker.{Worker}
use Rattle.lock_workers.specs.Jobs.{turns_under, AreTurnsOf, AreJobsFrom, HasDone, DidFront}
use Rattle.lock_workers.specs.Workers.{AreFronts, AreThrough, Gathers, IsFront, IsShared, Knows, numbered}
use Rattle.lock_workers.proofs.Under.{jobs_later}

-- ---- truth

or_left : (a b : Bool) → (a || b) ≡ false → a ≡ false
or_left true b e = e
or_left false b e = refl

or_right : (a b : Bool) → (a || b) ≡ false → b ≡ false
or_right true b e = absurd (subst (λ (x : Bool). cond x (Unit {0}) ⊥) e tt)
or_right false b e = e

-- ---- lists

module _ {J : Type 0} where
  numbered-snoc : (n : ℕ) (all : List (List J)) (js : List J) → numbered n (all ++ js ∷ []) ≡ numbered n all ++ (n + length all, js) ∷ []
  numbered-snoc n [] js = let same : n ≡ n + 0 = omega arith in ap (λ (m : ℕ). (m, js) ∷ []) same
  numbered-snoc n (ks ∷ all) js = let same : suc n + length all ≡ n + suc (length all) = omega arith in
      ap (λ (l : List (ℕ × List J)). (n, ks) ∷ l) (numbered-snoc (suc n) all js ∙ ap (λ (m : ℕ). numbered (suc n) all ++ (m, js) ∷ []) same)

  fronts_length : (short : Bool) (dones jobs : List (List J)) → AreFronts short dones jobs → length dones ≡ length jobs
  fronts_length short [] [] all = refl
  fronts_length short [] (js ∷ jobs) all = absurd all
  fronts_length short (d ∷ dones) [] all = absurd all
  fronts_length short (d ∷ dones) (js ∷ jobs) all = ap suc (fronts_length short dones jobs all.1)

  front_with : (a b : Bool) (d js : List J) → ((a ≡ false) → (b ≡ false)) → IsFront b d js → IsFront a d js
  front_with a b d js h i = record { rest = i.rest; split = i.split; whole = λ e. i.whole (h e) }

  fronts_with : (a b : Bool) (dones jobs : List (List J)) → ((a ≡ false) → (b ≡ false)) → AreFronts b dones jobs → AreFronts a dones jobs
  fronts_with a b [] [] h all = tt
  fronts_with a b [] (js ∷ jobs) h all = absurd all
  fronts_with a b (d ∷ dones) [] h all = absurd all
  fronts_with a b (d ∷ dones) (js ∷ jobs) h all = (front_with a b d js h all.0, fronts_with a b dones jobs h all.1)

  fronts-snoc : (a : Bool) (dones jobs : List (List J)) (d js : List J) → AreFronts a dones jobs → IsFront a d js → AreFronts a (dones ++ d ∷ []) (jobs ++ js ∷ [])
  fronts-snoc a [] [] d js all i = (i, tt)
  fronts-snoc a [] (ks ∷ jobs) d js all i = absurd all
  fronts-snoc a (e ∷ dones) [] d js all i = absurd all
  fronts-snoc a (e ∷ dones) (ks ∷ jobs) d js all i = (all.0, fronts-snoc a dones jobs d js all.1 i)

module _ {R : Type 0} where
  just_front : (log : List (StripeTurn R)) (ks ls : List PassTurns) → HasJust log (ks ++ ls) → HasJust log ks
  just_front log [] ls h = tt
  just_front log (k ∷ ks) ls h = (h.0, just_front log ks ls h.1)

  just_back : (log : List (StripeTurn R)) (ks ls : List PassTurns) → HasJust log (ks ++ ls) → HasJust log ls
  just_back log [] ls h = h
  just_back log (k ∷ ks) ls h = just_back log ks ls h.1

  -- where no turn is under a number, none of these is of it
  not_under : (n : ℕ) (t : StripeTurn R) (ts : List (StripeTurn R)) → turns_under n (t ∷ ts) ≡ [] → n ≡ t.worker → ⊥
  not_under n t ts none own =
      let some : t ∷ turns_under n ts ≡ [] = sym (ap (λ b. cond b (t ∷ turns_under n ts) (turns_under n ts)) (eq-eqb t.worker n (sym own))) ∙ none in
      let l = ap length some in absurd (omega arith)

  none_behind : (n : ℕ) (t : StripeTurn R) (ts : List (StripeTurn R)) → turns_under n (t ∷ ts) ≡ [] → turns_under n ts ≡ []
  none_behind n t ts none = by_case (eqb t.worker n) none
    where
      by_case : (b : Bool) → cond b (t ∷ turns_under n ts) (turns_under n ts) ≡ [] → turns_under n ts ≡ []
      by_case true e = absurd (let l = ap length e in omega arith)
      by_case false e = e

module _ {J R A : Type 0} (number : J → ℕ) (fits : J → J → List R → List (StripeTurn R) → StripeTurn R → A → Type 0) where
  -- ---- what is known of jobs

  knows_later : (chronicle : List R) (a b : List (StripeTurn R)) (ws : List (ℕ × List J)) (ks : List PassTurns) → IsPrefix a b → HasJust b ks → Knows number fits chronicle a ws ks → Knows number fits chronicle b ws ks
  knows_later chronicle a b [] [] p h all = tt
  knows_later chronicle a b [] (k ∷ ks) p h all = absurd all
  knows_later chronicle a b (w ∷ ws) [] p h all = absurd all
  knows_later chronicle a b (w ∷ ws) (k ∷ ks) p h all =
      let places : k.places ≡ places_of w.0 b = h.0 ∙ ap (λ (n : ℕ). places_of n b) all.0 in
      (all.0, places, jobs_later number fits chronicle w.0 a b w.1 p (sym places ∙ all.1) all.2, knows_later chronicle a b ws ks p h.1 all.3)

  knows-append : (chronicle : List R) (log : List (StripeTurn R)) (ws vs : List (ℕ × List J)) (ks ls : List PassTurns) → Knows number fits chronicle log ws ks → Knows number fits chronicle log vs ls
      → Knows number fits chronicle log (ws ++ vs) (ks ++ ls)
  knows-append chronicle log [] vs [] ls a b = b
  knows-append chronicle log [] vs (k ∷ ks) ls a b = absurd a
  knows-append chronicle log (w ∷ ws) vs [] ls a b = absurd a
  knows-append chronicle log (w ∷ ws) vs (k ∷ ks) ls a b = (a.0, a.1, a.2, knows-append chronicle log ws vs ks ls a.3 b)

  pub knows_one : (n : ℕ) (js : List J) (p : PassState R) → HasDone number fits n js p → Knows number fits p.chronicle p.seen ((n, js) ∷ []) p.owned
  knows_one n js p d = subst (λ (ks : List PassTurns). Knows number fits p.chronicle p.seen ((n, js) ∷ []) ks) (sym d.owned) (refl, d.known, d.jobs_are, tt)

  pub knows_length : (chronicle : List R) (log : List (StripeTurn R)) (ws : List (ℕ × List J)) (ks : List PassTurns) → Knows number fits chronicle log ws ks → length ks ≡ length ws
  knows_length chronicle log [] [] all = refl
  knows_length chronicle log [] (k ∷ ks) all = absurd all
  knows_length chronicle log (w ∷ ws) [] all = absurd all
  knows_length chronicle log (w ∷ ws) (k ∷ ks) all = ap suc (knows_length chronicle log ws ks all.3)

  numbered_length : (n : ℕ) (dones : List (List J)) → length (numbered n dones) ≡ length dones
  numbered_length n [] = refl
  numbered_length n (d ∷ dones) = ap suc (numbered_length (suc n) dones)

  each_of : (chronicle : List R) (log : List (StripeTurn R)) (n : ℕ) (dones : List (List J)) (ks : List PassTurns) → Knows number fits chronicle log (numbered n dones) ks → AreJobsFrom number fits chronicle log n dones
  each_of chronicle log n [] ks all = tt
  each_of chronicle log n (d ∷ dones) [] all = absurd all
  each_of chronicle log n (d ∷ dones) (k ∷ ks) all = (all.2, each_of chronicle log (suc n) dones ks all.3)

  own_below : (chronicle : List R) (log : List (StripeTurn R)) (n x : ℕ) (dones : List (List J)) (ks : List PassTurns) → Knows number fits chronicle log (numbered n dones) ks → OwnsNumber ks x → x < n + length dones
  own_below chronicle log n x [] [] all own = absurd own
  own_below chronicle log n x [] (k ∷ ks) all own = absurd all
  own_below chronicle log n x (d ∷ dones) [] all own = absurd own
  own_below chronicle log n x (d ∷ dones) (k ∷ ks) all own =
      ⊎_elim (λ (e : k.number ≡ x). let m : k.number ≡ n = all.0 in omega arith) (λ o. let m = own_below chronicle log (suc n) x dones ks all.3 o in omega arith) own

  none_of : (chronicle : List R) (log : List (StripeTurn R)) (ts : List (StripeTurn R)) → AreTurnsOf number fits chronicle log [] ts → ts ≡ []
  none_of chronicle log [] all = refl
  none_of chronicle log (t ∷ ts) all = absurd all

  -- ---- one worker more

  module _ {T : Type 0} (k : Ghosts T R) (lock : TableId) (chronicle : List R) (own : ℕ) (jobs : List (List J)) (old other new : PassState R) (w : Worker R J) (left : List (Worker R J)) (short : Bool)
      (is : other ≡ w.pass) (joins : Joins k old other new) where
    owned_is : new.owned ≡ old.owned ++ other.owned
    owned_is = ap (λ (p : PassState R). p.owned) joins.same

    chronicle_stays : new.chronicle ≡ old.chronicle
    chronicle_stays = ap (λ (p : PassState R). p.chronicle) joins.same

    lock_stays : new.lock ≡ old.lock
    lock_stays = ap (λ (p : PassState R). p.lock) joins.same

    known : HasJust new.seen (old.owned ++ other.owned)
    known = subst (HasJust new.seen) owned_is joins.known

    knows_both : (ws : List (ℕ × List J)) (n : ℕ) (d : List J) → Knows number fits old.chronicle old.seen ws old.owned → HasDone number fits n d other → Knows number fits new.chronicle new.seen (ws ++ (n, d) ∷ []) new.owned
    knows_both ws n d a h =
        let theirs : Knows number fits old.chronicle other.seen ((n, d) ∷ []) other.owned = subst (λ (c : List R). Knows number fits c other.seen ((n, d) ∷ []) other.owned) joins.chronicle (knows_one n d other h) in
        subst (λ (c : List R). Knows number fits c new.seen (ws ++ (n, d) ∷ []) new.owned) (sym chronicle_stays)
        (subst (λ (ks : List PassTurns). Knows number fits old.chronicle new.seen (ws ++ (n, d) ∷ []) ks) (sym owned_is)
        (knows-append old.chronicle new.seen ws ((n, d) ∷ []) old.owned other.owned
        (knows_later old.chronicle old.seen new.seen ws old.owned joins.seen.0 (just_front new.seen old.owned other.owned known) a)
        (knows_later old.chronicle other.seen new.seen ((n, d) ∷ []) other.owned joins.seen.1 (just_back new.seen old.owned other.owned known) theirs)))

    took_in : (g : Gathers number fits lock chronicle own jobs old (w ∷ left) short) (after : List (List J)) → jobs ≡ g.before ++ after → AreThrough number fits lock chronicle (length g.before) (w ∷ left) after
        → Gathers number fits lock chronicle own jobs new left (short || w.short)
    took_in g [] split through = absurd through
    took_in g (js ∷ after) split through =
        let did : DidFront number fits (length g.before) js other w.short = subst (λ (p : PassState R). DidFront number fits (length g.before) js p w.short) (sym is) through.0.did in
        let both : Bool = short || w.short in
        let as_many : length g.dones ≡ length g.before = fronts_length short g.dones g.before g.fronts in
        let names : numbered 0 (g.dones ++ did.front ∷ []) ≡ numbered 0 g.dones ++ (length g.before, did.front) ∷ [] =
        numbered-snoc 0 g.dones did.front ∙ (let same : 0 + length g.dones ≡ length g.before = omega arith in ap (λ (m : ℕ). numbered 0 g.dones ++ (m, did.front) ∷ []) same) in
        let longer : suc (length g.before) ≡ length (g.before ++ js ∷ []) = let e = length-append g.before (js ∷ []) in omega arith in
        record {
          lock_is = lock_stays ∙ g.lock_is;
          chronicle_is = chronicle_stays ∙ g.chronicle_is;
          before = g.before ++ js ∷ [];
          after = after;
          split = split ∙ sym (append_assoc g.before (js ∷ []) after);
          dones = g.dones ++ did.front ∷ [];
          fronts = fronts-snoc both g.dones g.before did.front js (fronts_with both short g.dones g.before (or_left short w.short) g.fronts)
              (record { rest = did.rest; split = did.split; whole = λ e. did.whole (or_right short w.short e) });
          through = subst (λ (m : ℕ). AreThrough number fits lock chronicle m left after) longer through.1;
          knows = subst (λ (ws : List (ℕ × List J)). Knows number fits new.chronicle new.seen ((own, []) ∷ ws) new.owned) (sym names)
              (knows_both ((own, []) ∷ numbered 0 g.dones) (length g.before) did.front g.knows did.done);
        }

  -- the first of the workers that are left is taken in
  pub gathers_more : {T : Type 0} (k : Ghosts T R) (lock : TableId) (chronicle : List R) (own : ℕ) (jobs : List (List J)) (old other new : PassState R) (w : Worker R J) (left : List (Worker R J)) (short : Bool)
      → 0 < length left → w ≡ slice_index_or left 0 w → other ≡ w.pass → Joins k old other new → Gathers number fits lock chronicle own jobs old left short
      → Gathers number fits lock chronicle own jobs new (remove left 0) (short || w.short)
  gathers_more k lock chronicle own jobs old other new w [] short some first is joins g = absurd (omega arith)
  gathers_more k lock chronicle own jobs old other new w (v ∷ left) short some first is joins g =
      let here : Gathers number fits lock chronicle own jobs old (w ∷ left) short = subst (λ (u : Worker R J). Gathers number fits lock chronicle own jobs old (u ∷ left) short) (sym first) g in
      took_in k lock chronicle own jobs old other new w left short is joins here here.after here.split here.through

  -- ---- the end

  module _ {T : Type 0} (k : Ghosts T R) (lock : TableId) (chronicle : List R) (own : ℕ) (jobs : List (List J)) (pass : PassState R) (short : Bool) (g : Gathers number fits lock chronicle own jobs pass [] short) where
    all_before : (after : List (List J)) → AreThrough {J = J} {R = R} {A = A} number fits lock chronicle (length g.before) [] after → jobs ≡ g.before ++ after → jobs ≡ g.before
    all_before [] through split = split ∙ append-nil g.before
    all_before (js ∷ after) through split = absurd through

    pub whole_before : jobs ≡ g.before
    whole_before = all_before g.after g.through g.split

    pub owned_length : length pass.owned ≡ length jobs + 1
    owned_length =
        let a = knows_length pass.chronicle pass.seen ((own, []) ∷ numbered 0 g.dones) pass.owned g.knows in
        let b = numbered_length 0 g.dones in
        let c = fronts_length short g.dones g.before g.fronts in
        let d = ap length whole_before in omega arith

    module _ (x : T) (ends : LockEnds k pass x) where
      knows_end : Knows number fits pass.chronicle (k.turns x) ((own, []) ∷ numbered 0 g.dones) pass.owned
      knows_end = knows_later pass.chronicle pass.seen (k.turns x) ((own, []) ∷ numbered 0 g.dones) pass.owned ends.seen ends.known g.knows

      are_below : (owned : List PassTurns) → Knows number fits pass.chronicle (k.turns x) ((own, []) ∷ numbered 0 g.dones) owned → (ts : List (StripeTurn R)) → turns_under own ts ≡ [] → AreUnder owned ts → AreBelow (length g.dones) ts
      are_below owned knows [] none under = tt
      are_below [] knows (t ∷ ts) none under = absurd knows
      are_below (o ∷ owned) knows (t ∷ ts) none under = (
        ⊎_elim (λ (e : o.number ≡ t.worker). absurd (not_under own t ts none (sym knows.0 ∙ e)))
            (λ (o : OwnsNumber owned t.worker). let m = own_below pass.chronicle (k.turns x) 0 t.worker g.dones owned knows.3 o in omega arith) under.0,
        are_below (o ∷ owned) knows ts (none_behind own t ts none) under.1,
      )

      none_own : (owned : List PassTurns) → Knows number fits pass.chronicle (k.turns x) ((own, []) ∷ numbered 0 g.dones) owned → turns_under own (k.turns x) ≡ []
      none_own [] knows = absurd knows
      none_own (o ∷ owned) knows = none_of pass.chronicle (k.turns x) (turns_under own (k.turns x)) knows.2

      each_end : (owned : List PassTurns) → Knows number fits pass.chronicle (k.turns x) ((own, []) ∷ numbered 0 g.dones) owned → AreJobsFrom number fits pass.chronicle (k.turns x) 0 g.dones
      each_end [] knows = absurd knows
      each_end (o ∷ owned) knows = each_of pass.chronicle (k.turns x) 0 g.dones owned knows.3

      pub is_shared : IsShared number fits pass.chronicle (k.turns x) jobs short
      is_shared =
          let many : length g.dones ≡ length jobs = fronts_length short g.dones g.before g.fronts ∙ sym (ap length whole_before) in record {
            dones = g.dones;
            fronts = subst (λ (l : List (List J)). AreFronts short g.dones l) (sym whole_before) g.fronts;
            each = each_end pass.owned knows_end;
            no_others = subst (λ (n : ℕ). AreBelow n (k.turns x)) many (are_below pass.owned knows_end (k.turns x) (none_own pass.owned knows_end) ends.under);
          }
