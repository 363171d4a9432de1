-- A pass that is cut in two, or takes in another, keeps the rule.
use Rattle.std.proofs.Common.{◌≡◌, ◌⊎◌, ℕ, zero, suc, ◌+◌, ◌<◌, min, List, [], ◌∷◌, ◌++◌, length, take, drop, set, sym, refl, ap, ◌∙◌, subst, ⊎_elim, inl, inr, arith, length-set, length-append}
use mathlib.Core.Logic.{dite}
use mathlib.Core.Option.{Option, none, some, some-ne-none, some-injective}
use native.Mathlib.Decide.{ℕ_discrete}
use lib.ListN.{get_elem?}
use Rattle.atomic_table.specs.Table.{Splits, Joins}
use Rattle.atomic_table.proofs.Lists.{set_here, set_else, at_snoc, at_last, at_longer}
use Rattle.stripe_lock.specs.declared.kept.KeptState.{Ghosts}
use Rattle.stripe_lock.specs.declared.view.PassTurns.{PassTurns}
use Rattle.stripe_lock.specs.declared.view.View.{View}
use Rattle.stripe_lock.specs.History.{OwnsNumber, unused}
use Rattle.stripe_lock.specs.Rule.{outside, holding, weight, tickets, NoneHolds, LockCourse, Owns, Knows, IsHome, IsPlaced}
use Rattle.stripe_lock.specs.Steps.{left_view, right_view, joined_view, spent}
use Rattle.stripe_lock.proofs.Totals.{put, put_here, put_else, moved, moved_here, moved_else, in_range, total_set, total_snoc}
use Rattle.stripe_lock.proofs.Histories.{prefix_same, has_left, has_right, owns_moved, owns-append, unused_above, length-unused}
use Rattle.stripe_lock.proofs.Keeping.{each_after, one_view, ticket_after, seen_after, Rule, still_seen, placed_after}

-- what stands in a list that became longer by one stands where it did, or is the last
at_end : {A : Type 0} (l : List A) (x u : A) (j : ℕ) → get_elem? (l ++ x ∷ []) j ≡ some u → (get_elem? l j ≡ some u) ⊎ ((j ≡ length l) × (x ≡ u))
at_end [] x u zero e = inr (refl, some-injective x u e)
at_end [] x u (suc j) e = absurd (some-ne-none u (sym e))
at_end (y ∷ l) x u zero e = inl e
at_end (y ∷ l) x u (suc j) e = ⊎_elim inl (λ (t : (j ≡ length l) × (x ≡ u)). inr (ap suc t.0, t.1)) (at_end l x u j e)

module _ {T R : Type 0} (k : Ghosts T R) (seats : ℕ) (start : List R) where
  -- the same place, in a course that has the same history
  placed_again : (c : LockCourse R) (owner : ℕ → ℕ) (homes : List (Option T)) (vs : List (View R)) → IsPlaced k start c homes vs → IsPlaced k start (record c { owner = owner }) homes vs
  placed_again c owner homes vs = ⊎_elim (λ (h : (x : T) × (homes ≡ some x ∷ []) × IsHome k start c x × NoneHolds vs).
      inl (h.0, h.1, record { turns_are = h.2.turns_are; told_is = h.2.told_is; chronicle_is = h.2.chronicle_is; sound = h.2.sound }, h.3)) inr

  pub joins : (id : ℕ) (v : View R) (other : ℕ) (w : View R) → 0 < weight v → 0 < weight w → v.stage ≡ outside → w.stage ≡ outside → Joins (Rule k seats start) id v other w (joined_view v w) spent
  joins id v other w some_weight more_weight free idle s r at apart there = let b : View R = joined_view v w in let vs : List (View R) = set s.views id b in let c = r.c in
      let near : get_elem? s.views other ≡ some w = sym (set_else s.views id other b apart) ∙ there in
      let kv = r.each_view id v at in let kw = r.each_view other w near in let owner' : ℕ → ℕ = moved c.owner other id in let c' : LockCourse R = record c { owner = owner' } in
      let still = still_seen k seats start c c' (prefix_same c.log) (prefix_same c.told) (omega arith) in
      let out = r.out in let weights = r.weights in let heavy : weight b ≡ weight v + weight w = length-append v.owned w.owned in
      let t1 = total_set tickets s.views id v b at in let t2 = total_set tickets vs other w spent there in
      let w1 = total_set weight s.views id v b at in let w2 = total_set weight vs other w spent there in
      let none_out : tickets w ≡ 0 = ap (min 1) idle in
      let here : get_elem? (set vs other spent) id ≡ some b = set_else vs other id spent (λ e. apart (sym e)) ∙ set_here s.views id b (in_range s.views id v at) in record {
        c = c';
        words = record { wide = r.words.wide; ticket = r.words.ticket; serving = r.words.serving; count = r.words.count; floor = r.words.floor };
        top_is = r.top_is;
        top_seen = let a = kv.low in let d = kw.low in let h = seen_after c s.views id v b at (omega arith) (omega arith) r.top_seen in dite (ℕ_discrete h.0 other)
            (λ e. let same : w.peak ≡ h.1.peak = ap (λ (z : View R). z.peak) (one_view vs other h.0 w h.1 there h.2 e) in let is = h.3 in (id, b, here, omega arith))
            (λ ne. (h.0, h.1, set_else vs other h.0 spent ne ∙ h.2, h.3));
        told = r.told;
        near = r.near;
        out = omega arith;
        weights = omega arith;
        few = r.few;
        each_view = each_after (Knows k.floor_of seats start c') vs other spent
            record {
              sight = λ z. absurd (omega arith);
              other = λ z. absurd (omega arith);
              owned = tt;
              ticket = λ z. absurd (omega arith);
              turn = λ z. absurd (omega arith);
              holds = λ z. absurd (omega arith);
              parts = omega arith;
              low = omega arith;
            }
            (λ j u far e. dite (ℕ_discrete j id)
            (λ (same : j ≡ id). subst (λ (x : ℕ × View R). Knows k.floor_of seats start c' x.0 x.1)
            (λ i. (sym same i, one_view vs id j b u (set_here s.views id b (in_range s.views id v at)) e same i))
            record {
              sight = λ _. still v.sight (kv.sight some_weight);
              other = λ _. still w.sight (kw.sight more_weight);
              owned = owns-append seats c' id v.owned w.owned
                  (owns_moved seats c c' id id v.owned (λ p _ o. (moved_else c.owner other id p (λ q. apart (sym q ∙ o)) ∙ o, refl)) kv.owned)
                  (owns_moved seats c c' other id w.owned (λ p _ o. (moved_here c.owner other id p o, refl)) kw.owned);
              ticket = kv.ticket;
              turn = kv.turn;
              holds = λ z. absurd (omega arith);
              parts = let parts = kv.parts in omega arith;
              low = let a = kv.low in let b = kw.low in omega arith;
            })
            (λ ne. let ku = r.each_view j u (sym (set_else s.views id j b ne) ∙ e) in record {
              sight = λ z. still u.sight (ku.sight z);
              other = λ z. still u.other (ku.other z);
              owned = owns_moved seats c c' j j u.owned (λ p _ o. (moved_else c.owner other id p (λ q. far (sym o ∙ q)) ∙ o, refl)) ku.owned;
              ticket = ku.ticket;
              turn = ku.turn;
              holds = ku.holds;
              parts = ku.parts;
              low = ku.low;
            }));
        each_number = λ p l. let h = r.each_number p l in dite (ℕ_discrete (c.owner p) other)
            (λ e. (b, ap (get_elem? (set vs other spent)) (moved_here c.owner other id p e) ∙ here, has_right p v.owned w.owned (subst (λ (u : View R). OwnsNumber u.owned p) (sym (one_view s.views other (c.owner p) w h.0 near h.1 e)) h.2)))
            (λ ne. dite (ℕ_discrete (c.owner p) id)
            (λ e. (b, ap (get_elem? (set vs other spent)) (moved_else c.owner other id p ne ∙ e) ∙ here, has_left p v.owned w.owned (subst (λ (u : View R). OwnsNumber u.owned p) (sym (one_view s.views id (c.owner p) v h.0 at h.1 e)) h.2)))
            (λ far. (h.0, ap (get_elem? (set vs other spent)) (moved_else c.owner other id p ne) ∙ (set_else vs other (c.owner p) spent ne ∙ (set_else s.views id (c.owner p) b far ∙ h.1)), h.2)));
        each_ticket = λ t low high. ticket_after vs c.line other w spent there (λ z. absurd (omega arith)) t (ticket_after s.views c.line id v b at (λ z. (z, refl)) t (r.each_ticket t low high));
        workers = r.workers;
        place = placed_again c owner' s.homes (set vs other spent) (placed_after k seats start c s.homes vs other w spent there (λ z. omega arith) (λ z. omega arith)
            (placed_after k seats start c s.homes s.views id v b at (λ z. omega arith) (λ z. omega arith) r.place));
      }

  pub splits : (id : ℕ) (v : View R) (p n : ℕ) → v.stage ≡ outside → v.owned ≡ unused p (suc n) → Splits (Rule k seats start) id v (left_view v) (right_view v)
  splits id v p n idle own s r at = let a : View R = left_view v in let b : View R = right_view v in let vs : List (View R) = set s.views id a in let c = r.c in let m = length s.views in
      let owner' : ℕ → ℕ = put c.owner p m in let c' : LockCourse R = record c { owner = owner' } in let still = still_seen k seats start c c' (prefix_same c.log) (prefix_same c.told) (omega arith) in
      let left : a.owned ≡ unused (suc p) n = ap (drop 1) own in let right : b.owned ≡ record { number = p; places = [] } ∷ [] = ap (take 1) own in
      let known = r.each_view id v at in let owned : Owns seats c id (unused p (suc n)) = subst (Owns seats c id) own known.owned in
      let heavy : weight v ≡ suc n = ap length own ∙ length-unused p (suc n) in let la : weight a ≡ n = ap length left ∙ length-unused (suc p) n in let lb : weight b ≡ 1 = ap length right in
      let some_weight : 0 < weight v = omega arith in
      let out = r.out in let weights = r.weights in let none_out : tickets v ≡ 0 = ap (min 1) idle in let none_left : tickets a ≡ 0 = none_out in
      let t1 = total_set tickets s.views id v a at in let t2 = total_snoc tickets vs b in let w1 = total_set weight s.views id v a at in let w2 = total_snoc weight vs b in
      let end : length vs ≡ m = length-set s.views id a in let low = in_range s.views id v at in record {
        c = c';
        words = record { wide = r.words.wide; ticket = r.words.ticket; serving = r.words.serving; count = r.words.count; floor = r.words.floor };
        top_is = r.top_is;
        top_seen = let h = seen_after c s.views id v a at (omega arith) known.low r.top_seen in (h.0, h.1, at_longer vs (b ∷ []) h.0 h.1 h.2, h.3);
        told = r.told;
        near = r.near;
        out = omega arith;
        weights = omega arith;
        few = r.few;
        each_view = λ j u e. ⊎_elim
            (each_after (Knows k.floor_of seats start c') s.views id a
            record {
              sight = λ _. still v.sight (known.sight some_weight);
              other = λ _. still v.other (known.other some_weight);
              owned = subst (Owns seats c' id) (sym left) (owns_moved seats c c' id id (unused (suc p) n)
                  (λ q h o. let above = unused_above q (suc p) n h in (put_else c.owner p m q (λ same. omega arith) ∙ o, refl)) owned.3);
              ticket = λ z. absurd (omega arith);
              turn = λ z. absurd (omega arith);
              holds = λ z. absurd (omega arith);
              parts = omega arith;
              low = known.low;
            }
            (λ i x ne q. let kx = r.each_view i x q in record {
              sight = λ z. still x.sight (kx.sight z);
              other = λ z. still x.other (kx.other z);
              owned = owns_moved seats c c' i i x.owned (λ n' _ o. (put_else c.owner p m n' (λ same. ne (sym o ∙ (ap c.owner same ∙ owned.1))) ∙ o, refl)) kx.owned;
              ticket = kx.ticket;
              turn = kx.turn;
              holds = kx.holds;
              parts = kx.parts;
              low = kx.low;
            }) j u)
            (λ (t : (j ≡ length vs) × (b ≡ u)). subst (λ (x : ℕ × View R). Knows k.floor_of seats start c' x.0 x.1) (λ i. (sym (t.0 ∙ end) i, t.1 i))
            record {
              sight = λ _. still v.sight (known.sight some_weight);
              other = λ _. still v.other (known.other some_weight);
              owned = subst (Owns seats c' m) (sym right) (owned.0, put_here c.owner p m, owned.2, tt);
              ticket = λ z. absurd (omega arith);
              turn = λ z. absurd (omega arith);
              holds = λ z. absurd (omega arith);
              parts = omega arith;
              low = known.low;
            })
            (at_end vs b u j e);
        each_number = λ q l. let h = r.each_number q l in dite (ℕ_discrete q p)
            (λ e. (b, ap (get_elem? (vs ++ b ∷ [])) (ap owner' e ∙ put_here c.owner p m) ∙ at_last vs b m end, subst (λ (ks : List PassTurns). OwnsNumber ks q) (sym right) (inl (sym e))))
            (λ ne. dite (ℕ_discrete (c.owner q) id)
            (λ e. (
              a,
              ap (get_elem? (vs ++ b ∷ [])) (put_else c.owner p m q ne ∙ e) ∙ at_longer vs (b ∷ []) id a (set_here s.views id a low),
              subst (λ (ks : List PassTurns). OwnsNumber ks q) (sym left) (⊎_elim (λ (same : p ≡ q). absurd (ne (sym same))) (λ (rest : OwnsNumber (unused (suc p) n) q). rest)
                  (subst (λ (ks : List PassTurns). OwnsNumber ks q) own (subst (λ (u : View R). OwnsNumber u.owned q) (sym (one_view s.views id (c.owner q) v h.0 at h.1 e)) h.2))),
            ))
            (λ far. (h.0, ap (get_elem? (vs ++ b ∷ [])) (put_else c.owner p m q ne) ∙ at_longer vs (b ∷ []) (c.owner q) h.0 (set_else s.views id (c.owner q) a far ∙ h.1), h.2)));
        each_ticket = λ t low' high. let h = ticket_after s.views c.line id v a at (λ z. (z, refl)) t (r.each_ticket t low' high) in
            (h.0, at_longer vs (b ∷ []) (c.line t) h.0 h.1, h.2, h.3);
        workers = r.workers;
        place = ⊎_elim (λ (h : (x : T) × (s.homes ≡ some x ∷ []) × IsHome k start c' x × NoneHolds vs).
            inl (h.0, h.1, h.2, λ j u e. ⊎_elim (h.3 j u) (λ (t : b ≡ u). λ z. let q : b.stage ≡ u.stage = ap (λ (y : View R). y.stage) t in omega arith) (at_snoc vs b u j e)))
            (λ (h : (j : ℕ) × (u : View R) × (s.homes ≡ none ∷ []) × (get_elem? vs j ≡ some u) × (u.stage ≡ holding)). inr (h.0, h.1, h.2, at_longer vs (b ∷ []) h.0 h.1 h.3, h.4))
            (placed_again c owner' s.homes vs (placed_after k seats start c s.homes s.views id v a at (λ z. omega arith) (λ z. omega arith) r.place));
      }
