-- What a step of one view leaves of the rule.
use Rattle.std.proofs.Common.{◌≡◌, ◌≢◌, ℕ, ◌+◌, ◌%◌, ◌^◌, ◌<◌, ◌≤◌, min, List, [], ◌∷◌, length, get_or, set, sym, ap, ◌∙◌, subst, ⊎_elim, inl, inr, arith, get_or-set_same}
use Rattle.std.proofs.Math.Nat.{mod-add-mod}
use mathlib.Core.Logic.{dite}
use mathlib.Core.List.{IsPrefix}
use mathlib.Core.Option.{Option, none, some, some-injective}
use native.Mathlib.Decide.{ℕ_discrete}
use lib.ListN.{get_elem?}
use lib.Seq.{set-get_or}
use Rattle.atomic_table.specs.Table.{State}
use Rattle.atomic_table.proofs.Lists.{at_set, set_here, set_else, one_turn}
use Rattle.stripe_lock.specs.declared.kept.KeptState.{Ghosts}
use Rattle.stripe_lock.specs.declared.view.StripeTurn.{StripeTurn}
use Rattle.stripe_lock.specs.declared.view.Sight.{Sight}
use Rattle.stripe_lock.specs.declared.view.View.{View}
use Rattle.stripe_lock.specs.History.{OwnsNumber}
use Rattle.stripe_lock.specs.Rule.{outside, called, holding, total, weight, tickets, NoneHolds, LockCourse, IsSeen, Owns, Knows, IsTopSeen, IsHome, IsPlaced, IsLocked}
use Rattle.stripe_lock.proofs.Totals.{in_range, total_set, total_le}
use Rattle.stripe_lock.proofs.Histories.{prefix_more}

abbrev pub W : ℕ
W = 18446744073709551616

-- a word that counts from 0 on, modulo 2^64
pub counts_on : (ws : List ℕ) (i n : ℕ) → i < length ws → get_or ws i 0 ≡ n % W → get_or (set ws i ((get_or ws i 0 + 1) % 2 ^ 64)) i 0 ≡ (n + 1) % W
counts_on ws i n l e = get_or-set_same ws i _ 0 l ∙ (ap (λ (m : ℕ). (m + 1) % W) e ∙ mod-add-mod n W 1)

abbrev Views : Type 0 → Type 0
Views R = List (View R)

module _ {R : Type 0} where
  -- what holds of each view, once one of them is another
  pub each_after : (K : ℕ → View R → Type 0) (vs : Views R) (id : ℕ) (w : View R) → K id w → ((j : ℕ) (u : View R) → j ≢ id → get_elem? vs j ≡ some u → K j u)
      → (j : ℕ) (u : View R) → get_elem? (set vs id w) j ≡ some u → K j u
  each_after K vs id w mine others j u e = ⊎_elim (λ (t : (j ≡ id) × (w ≡ u)). subst (λ (x : ℕ × View R). K x.0 x.1) (λ i. (sym t.0 i, t.1 i)) mine)
      (λ (t : (j ≢ id) × (get_elem? vs j ≡ some u)). others j u t.0 t.1) (at_set vs id j w u e)

  pub one_view : (vs : Views R) (i j : ℕ) (v u : View R) → get_elem? vs i ≡ some v → get_elem? vs j ≡ some u → j ≡ i → v ≡ u
  one_view vs i j v u a b e = some-injective v u (sym a ∙ (ap (get_elem? vs) (sym e) ∙ b))

  -- each number is still owned, where the view that changed has as many as before
  pub number_after : (vs : Views R) (owner : ℕ → ℕ) (id : ℕ) (v w : View R) → get_elem? vs id ≡ some v → ((p : ℕ) → OwnsNumber v.owned p → OwnsNumber w.owned p)
      → (p : ℕ) → (u : View R) × (get_elem? vs (owner p) ≡ some u) × OwnsNumber u.owned p → (u : View R) × (get_elem? (set vs id w) (owner p) ≡ some u) × OwnsNumber u.owned p
  number_after vs owner id v w at more p h = dite (ℕ_discrete (owner p) id)
      (λ e. let same : v ≡ h.0 = one_view vs id (owner p) v h.0 at h.1 e in
      (w, ap (get_elem? (set vs id w)) e ∙ set_here vs id w (in_range vs id v at), more p (subst (λ (u : View R). OwnsNumber u.owned p) (sym same) h.2)))
      (λ ne. (h.0, set_else vs id (owner p) w ne ∙ h.1, h.2))

  -- each ticket is still out, where the view that changed keeps its own
  pub ticket_after : (vs : Views R) (line : ℕ → ℕ) (id : ℕ) (v w : View R) → get_elem? vs id ≡ some v → (0 < v.stage → (0 < w.stage) × (w.ticket ≡ v.ticket)) → (t : ℕ)
      → (u : View R) × (get_elem? vs (line t) ≡ some u) × (0 < u.stage) × (u.ticket ≡ t) → (u : View R) × (get_elem? (set vs id w) (line t) ≡ some u) × (0 < u.stage) × (u.ticket ≡ t)
  ticket_after vs line id v w at keep t h = dite (ℕ_discrete (line t) id)
      (λ e. let same : v ≡ h.0 = one_view vs id (line t) v h.0 at h.1 e in let k = keep (subst (λ (u : View R). 0 < u.stage) (sym same) h.2) in
      (w, ap (get_elem? (set vs id w)) e ∙ set_here vs id w (in_range vs id v at), k.0, k.1 ∙ (ap (λ (u : View R). u.ticket) same ∙ h.3)))
      (λ ne. (h.0, set_else vs id (line t) w ne ∙ h.1, h.2, h.3))

  -- the published floor is still seen, where the view that changed has seen as much
  pub seen_after : (c : LockCourse R) (vs : Views R) (id : ℕ) (v w : View R) → get_elem? vs id ≡ some v → v.peak ≤ w.peak → w.peak ≤ c.top → IsTopSeen c vs → IsTopSeen c (set vs id w)
  seen_after c vs id v w at up low h = dite (ℕ_discrete h.0 id)
      (λ e. let same : v.peak ≡ h.1.peak = ap (λ (u : View R). u.peak) (one_view vs id h.0 v h.1 at h.2 e) in let is = h.3 in (id, w, set_here vs id w (in_range vs id v at), omega arith))
      (λ ne. (h.0, h.1, set_else vs id h.0 w ne ∙ h.2, h.3))

  -- two views that are called are one
  pub one_called : {floor_of : List R → List (StripeTurn R) → ℕ} (seats : ℕ) (start : List R) (c : LockCourse R) (i j : ℕ) (v u : View R) → Knows floor_of seats start c i v → Knows floor_of seats start c j u
      → called ≤ v.stage → called ≤ u.stage → i ≡ j
  one_called seats start c i j v u a b p q = sym (a.ticket (omega arith)).2 ∙ (ap c.line (a.turn p ∙ sym (b.turn q)) ∙ (b.ticket (omega arith)).2)

module _ {T R : Type 0} (k : Ghosts T R) (seats : ℕ) (start : List R) where
  abbrev pub Rule : State T (View R) → Type 0
  Rule = IsLocked k seats start

  -- what was seen is seen where the course goes on
  pub still_seen : (c c' : LockCourse R) → IsPrefix c.log c'.log → IsPrefix c.told c'.told → c.top ≤ c'.top → (g : Sight R) → IsSeen k.floor_of start c g → IsSeen k.floor_of start c' g
  still_seen c c' log told top g h = let low = h.below in record { chronicle = h.chronicle; seen = prefix_more g.seen c.log c'.log h.seen log; told = prefix_more g.told c.told c'.told h.told told; floor_is = h.floor_is; below = omega arith }

  -- at most as many tickets are out as there are seats
  few_out : (s : State T (View R)) (r : Rule s) → total tickets s.views ≤ seats
  few_out s r = let h = total_le tickets weight s.views (λ i v e. (r.each_view i v e).parts) in let w = r.weights in omega arith

  -- two numbers that are one modulo 2^64, of which one is a ticket that is out
  pub its_turn : (s : State T (View R)) (r : Rule s) (id : ℕ) (v : View R) → get_elem? s.views id ≡ some v → 0 < v.stage → get_or s.words 1 0 ≡ v.ticket % W → v.ticket ≡ r.c.served
  its_turn s r id v at out e = let t = (r.each_view id v at).ticket out in let few = few_out s r in let most = r.few in let sum = r.out in let low = t.0 in let high = t.1 in
      sym (one_turn r.c.served v.ticket W low (omega arith) (sym r.words.serving ∙ e))

  pub placed_after : (c : LockCourse R) (homes : List (Option T)) (vs : List (View R)) (id : ℕ) (v w : View R) → get_elem? vs id ≡ some v → v.stage ≢ holding → w.stage ≢ holding
      → IsPlaced k start c homes vs → IsPlaced k start c homes (set vs id w)
  placed_after c homes vs id v w at free stays = ⊎_elim
      (λ (h : (x : T) × (homes ≡ some x ∷ []) × IsHome k start c x × NoneHolds vs).
      inl (h.0, h.1, h.2, each_after (λ _ (u : View R). u.stage ≢ holding) vs id w stays (λ j u _. h.3 j u)))
      (λ (h : (j : ℕ) × (u : View R) × (homes ≡ none ∷ []) × (get_elem? vs j ≡ some u) × (u.stage ≡ holding)).
      inr (h.0, h.1, h.2, set_else vs id h.0 w (λ e. free (ap (λ (z : View R). z.stage) (one_view vs id h.0 v h.1 at h.3 e) ∙ h.4)) ∙ h.3, h.4))

  -- a step that leaves its word
  pub same_word : (s : State T (View R)) (i : ℕ) (homes : List (Option T)) (views : List (View R)) → Rule record { words = s.words; homes = homes; views = views } → Rule record { words = set s.words i (get_or s.words i 0); homes = homes; views = views }
  same_word s i homes views = subst (λ (ws : List ℕ). Rule record { words = ws; homes = homes; views = views }) (sym (set-get_or s.words i 0))

  -- a view in the line that has its numbers and its ticket as before
  pub moves : (s : State T (View R)) (r : Rule s) (id : ℕ) (v w : View R) (homes : List (Option T)) → get_elem? s.views id ≡ some v → w.owned ≡ v.owned → w.ticket ≡ v.ticket → w.other ≡ v.other
      → 0 < v.stage → 0 < w.stage → v.peak ≤ w.peak → w.peak ≤ r.c.top → IsSeen k.floor_of start r.c w.sight → (called ≤ w.stage → v.ticket ≡ r.c.served) → (w.stage ≡ holding → w.sight ≡ record { chronicle = start; seen = r.c.log; told = r.c.told; floor = r.c.top })
      → IsPlaced k start r.c homes (set s.views id w) → Rule record { words = s.words; homes = homes; views = set s.views id w }
  moves s r id v w homes at same_owned same_ticket same_other before after up low sight turn holds place = let known = r.each_view id v at in
      let out = r.out in let weights = r.weights in let parts = known.parts in let heavy : weight w ≡ weight v = ap length same_owned in
      let ts = total_set tickets s.views id v w at in let cs = total_set weight s.views id v w at in record {
        c = r.c;
        words = r.words;
        top_is = r.top_is;
        top_seen = seen_after r.c s.views id v w at up low r.top_seen;
        told = r.told;
        near = r.near;
        out = omega arith;
        weights = omega arith;
        few = r.few;
        each_view = each_after (Knows k.floor_of seats start r.c) s.views id w
            record {
              sight = λ _. sight;
              other = λ _. subst (IsSeen k.floor_of start r.c) (sym same_other) (known.other (omega arith));
              owned = subst (Owns seats r.c id) (sym same_owned) known.owned;
              ticket = λ z. subst (λ (t : ℕ). (r.c.served ≤ t) × (t < r.c.drawn) × (r.c.line t ≡ id)) (sym same_ticket) (known.ticket before);
              turn = λ z. same_ticket ∙ turn z;
              holds = holds;
              parts = omega arith;
              low = low;
            }
            (λ j u _. r.each_view j u);
        each_number = λ p l. number_after s.views r.c.owner id v w at (λ q. subst (λ (ks : List _). OwnsNumber ks q) (sym same_owned)) p (r.each_number p l);
        each_ticket = λ t low high. ticket_after s.views r.c.line id v w at (λ _. (after, same_ticket)) t (r.each_ticket t low high);
        workers = r.workers;
        place = place;
      }

  -- a view outside the line that sees more
  pub learns : (s : State T (View R)) (r : Rule s) (id : ℕ) (v w : View R) → get_elem? s.views id ≡ some v → v.stage ≡ outside → w.stage ≡ outside → w.owned ≡ v.owned → w.other ≡ v.other → v.peak ≤ w.peak → w.peak ≤ r.c.top
      → (0 < weight v → IsSeen k.floor_of start r.c w.sight) → Rule record { words = s.words; homes = s.homes; views = set s.views id w }
  learns s r id v w at idle idle' same_owned same_other up low sight = let known = r.each_view id v at in
      let out = r.out in let weights = r.weights in let heavy : weight w ≡ weight v = ap length same_owned in
      let ts = total_set tickets s.views id v w at in let cs = total_set weight s.views id v w at in let none_out : tickets v ≡ 0 = ap (min 1) idle in let none_out' : tickets w ≡ 0 = ap (min 1) idle' in record {
        c = r.c;
        words = r.words;
        top_is = r.top_is;
        top_seen = seen_after r.c s.views id v w at up low r.top_seen;
        told = r.told;
        near = r.near;
        out = omega arith;
        weights = omega arith;
        few = r.few;
        each_view = each_after (Knows k.floor_of seats start r.c) s.views id w
            record {
              sight = λ z. sight (omega arith);
              other = λ z. subst (IsSeen k.floor_of start r.c) (sym same_other) (known.other (omega arith));
              owned = subst (Owns seats r.c id) (sym same_owned) known.owned;
              ticket = λ z. absurd (omega arith);
              turn = λ z. absurd (omega arith);
              holds = λ z. absurd (omega arith);
              parts = omega arith;
              low = low;
            }
            (λ j u _. r.each_view j u);
        each_number = λ p l. number_after s.views r.c.owner id v w at (λ q. subst (λ (ks : List _). OwnsNumber ks q) (sym same_owned)) p (r.each_number p l);
        each_ticket = λ t low high. ticket_after s.views r.c.line id v w at (λ z. absurd (omega arith)) t (r.each_ticket t low high);
        workers = r.workers;
        place = placed_after r.c s.homes s.views id v w at (λ z. omega arith) (λ z. omega arith) r.place;
      }

  -- the state is out with this view
  pub out_with : (s : State T (View R)) (r : Rule s) (id : ℕ) (v w : View R) (c : LockCourse R) → get_elem? s.views id ≡ some v → v.stage ≡ holding → w.stage ≡ holding → IsPlaced k start c s.homes (set s.views id w)
  out_with s r id v w c at st st' = ⊎_elim (λ (h : (x : T) × (s.homes ≡ some x ∷ []) × IsHome k start r.c x × NoneHolds s.views). absurd (h.3 id v at st))
      (λ (h : (j : ℕ) × (u : View R) × (s.homes ≡ none ∷ []) × (get_elem? s.views j ≡ some u) × (u.stage ≡ holding)). inr (id, w, h.2, set_here s.views id w (in_range s.views id v at), st')) r.place
