-- The table as it is made, and as it is closed.
use Rattle.std.proofs.Common.{◌≡◌, ℕ, zero, suc, ◌%◌, ◌<◌, ◌≤◌, min, List, [], ◌∷◌, sym, refl, ap, slice_index, length, ◌∙◌, subst, ⊎_elim, inl, arith}
use mathlib.Core.Logic.{dite}
use mathlib.Core.List.{IsPrefix}
use mathlib.Core.Option.{Option, none, some, some-ne-none, some-injective}
use native.Mathlib.Decide.{ℕ_discrete}
use lib.ListN.{get_elem?}
use Rattle.atomic_table.specs.Table.{State, opening, Final, Seen}
use Rattle.atomic_table.specs.Seated.{TableId}
use Rattle.stripe_lock.specs.declared.kept.KeptState.{Ghosts}
use Rattle.stripe_lock.specs.declared.view.StripeTurn.{StripeTurn}
use Rattle.stripe_lock.specs.declared.view.View.{View}
use Rattle.stripe_lock.specs.History.{HasJust, OwnsNumber, AreUnder}
use Rattle.stripe_lock.specs.Rule.{outside, holding, weight, tickets, NoneHolds, LockCourse, IsSeen, Knows, IsHome, HomeIsPublished}
use Rattle.stripe_lock.specs.Steps.{opener}
use Rattle.stripe_lock.specs.Passes.{pass_of}
use Rattle.stripe_lock.specs.Turns.{LockEnds}
use Rattle.stripe_lock.proofs.Totals.{total_at, total_alone}
use Rattle.stripe_lock.proofs.Histories.{prefix_same, owns_just, owns_unused, under_all, has_some, has_unused, length-unused}
use Rattle.stripe_lock.proofs.Keeping.{one_view, Rule}

module _ {T R : Type 0} (k : Ghosts T R) (seats : ℕ) (start : List R) where
  pub opens : (x : T) (floor : ℕ) → k.chronicle x ≡ start → k.turns x ≡ [] → k.is_sound x → floor ≡ k.floor_of (k.chronicle x) (k.turns x) → seats ≤ 64
      → Rule k seats start (opening (0 ∷ 0 ∷ 0 ∷ floor ∷ []) (x ∷ []) (opener seats start (k.floor_of start [])))
  opens x floor start_is blank sound floor_is few = let top : floor ≡ k.floor_of start [] = floor_is ∙ (λ i. k.floor_of (start_is i) (blank i)) in record {
    c = c;
    words = record { wide = refl; ticket = refl; serving = refl; count = refl; floor = top };
    top_is = refl;
    top_seen = (0, first, refl, refl);
    told = prefix_same [];
    near = omega arith;
    out = refl;
    weights = let l = length-unused 0 seats in omega arith;
    few = few;
    each_view = only;
    each_number = λ p l. (first, refl, has_unused p 0 seats (omega arith) (omega arith));
    each_ticket = λ t low high. absurd (omega arith);
    workers = tt;
    place = inl (x, refl, record { turns_are = blank; told_is = refl; chronicle_is = start_is; sound = sound }, idle_only);
  }
    where
      first : View R
      first = opener seats start (k.floor_of start [])

      c : LockCourse R
      c = record { log = []; told = []; top = k.floor_of start []; drawn = 0; served = 0; owner = λ _. 0; line = λ _. 0 }

      nothing : IsSeen k.floor_of start c first.sight
      nothing = record { chronicle = refl; seen = prefix_same []; told = prefix_same []; floor_is = refl; below = omega arith }

      only : (j : ℕ) (v : View R) → get_elem? (first ∷ []) j ≡ some v → Knows k.floor_of seats start c j v
      only zero v e = subst (Knows k.floor_of seats start c 0) (some-injective first v e) record {
        sight = λ _. nothing;
        other = λ _. nothing;
        owned = owns_unused seats 0 seats c refl refl (omega arith);
        ticket = λ z. absurd (omega arith);
        turn = λ z. absurd (omega arith);
        holds = λ z. absurd (omega arith);
        parts = omega arith;
        low = omega arith;
      }
      only (suc j) v e = absurd (some-ne-none v (sym e))

      idle_only : NoneHolds (first ∷ [])
      idle_only zero v e z = let q : 0 ≡ v.stage = ap (λ (u : View R). u.stage) (some-injective first v e) in omega arith
      idle_only (suc j) v e z = some-ne-none v (sym e)

  -- what comes back where one pass has all numbers
  pub closes : (id : ℕ) (v : View R) (words : List ℕ) (slots : List T) (lock : TableId) → weight v % 4294967296 ≡ seats → 0 < weight v → v.stage ≡ outside → Final (Seen (Rule k seats start) id v) words slots
      → (x : T) × (get_elem? slots 0 ≡ some x) × LockEnds k (pass_of lock v) x × (weight v ≡ seats)
  closes id v words slots lock all' some_weight idle f = let s : State T (View R) = f.0 in let r : Rule k seats start s = f.1.0 in let at = f.1.1 in let c = r.c in let known = r.each_view id v at in let g = known.sight some_weight in
      let weights = r.weights in let most = total_at weight s.views id v at in let few = r.few in let all : weight v ≡ seats = omega arith in
      ⊎_elim
      (λ (h : (x : T) × (s.homes ≡ some x ∷ []) × IsHome k start c x × NoneHolds s.views). let x : T = h.0 in let home = h.2 in (
        x,
        f.4 0 x (ap (λ (l : List (Option T)). get_elem? l 0) h.1),
        record {
          chronicle = home.chronicle_is ∙ sym g.chronicle;
          seen = subst (λ (l : List (StripeTurn R)). IsPrefix v.sight.seen l) (sym home.turns_are) g.seen;
          told = subst (λ (l : List (StripeTurn R)). IsPrefix v.sight.told l) (home.told_is ∙ sym home.turns_are) g.told;
          known = subst (λ (l : List (StripeTurn R)). HasJust l v.owned) (sym home.turns_are) (owns_just seats c id v.owned known.owned);
          under = subst (AreUnder v.owned) (sym home.turns_are) (under_all seats v.owned c.log (λ p l. let n = r.each_number p l in dite (ℕ_discrete (c.owner p) id)
              (λ e. subst (λ (u : View R). OwnsNumber u.owned p) (sym (one_view s.views id (c.owner p) v n.0 at n.1 e)) n.2)
              (λ ne. absurd (let none = total_alone weight s.views id (c.owner p) v n.0 at n.1 ne in let some_there = has_some p n.0.owned n.2 in omega arith))) r.workers);
          higher = let low = g.below in let is : k.floor_of (k.chronicle x) (k.turns x) ≡ c.top = (λ i. k.floor_of (home.chronicle_is i) ((home.turns_are ∙ sym home.told_is) i)) ∙ sym r.top_is in omega arith;
          sound = home.sound;
        },
        all,
      ))
      (λ (h : (j : ℕ) × (u : View R) × (s.homes ≡ none ∷ []) × (get_elem? s.views j ≡ some u) × (u.stage ≡ holding)). absurd (let st = h.4 in let parts = (r.each_view h.0 h.1 h.3).parts in
      let one_out : tickets h.1 ≡ 1 = ap (min 1) st in
      dite (ℕ_discrete h.0 id) (λ e. let same : v.stage ≡ h.1.stage = ap (λ (z : View R). z.stage) (one_view s.views id h.0 v h.1 at h.3 e) in omega arith)
      (λ ne. let none = total_alone weight s.views id h.0 v h.1 at h.3 ne in omega arith)))
      r.place

module _ {T R : Type 0} (k : Ghosts T R) where
  pub home_is_published : (seats : ℕ) (start : List R) → HomeIsPublished k (Rule k seats start)
  home_is_published seats start s x r here = ⊎_elim
      (λ (h : (y : T) × (s.homes ≡ some y ∷ []) × IsHome k start r.c y × NoneHolds s.views). let home = h.2 in
      let same : h.0 ≡ x = some-injective h.0 x (some-injective _ _ (ap (λ (l : List (Option T)). get_elem? l 0) (sym h.1 ∙ here))) in
      subst (λ (y : T). (slice_index s.words 2 ≡ length (k.turns y)) × (slice_index s.words 3 ≡ k.floor_of (k.chronicle y) (k.turns y)) × k.is_sound y) same
      (r.words.count ∙ ap length (sym home.turns_are), r.words.floor ∙ (r.top_is ∙ (λ i. k.floor_of (sym home.chronicle_is i) ((home.told_is ∙ sym home.turns_are) i))), home.sound))
      (λ (h : (j : ℕ) × (v : View R) × (s.homes ≡ none ∷ []) × (get_elem? s.views j ≡ some v) × (v.stage ≡ holding)).
      absurd (some-ne-none x (sym (some-injective _ _ (ap (λ (l : List (Option T)). get_elem? l 0) (sym h.2 ∙ here))))))
      r.place
