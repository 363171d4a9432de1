-- The steps of a pass through the line keep the rule.
use Rattle.std.proofs.Common.{◌≡◌, ◌≢◌, ℕ, ◌+◌, ◌%◌, ◌^◌, ◌<◌, ◌≤◌, min, List, [], ◌∷◌, length, get_or, set, sym, refl, ap, ◌∙◌, subst, ⊎_elim, inl, inr, arith, length-set, get_or-set_other}
use mathlib.Core.Logic.{dite}
use mathlib.Core.List.{IsPrefix}
use mathlib.Core.Option.{Option, none, some}
use native.Mathlib.Decide.{ℕ_discrete}
use lib.ListN.{get_elem?}
use Rattle.atomic_table.specs.Table.{Me, step, keeps, takes, gives, stepped, Allows, rest}
use Rattle.atomic_table.proofs.Lists.{set_here, set_else}
use Rattle.stripe_lock.specs.declared.kept.KeptState.{Ghosts}
use Rattle.stripe_lock.specs.declared.view.StripeTurn.{StripeTurn}
use Rattle.stripe_lock.specs.declared.view.View.{View}
use Rattle.stripe_lock.specs.History.{HasJust}
use Rattle.stripe_lock.specs.Rule.{outside, waiting, called, holding, weight, tickets, NoneHolds, LockCourse, Knows, IsHome, IsPlaced}
use Rattle.stripe_lock.specs.Steps.{at_stage, with_sight, whole_sight, drew, looked, took, gave_back, ended_turn}
use Rattle.stripe_lock.proofs.Totals.{put, put_here, put_else, in_range, total_set}
use Rattle.stripe_lock.proofs.Histories.{prefix_same, owns_just, owns_moved}
use Rattle.stripe_lock.proofs.Keeping.{W, counts_on, each_after, one_view, number_after, ticket_after, one_called, seen_after, Rule, still_seen, its_turn, placed_after, same_word, moves}

module _ {T R : Type 0} (k : Ghosts T R) (seats : ℕ) (start : List R) where
  pub draws : (slots id : ℕ) (me : Me T (View R)) → me.0.stage ≡ outside → 0 < weight me.0 → Allows (Rule k seats start) slots id me 0 (λ n. (n + 1) % 2 ^ 64) (drew (step slots 0 1 0 none) me)
  draws slots id me idle some_weight s r deep at _ = let v = me.0 in let c = r.c in let w : View R = record v { stage = waiting; ticket = c.drawn } in
      let wide = r.words.wide in let out = r.out in let weights = r.weights in let known = r.each_view id v at in
      let c' : LockCourse R = record c { drawn = c.drawn + 1; line = put c.line c.drawn id } in let still = still_seen k seats start c c' (prefix_same c.log) (prefix_same c.told) (omega arith) in
      let ts = total_set tickets s.views id v w at in let cs = total_set weight s.views id v w at in let none_out : tickets v ≡ 0 = ap (min 1) idle in (
        w,
        keeps,
        tt,
        record {
          c = c';
          words = record {
            wide = length-set s.words 0 _ ∙ r.words.wide;
            ticket = counts_on s.words 0 c.drawn (omega arith) r.words.ticket;
            serving = get_or-set_other s.words 0 1 _ 0 (λ e. omega arith) ∙ r.words.serving;
            count = get_or-set_other s.words 0 2 _ 0 (λ e. omega arith) ∙ r.words.count;
            floor = get_or-set_other s.words 0 3 _ 0 (λ e. omega arith) ∙ r.words.floor;
          };
          top_is = r.top_is;
          top_seen = seen_after c s.views id v w at (omega arith) known.low r.top_seen;
          told = r.told;
          near = r.near;
          out = omega arith;
          weights = omega arith;
          few = r.few;
          each_view = each_after (Knows k.floor_of seats start c') s.views id w
              record {
                sight = λ z. still v.sight (known.sight z);
                other = λ z. still v.other (known.other z);
                owned = owns_moved seats c c' id id v.owned (λ p _ e. (e, refl)) known.owned;
                ticket = λ _. (omega arith, omega arith, put_here c.line c.drawn id);
                turn = λ z. absurd (omega arith);
                holds = λ z. absurd (omega arith);
                parts = some_weight;
                low = known.low;
              }
              (λ j u other e. let ku = r.each_view j u e in record {
                sight = λ z. still u.sight (ku.sight z);
                other = λ z. still u.other (ku.other z);
                owned = owns_moved seats c c' j j u.owned (λ p _ q. (q, refl)) ku.owned;
                ticket = λ z. let t = ku.ticket z in let l = t.1 in (t.0, omega arith, put_else c.line c.drawn id u.ticket (λ same. omega arith) ∙ t.2);
                turn = ku.turn;
                holds = ku.holds;
                parts = ku.parts;
                low = ku.low;
              });
          each_number = λ p l. number_after s.views c.owner id v w at (λ q h. h) p (r.each_number p l);
          each_ticket = λ t low high. dite (ℕ_discrete t c.drawn)
              (λ e. (w, ap (get_elem? (set s.views id w)) (ap (put c.line c.drawn id) e ∙ put_here c.line c.drawn id) ∙ set_here s.views id w (in_range s.views id v at), omega arith, sym e))
              (λ ne. let h = ticket_after s.views c.line id v w at (λ z. absurd (omega arith)) t (r.each_ticket t low (omega arith)) in
              (h.0, ap (get_elem? (set s.views id w)) (put_else c.line c.drawn id t ne) ∙ h.1, h.2, h.3));
          workers = r.workers;
          place = again c c' refl refl s.homes (set s.views id w) (placed_after k seats start c s.homes s.views id v w at (λ z. omega arith) (λ z. omega arith) r.place);
        },
        (c.drawn, r.words.ticket, refl, refl),
      )
    where
      again : (c c' : LockCourse R) → c'.log ≡ c.log → c'.told ≡ c.told → (homes : List (Option T)) (vs : List (View R)) → IsPlaced k start c homes vs → IsPlaced k start c' homes vs
      again c c' a b homes vs = ⊎_elim (λ (h : (x : T) × (homes ≡ some x ∷ []) × IsHome k start c x × NoneHolds vs).
          inl (h.0, h.1, record { turns_are = h.2.turns_are ∙ sym a; told_is = b ∙ (h.2.told_is ∙ sym a); chronicle_is = h.2.chronicle_is; sound = h.2.sound }, h.3)) inr

  pub looks : (slots id : ℕ) (me : Me T (View R)) → me.0.stage ≡ waiting → Allows (Rule k seats start) slots id me 1 (λ n. n) (looked (step slots 1 0 0 none) me)
  looks slots id me waits s r deep at _ = let v = me.0 in let n = get_or s.words 1 0 in let known = r.each_view id v at in let parts = known.parts in let here : v.stage ≢ holding = λ z. omega arith in
      dite (ℕ_discrete n (v.ticket % W))
      (λ e. let w : View R = at_stage called v in (
        w,
        keeps,
        tt,
        same_word k seats start s 1 s.homes (set s.views id w) (moves k seats start s r id v w s.homes at refl refl refl (omega arith) (omega arith) (omega arith) known.low (known.sight (omega arith))
            (λ _. its_turn k seats start s r id v at (omega arith) e) (λ z. absurd (omega arith)) (placed_after k seats start r.c s.homes s.views id v w at here (λ z. omega arith) r.place)),
        ((λ _. refl), λ ne. absurd (ne e)),
      ))
      (λ ne. (
        v,
        keeps,
        tt,
        same_word k seats start s 1 s.homes (set s.views id v) (moves k seats start s r id v v s.homes at refl refl refl (omega arith) (omega arith) (omega arith) known.low (known.sight (omega arith))
            (λ z. absurd (omega arith)) (λ z. absurd (omega arith)) (placed_after k seats start r.c s.homes s.views id v v at here here r.place)),
        ((λ e. absurd (ne e)), λ _. refl),
      ))

  pub takes_it : (slots id : ℕ) (me : Me T (View R)) → me.0.stage ≡ called → me.1 ≡ [] → Allows (Rule k seats start) slots id me 1 (λ n. n) (took k (step slots 1 0 0 none) me)
  takes_it slots id me ready bare s r deep at _ = let v = me.0 in let c = r.c in let known = r.each_view id v at in let parts = known.parts in
      ⊎_elim
      (λ (h : (x : T) × (s.homes ≡ some x ∷ []) × IsHome k start c x × NoneHolds s.views). let x = h.0 in let home = h.2 in let g = known.sight (omega arith) in
      let top : c.top ≡ k.floor_of (k.chronicle x) (k.turns x) = r.top_is ∙ (λ i. k.floor_of (sym home.chronicle_is i) ((home.told_is ∙ sym home.turns_are) i)) in
      let w : View R = at_stage holding (with_sight (whole_sight (k.chronicle x) (k.turns x) (k.floor_of (k.chronicle x) (k.turns x))) v) in
      let all : w.sight ≡ record { chronicle = start; seen = c.log; told = c.told; floor = c.top } = λ i. record { chronicle = home.chronicle_is i; seen = home.turns_are i; told = (home.turns_are ∙ sym home.told_is) i; floor = sym top i } in (
        w,
        takes 0 x,
        ap (λ (l : List (Option T)). get_elem? l 0) h.1,
        same_word k seats start s 1 (set s.homes 0 none) (set s.views id w) (moves k seats start s r id v w (set s.homes 0 none) at refl refl refl (omega arith) (omega arith) (omega arith) (let low = known.low in omega arith)
            record {
              chronicle = home.chronicle_is;
              seen = subst (λ (l : List (StripeTurn R)). IsPrefix l c.log) (sym home.turns_are) (prefix_same c.log);
              told = subst (λ (l : List (StripeTurn R)). IsPrefix l c.told) (home.told_is ∙ sym home.turns_are) (prefix_same c.told);
              floor_is = λ i. k.floor_of (home.chronicle_is i) (k.turns x);
              below = omega arith;
            }
            (λ _. known.turn (omega arith)) (λ _. all)
            (inr (id, w, ap (λ (l : List (Option T)). set l 0 none) h.1, set_here s.views id w (in_range s.views id v at), refl))),
        (
          x,
          ap (λ (l : List (ℕ × T)). (0, x) ∷ l) bare,
          refl,
          home.chronicle_is ∙ sym g.chronicle,
          subst (λ (l : List (StripeTurn R)). IsPrefix v.sight.seen l) (sym home.turns_are) g.seen,
          subst (λ (l : List (StripeTurn R)). IsPrefix v.sight.told l) (home.told_is ∙ sym home.turns_are) g.told,
          subst (λ (n : ℕ). v.sight.floor ≤ n) top g.below,
          subst (λ (l : List (StripeTurn R)). HasJust l v.owned) (sym home.turns_are) (owns_just seats c id v.owned known.owned),
          home.sound,
        ),
      ))
      (λ (h : (j : ℕ) × (u : View R) × (s.homes ≡ none ∷ []) × (get_elem? s.views j ≡ some u) × (u.stage ≡ holding)). absurd (let st = h.4 in
      let same : h.0 ≡ id = one_called seats start c h.0 id h.1 v (r.each_view h.0 h.1 h.3) known (omega arith) (omega arith) in
      let one : v.stage ≡ h.1.stage = ap (λ (z : View R). z.stage) (one_view s.views id h.0 v h.1 at h.3 same) in omega arith))
      r.place

  -- the holder gives back a state that is as its view says, the floor of which was published
  pub gives_it : (slots id : ℕ) (me : Me T (View R)) (x : T) → slots ≡ 1 → me.0.stage ≡ holding → me.1 ≡ (0, x) ∷ [] → k.chronicle x ≡ me.0.sight.chronicle → k.turns x ≡ me.0.sight.seen → me.0.sight.told ≡ me.0.sight.seen → k.is_sound x
      → Allows (Rule k seats start) slots id me 1 (λ n. n) (gave_back (step slots 1 0 0 none) me)
  gives_it slots id me x one st held same_chronicle same_turns told sound s r deep at _ = let v = me.0 in let c = r.c in let w : View R = at_stage called v in let known = r.each_view id v at in let parts = known.parts in
      let all = known.holds st in let log_is : v.sight.seen ≡ c.log = ap (λ g. g.seen) all in let told_is : v.sight.told ≡ c.told = ap (λ g. g.told) all in (
        w,
        gives,
        tt,
        subst (λ (l : List (ℕ × T)). Rule k seats start (stepped s 1 (get_or s.words 1 0) id l w gives)) (sym held)
            (same_word k seats start s 1 (set s.homes 0 (some x)) (set s.views id w) (moves k seats start s r id v w (set s.homes 0 (some x)) at refl refl refl (omega arith) (omega arith) (omega arith) known.low (known.sight (omega arith))
            (λ _. known.turn (omega arith)) (λ z. absurd (omega arith)) (inl (
              x,
              only s.homes (deep ∙ one),
              record { turns_are = same_turns ∙ log_is; told_is = sym told_is ∙ (told ∙ log_is); chronicle_is = same_chronicle ∙ (known.sight (omega arith)).chronicle; sound = sound },
              each_after (λ _ (u : View R). u.stage ≢ holding) s.views id w (λ z. omega arith) (λ j u other e z. other (one_called seats start c j id u v (r.each_view j u e) known (omega arith) (omega arith))),
            )))),
        ap (λ (l : List (ℕ × T)). (w, rest l)) held,
      )
    where
      only : (l : List (Option T)) → length l ≡ 1 → set l 0 (some x) ≡ some x ∷ []
      only [] e = absurd (omega arith)
      only (h ∷ []) e = refl
      only (h ∷ g ∷ l) e = absurd (omega arith)

  pub ends_it : (slots id : ℕ) (me : Me T (View R)) → me.0.stage ≡ called → Allows (Rule k seats start) slots id me 1 (λ n. (n + 1) % 2 ^ 64) (ended_turn (step slots 1 1 0 none) me)
  ends_it slots id me ready s r deep at _ = let v = me.0 in let c = r.c in let w : View R = at_stage outside v in
      let wide = r.words.wide in let out = r.out in let weights = r.weights in let known = r.each_view id v at in let mine = known.ticket (omega arith) in
      let c' : LockCourse R = record c { served = c.served + 1 } in let still = still_seen k seats start c c' (prefix_same c.log) (prefix_same c.told) (omega arith) in
      let ts = total_set tickets s.views id v w at in let cs = total_set weight s.views id v w at in let one_out : tickets v ≡ 1 = ap (min 1) ready in
      let here : c.line c.served ≡ id = ap c.line (sym (known.turn (omega arith))) ∙ mine.2 in (
        w,
        keeps,
        tt,
        record {
          c = c';
          words = record {
            wide = length-set s.words 1 _ ∙ r.words.wide;
            ticket = get_or-set_other s.words 1 0 _ 0 (λ e. omega arith) ∙ r.words.ticket;
            serving = counts_on s.words 1 c.served (omega arith) r.words.serving;
            count = get_or-set_other s.words 1 2 _ 0 (λ e. omega arith) ∙ r.words.count;
            floor = get_or-set_other s.words 1 3 _ 0 (λ e. omega arith) ∙ r.words.floor;
          };
          top_is = r.top_is;
          top_seen = seen_after c s.views id v w at (omega arith) known.low r.top_seen;
          told = r.told;
          near = r.near;
          out = omega arith;
          weights = omega arith;
          few = r.few;
          each_view = each_after (Knows k.floor_of seats start c') s.views id w
              record {
                sight = λ z. still v.sight (known.sight z);
                other = λ z. still v.other (known.other z);
                owned = owns_moved seats c c' id id v.owned (λ p _ e. (e, refl)) known.owned;
                ticket = λ z. absurd (omega arith);
                turn = λ z. absurd (omega arith);
                holds = λ z. absurd (omega arith);
                parts = omega arith;
                low = known.low;
              }
              (λ j u other e. let ku = r.each_view j u e in record {
                sight = λ z. still u.sight (ku.sight z);
                other = λ z. still u.other (ku.other z);
                owned = owns_moved seats c c' j j u.owned (λ p _ q. (q, refl)) ku.owned;
                ticket = λ z. let t = ku.ticket z in let low = t.0 in let apart : u.ticket ≢ c.served = λ same. other (sym t.2 ∙ (ap c.line same ∙ here)) in (omega arith, t.1, t.2);
                turn = λ z. absurd (other (one_called seats start c j id u v ku known z (omega arith)));
                holds = ku.holds;
                parts = ku.parts;
                low = ku.low;
              });
          each_number = λ p l. number_after s.views c.owner id v w at (λ q h. h) p (r.each_number p l);
          each_ticket = λ t low high. let h = r.each_ticket t (omega arith) high in (
            h.0,
            set_else s.views id (c.line t) w (λ e. let one : v.ticket ≡ t = ap (λ (u : View R). u.ticket) (one_view s.views id (c.line t) v h.0 at h.1 e) ∙ h.3 in let two = known.turn (omega arith) in omega arith) ∙ h.1,
            h.2,
            h.3,
          );
          workers = r.workers;
          place = ⊎_elim (λ (h : (x : T) × (s.homes ≡ some x ∷ []) × IsHome k start c x × NoneHolds (set s.views id w)). inl (h.0, h.1, record { turns_are = h.2.turns_are; told_is = h.2.told_is; chronicle_is = h.2.chronicle_is; sound = h.2.sound }, h.3)) inr
              (placed_after k seats start c s.homes s.views id v w at (λ z. omega arith) (λ z. omega arith) r.place);
        },
        refl,
      )
