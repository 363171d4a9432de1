-- The steps that publish a turn keep the rule.
use Rattle.std.proofs.Common.{◌≡◌, ℕ, ◌+◌, ◌≤◌, max, List, [], ◌∷◌, ◌++◌, length, get_or, sym, refl, ap, ◌∙◌, subst, arith, length-set, length-append, get_or-set_other, get_or-set_same}
use mathlib.Core.List.{IsPrefix}
use mathlib.Core.Option.{none}
use Rattle.atomic_table.specs.Table.{Me, step, keeps, Allows}
use Rattle.atomic_table.proofs.Lists.{set_here}
use Rattle.stripe_lock.specs.declared.kept.KeptState.{Ghosts}
use Rattle.stripe_lock.specs.declared.view.StripeTurn.{StripeTurn}
use Rattle.stripe_lock.specs.declared.view.Sight.{Sight}
use Rattle.stripe_lock.specs.declared.view.View.{View}
use Rattle.stripe_lock.specs.History.{places_of, with_places, OwnsNumber, AreBelow}
use Rattle.stripe_lock.specs.Rule.{holding, weight, tickets, LockCourse, Knows}
use Rattle.stripe_lock.specs.Steps.{with_sight, whole_sight, noted_turn, raised_floor}
use Rattle.stripe_lock.proofs.Totals.{in_range, total_set}
use Rattle.stripe_lock.proofs.Histories.{places-other, below-snoc, prefix_same, prefix_more, owns_moved, owns_noted, owns_owner, has_noted, length-noted}
use Rattle.stripe_lock.proofs.Keeping.{each_after, number_after, ticket_after, one_called, seen_after, Rule, still_seen, out_with}

module _ {T R : Type 0} (k : Ghosts T R) (seats : ℕ) (start : List R) where
  -- the history goes on with the turn that was made
  pub notes : (slots id new : ℕ) (me : Me T (View R)) (x : T) (t : StripeTurn R) → me.0.stage ≡ holding → me.1 ≡ (0, x) ∷ [] → me.0.sight.told ≡ me.0.sight.seen → k.turns x ≡ me.0.sight.seen ++ t ∷ [] → OwnsNumber me.0.owned t.worker → new ≡ length (k.turns x)
      → Allows (Rule k seats start) slots id me 2 (λ _. new) (λ _. noted_turn k (step slots 2 new 0 none) me new)
  notes slots id new me x t st held told grown own count s r deep at _ = let v = me.0 in let c = r.c in let log : List (StripeTurn R) = k.turns x in
      let w : View R = record v { sight = record v.sight { seen = log }; owned = with_places log v.owned } in let known = r.each_view id v at in
      let c' : LockCourse R = record c { log = log } in let all = known.holds st in
      let now : log ≡ c.log ++ t ∷ [] = grown ∙ ap (λ (g : Sight R). g.seen ++ t ∷ []) all in let more : IsPrefix c.log log = (t ∷ [], sym now) in let still = still_seen k seats start c c' more (prefix_same c.told) (omega arith) in
      let near : length log ≤ length c.told + 1 = let all_told : c.told ≡ c.log = sym (ap (λ (g : Sight R). g.told) all) ∙ (told ∙ ap (λ (g : Sight R). g.seen) all) in
      let longer_by : length log ≡ length c.log + 1 = ap length now ∙ length-append c.log (t ∷ []) in let as_long = ap length all_told in omega arith in
      let mine = owns_owner seats c id t.worker v.owned known.owned own in
      let wide = r.words.wide in let out = r.out in let weights = r.weights in let parts = known.parts in let heavy : weight w ≡ weight v = length-noted log v.owned in
      let ts = total_set tickets s.views id v w at in let cs = total_set weight s.views id v w at in (
        w,
        keeps,
        tt,
        record {
          c = c';
          words = record {
            wide = length-set s.words 2 _ ∙ r.words.wide;
            ticket = get_or-set_other s.words 2 0 _ 0 (λ e. omega arith) ∙ r.words.ticket;
            serving = get_or-set_other s.words 2 1 _ 0 (λ e. omega arith) ∙ r.words.serving;
            count = get_or-set_same s.words 2 _ 0 (omega arith) ∙ count;
            floor = get_or-set_other s.words 2 3 _ 0 (λ e. omega arith) ∙ r.words.floor;
          };
          top_is = r.top_is;
          top_seen = seen_after c s.views id v w at (omega arith) known.low r.top_seen;
          told = prefix_more c.told c.log log r.told more;
          near = near;
          out = omega arith;
          weights = omega arith;
          few = r.few;
          each_view = each_after (Knows k.floor_of seats start c') s.views id w
              record {
                sight = λ z. let g = known.sight (omega arith) in record { chronicle = g.chronicle; seen = prefix_same log; told = g.told; floor_is = g.floor_is; below = g.below };
                other = λ z. still v.other (known.other (omega arith));
                owned = owns_noted seats c c' id v.owned refl known.owned;
                ticket = known.ticket;
                turn = known.turn;
                holds = λ z. λ i. record { chronicle = (all i).chronicle; seen = log; told = (all i).told; floor = (all i).floor };
                parts = omega arith;
                low = known.low;
              }
              (λ j u other e. let ku = r.each_view j u e in record {
                sight = λ z. still u.sight (ku.sight z);
                other = λ z. still u.other (ku.other z);
                owned = owns_moved seats c c' j j u.owned (λ p _ o. (o, sym (ap (places_of p) now ∙ places-other p c.log t (λ q. other (sym o ∙ (ap c.owner (sym q) ∙ mine.1)))))) ku.owned;
                ticket = ku.ticket;
                turn = ku.turn;
                holds = λ z. absurd (other (one_called seats start c j id u v ku known (omega arith) (omega arith)));
                parts = ku.parts;
                low = ku.low;
              });
          each_number = λ p l. number_after s.views c.owner id v w at (λ q. has_noted log q v.owned) p (r.each_number p l);
          each_ticket = λ n low high. ticket_after s.views c.line id v w at (λ z. (z, refl)) n (r.each_ticket n low high);
          workers = subst (λ l. AreBelow seats l) (sym now) (below-snoc seats c.log t r.workers mine.0);
          place = out_with k seats start s r id v w c' at st st;
        },
        (
          refl,
          refl,
          λ y e. let same : x ≡ y = ap (λ (l : List (ℕ × T)). (get_or l 0 (0, x)).1) (sym held ∙ e) in
              ap (λ (z : T). record v { sight = record v.sight { seen = k.turns z }; owned = with_places (k.turns z) v.owned }) same,
        ),
      )

  -- the floor behind the whole history is published
  pub raises : (slots id n : ℕ) (me : Me T (View R)) → me.0.stage ≡ holding → me.0.sight.floor ≤ n → n ≡ k.floor_of me.0.sight.chronicle me.0.sight.seen
      → Allows (Rule k seats start) slots id me 3 (λ m. max m n) (raised_floor (step slots 3 n 0 none) me)
  raises slots id n me st up is s r deep at _ = let v = me.0 in let c = r.c in let w : View R = with_sight (whole_sight v.sight.chronicle v.sight.seen n) v in let known = r.each_view id v at in
      let parts = known.parts in let all = known.holds st in let log_is : v.sight.seen ≡ c.log = ap (λ (g : Sight R). g.seen) all in let top : v.sight.floor ≡ c.top = ap (λ (g : Sight R). g.floor) all in
      let c' : LockCourse R = record c { told = c.log; top = n } in
      let wide = r.words.wide in let out = r.out in let weights = r.weights in let found = r.words.floor in let grows : c.top ≤ n = omega arith in let still = still_seen k seats start c c' (prefix_same c.log) r.told grows in
      let now : n ≡ k.floor_of start c.log = is ∙ (λ i. k.floor_of ((known.sight (omega arith)).chronicle i) (log_is i)) in
      let ts = total_set tickets s.views id v w at in let cs = total_set weight s.views id v w at in (
        w,
        keeps,
        tt,
        record {
          c = c';
          words = record {
            wide = length-set s.words 3 _ ∙ r.words.wide;
            ticket = get_or-set_other s.words 3 0 _ 0 (λ e. omega arith) ∙ r.words.ticket;
            serving = get_or-set_other s.words 3 1 _ 0 (λ e. omega arith) ∙ r.words.serving;
            count = get_or-set_other s.words 3 2 _ 0 (λ e. omega arith) ∙ r.words.count;
            floor = get_or-set_same s.words 3 _ 0 (omega arith) ∙ (omega arith);
          };
          top_is = now;
          top_seen = (id, w, set_here s.views id w (in_range s.views id v at), let low = known.low in omega arith);
          told = prefix_same c.log;
          near = omega arith;
          out = omega arith;
          weights = omega arith;
          few = r.few;
          each_view = each_after (Knows k.floor_of seats start c') s.views id w
              record {
                sight = λ z. let begins : IsPrefix v.sight.seen c.log = (known.sight z).seen in record { chronicle = (known.sight z).chronicle; seen = begins; told = begins; floor_is = is ∙ (λ i. k.floor_of ((known.sight z).chronicle i) v.sight.seen); below = omega arith };
                other = λ z. still v.other (known.other z);
                owned = owns_moved seats c c' id id v.owned (λ p _ e. (e, refl)) known.owned;
                ticket = known.ticket;
                turn = known.turn;
                holds = λ z. λ i. whole_sight ((all i).chronicle) (log_is i) n;
                parts = known.parts;
                low = let low = known.low in omega arith;
              }
              (λ j u other e. let ku = r.each_view j u e in record {
                sight = λ z. still u.sight (ku.sight z);
                other = λ z. still u.other (ku.other z);
                owned = owns_moved seats c c' j j u.owned (λ p _ q. (q, refl)) ku.owned;
                ticket = ku.ticket;
                turn = ku.turn;
                holds = λ z. absurd (other (one_called seats start c j id u v ku known (omega arith) (omega arith)));
                parts = ku.parts;
                low = let low = ku.low in omega arith;
              });
          each_number = λ p l. number_after s.views c.owner id v w at (λ q h. h) p (r.each_number p l);
          each_ticket = λ t low high. ticket_after s.views c.line id v w at (λ z. (z, refl)) t (r.each_ticket t low high);
          workers = r.workers;
          place = out_with k seats start s r id v w c' at st st;
        },
        refl,
      )
