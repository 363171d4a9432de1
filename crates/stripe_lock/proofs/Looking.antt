-- The steps of a pass outside the line, which only look, keep the rule.
use Rattle.std.proofs.Common.{◌≡◌, ℕ, ◌<◌, List, get_or, set, sym, refl, ◌∙◌, arith}
use mathlib.Core.Option.{none}
use Rattle.atomic_table.specs.Table.{Me, step, keeps, Allows}
use Rattle.stripe_lock.specs.declared.kept.KeptState.{Ghosts}
use Rattle.stripe_lock.specs.declared.view.View.{View}
use Rattle.stripe_lock.specs.History.{longer}
use Rattle.stripe_lock.specs.Rule.{outside, weight}
use Rattle.stripe_lock.specs.Steps.{with_look, with_sight, saw, lowered, settled}
use Rattle.stripe_lock.proofs.Histories.{prefix_same, prefix_more, but_last, longer_begins, both_begin, owns_just}
use Rattle.stripe_lock.proofs.Keeping.{Rule, same_word, learns}

module _ {T R : Type 0} (k : Ghosts T R) (seats : ℕ) (start : List R) where
  pub sees : (slots id : ℕ) (me : Me T (View R)) → me.0.stage ≡ outside → 0 < weight me.0 → Allows (Rule k seats start) slots id me 2 (λ n. n) (saw (step slots 2 0 0 none) me)
  sees slots id me idle some_weight s r deep at _ = let v = me.0 in let w : View R = with_look 2 (get_or s.words 2 0) (with_sight (record v.sight { seen = r.c.log }) v) in let known = r.each_view id v at in let g = known.sight some_weight in let low = g.below in let high = known.low in (
    w,
    keeps,
    tt,
    same_word k seats start s 2 s.homes (set s.views id w) (learns k seats start s r id v w at idle idle refl refl (omega arith) (omega arith)
        (λ _. record { chronicle = g.chronicle; seen = prefix_same r.c.log; told = g.told; floor_is = g.floor_is; below = g.below })),
    (r.c.log, refl, r.words.count, g.seen, prefix_more v.sight.told r.c.told r.c.log g.told r.told, owns_just seats r.c id v.owned known.owned),
  )

  pub lowers : (slots id : ℕ) (me : Me T (View R)) → me.0.stage ≡ outside → 0 < weight me.0 → Allows (Rule k seats start) slots id me 3 (λ n. n) (lowered k (step slots 3 0 0 none) me)
  lowers slots id me idle some_weight s r deep at _ = let v = me.0 in let n = get_or s.words 3 0 in let w : View R = with_look 3 n (with_sight (record v.sight { told = r.c.told; floor = n }) v) in
      let known = r.each_view id v at in let g = known.sight some_weight in let found : n ≡ r.c.top = r.words.floor in let low = g.below in let high = known.low in (
        w,
        keeps,
        tt,
        same_word k seats start s 3 s.homes (set s.views id w) (learns k seats start s r id v w at idle idle refl refl (omega arith) (omega arith)
            (λ _. record { chronicle = g.chronicle; seen = g.seen; told = prefix_same r.c.told; floor_is = found ∙ r.top_is; below = omega arith })),
        (r.c.told, refl, found ∙ (r.top_is ∙ (λ i. k.floor_of (sym g.chronicle i) r.c.told)), g.told, but_last v.sight.seen r.c.log r.c.told g.seen r.told r.near, omega arith),
      )

  -- behind a join
  pub settles : (slots id : ℕ) (me : Me T (View R)) → me.0.stage ≡ outside → 0 < weight me.0 → Allows (Rule k seats start) slots id me 3 (λ n. n) (settled k (step slots 3 0 0 none) me)
  settles slots id me idle some_weight s r deep at _ = let v = me.0 in let n = get_or s.words 3 0 in let both = longer v.sight.seen v.other.seen in let w : View R = with_look 3 n (with_sight (record { chronicle = v.sight.chronicle; seen = both; told = r.c.told; floor = n }) v) in
      let known = r.each_view id v at in let g = known.sight some_weight in let h = known.other some_weight in let found : n ≡ r.c.top = r.words.floor in let low = g.below in let low' = h.below in let high = known.low in
      let begin = both_begin r.c.log v.sight.seen v.other.seen g.seen h.seen in (
        w,
        keeps,
        tt,
        same_word k seats start s 3 s.homes (set s.views id w) (learns k seats start s r id v w at idle idle refl refl (omega arith) (omega arith)
            (λ _. record { chronicle = g.chronicle; seen = longer_begins r.c.log v.sight.seen v.other.seen g.seen h.seen; told = prefix_same r.c.told; floor_is = found ∙ r.top_is; below = omega arith })),
        (
          r.c.told,
          refl,
          found ∙ (r.top_is ∙ (λ i. k.floor_of (sym g.chronicle i) r.c.told)),
          h.chronicle ∙ sym g.chronicle,
          begin.0,
          begin.1,
          g.told,
          h.told,
          omega arith,
          omega arith,
          (r.c.log, longer_begins r.c.log v.sight.seen v.other.seen g.seen h.seen, owns_just seats r.c id v.owned known.owned),
        ),
      )
