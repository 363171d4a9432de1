use Rattle.std.proofs.Common.{rules, ◌≡◌, ◌+◌, ◌-◌, ◌≤◌, suc, ℕ, ap, ◌∙◌, ◌∷◌, [], arith}
use Rattle.stripe_lock.specs.declared.view.View.{View}
use Rattle.stripe_lock.specs.Steps.{left_view, right_view}
use Rattle.stripe_lock.specs.Passes.{dealt}
use Rattle.stripe_lock.proofs.Passing.{splits}
use Rattle.stripe_lock.proofs.Dealing.{dealer, dealt_more, is_fresh, left_view-dealer}
use Rattle.stripe_lock.proofs.lock.Gate.deal.Goals as goal

pub split_seat-next-requires : goal.split_seat-next-requires
split_seat-next-requires g c = let n = c.loop-number.invariant.1 in let me = n.2 in
    (search rules, search rules, splits g.T.KeptState _ _ _ _ c.loop-number.number n.0 (ap (λ m. m.0.stage) me) (ap (λ m. m.0.owned) me))

pub loop-number-preserved : goal.loop-number-preserved
loop-number-preserved g c = let first = c.args.seat.me.0 in let lock = c.args.self.now.table.shared.table_id in let n = c.loop-number.invariant.1 in let me = n.2 in
    let k = c.loop-number.number in let sum : k + suc n.0 ≡ c.args.self.now.seats = n.1 in let test = c.loop-number-test.true in let low : 1 ≤ n.0 = omega arith in let more : n.0 ≡ suc (n.0 - 1) = omega arith in
    let split = c.split_seat-next.ensures in (
      search rules,
      (n.0 - 1, omega arith, split.2 ∙ (ap (λ m. (left_view m.0, m.1)) me ∙ (ap (λ (v : View _). (v, [])) (left_view-dealer first.sight.chronicle first.sight.floor k n.0) ∙ ap (λ (m : ℕ). (dealer first.sight.chronicle first.sight.floor (k + 1) m, [])) more))),
      dealt_more lock first.sight.chronicle first.sight.floor k _ _ _ c.loop-number.invariant.2 c.push_reserved.ensures.items
          (is_fresh lock c.into_badge.result.table_id first.sight.chronicle first.sight.floor k c.into_badge.result.views (search rules)
          (c.into_badge.ensures.2 ∙ (ap (λ m. m.0 ∷ []) split.4 ∙ ap (λ m. right_view m.0 ∷ []) me))),
      search rules,
      search rules,
    )

pub returns : goal.returns
returns g c = let first = c.args.seat.me.0 in let lock = c.args.self.now.table.shared.table_id in let n = c.loop-number.invariant.1 in let me = n.2 in
    let k = c.loop-number.number in let sum : k + suc n.0 ≡ c.args.self.now.seats = n.1 in let test = c.loop-number-test.false in let end = c.loop-number.auto.number-end in
    let none : n.0 ≡ 0 = omega arith in let last : c.args.self.now.seats - 1 ≡ k = omega arith in let all : k + 1 ≡ c.args.self.now.seats = omega arith in
    dealt_more lock first.sight.chronicle first.sight.floor k _ _ _ c.loop-number.invariant.2 c.push_reserved-2.ensures.items
    (is_fresh lock c.into_badge-2.result.table_id first.sight.chronicle first.sight.floor k c.into_badge-2.result.views (search rules)
    (c.into_badge-2.ensures.2 ∙ (ap (λ m. m.0 ∷ []) me ∙ ap (λ (m : ℕ). dealer first.sight.chronicle first.sight.floor k (suc m) ∷ []) none)))
    ∙ ap (λ (m : ℕ). dealt lock first.sight.chronicle first.sight.floor 0 m) all
