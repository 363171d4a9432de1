use Rattle.std.proofs.Common.{rules, ◌≡◌, ◌+◌, ◌-◌, ◌∷◌, [], List, ℕ, ap, sym, ◌∙◌, subst, map, length}
use Rattle.stripe_lock.specs.History.{first_number}
use Rattle.stripe_lock.proofs.Histories.{prefix_same, prefix_more}
use Rattle.lock_trials.specs.Standing.{TurnStandsAt, TurnsStandFrom}
use Rattle.lock_trials.proofs.Standing.{stands, stand_later, stand-snoc, owned_more}
use Rattle.lock_trials.proofs.ticking.tick_all.Goals as goal

pub loop-job-preserved : goal.loop-job-preserved
loop-job-preserved g c = let n = first_number c.args.pass.owned in let i = c.loop-job.invariant in let old = c.loop-job.pass in let new = c.with.new.pass in let ns = c.loop-job.numbers.items in
    let t = c.in_ok-number.ensures.turned in let items = c.push_reserved.ensures.items in let number = c.in_ok-number.number in
    let here : TurnStandsAt new.seen n c.loop-job.job number = subst (λ (m : ℕ). TurnStandsAt new.seen m c.loop-job.job number) (ap first_number i.4) (stands _ _ _ old new _ number new.seen t (prefix_same new.seen)) in
    let length_is : c.loop-job.job ≡ 0 + length ns = search rules in
    let before = stand_later old.seen new.seen n 0 ns (prefix_more old.seen t.before new.seen t.later (t.turn.turn ∷ [], sym t.turn.added)) i.3 in (
      search rules,
      search rules,
      search rules,
      subst (TurnsStandFrom new.seen n 0) (sym items) (stand-snoc new.seen n 0 number ns before (subst (λ (j : ℕ). TurnStandsAt new.seen n j number) length_is here)),
      owned_more _ _ _ old new _ number n ns t i.4 ∙ ap (λ (l : List ℕ). record { number = n; places = map (λ m. m - 1) l } ∷ []) (sym items),
    )
