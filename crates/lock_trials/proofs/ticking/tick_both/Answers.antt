use Rattle.std.proofs.Common.{rules, ◌≡◌, ◌+◌, ◌-◌, ◌∷◌, [], map, length, vec_len, arith}
use Rattle.std.proofs.lemmas.List.{length-map}
use Rattle.stripe_lock.specs.History.{HasJust, AreUnder}
use Rattle.stripe_lock.proofs.Histories.{prefix_more}
use Rattle.lock_trials.specs.Rows.{turn_of, turns_of}
use Rattle.lock_trials.specs.Standing.{TurnsStandFrom}
use Rattle.lock_trials.proofs.Standing.{stand_later, counts_both}
use Rattle.lock_trials.proofs.ticking.tick_both.Goals as goal

pub returns-in-Ok-close-clause-first : goal.returns-in-Ok-close-clause-first
returns-in-Ok-close-clause-first g c = let stand : TurnsStandFrom c.in-Ok-Ok.one.pass.seen 0 0 c.in-Ok-Ok.one.numbers.items = search rules in
    stand_later _ _ 0 0 c.in-Ok-Ok.one.numbers.items (prefix_more _ _ _ c.join.ensures.seen.0 c.in-Ok-close.ensures.ends.seen) stand

pub returns-in-Ok-close-clause-second : goal.returns-in-Ok-close-clause-second
returns-in-Ok-close-clause-second g c = let stand : TurnsStandFrom c.in-Ok-Ok.two.pass.seen 1 0 c.in-Ok-Ok.two.numbers.items = search rules in
    stand_later _ _ 1 0 c.in-Ok-Ok.two.numbers.items (prefix_more _ _ _ c.join.ensures.seen.1 c.in-Ok-close.ensures.ends.seen) stand

pub returns-in-Ok-close-clause-no_others : goal.returns-in-Ok-close-clause-no_others
returns-in-Ok-close-clause-no_others g c = let ns = c.in-Ok-Ok.one.numbers.items in let ms = c.in-Ok-Ok.two.numbers.items in let rows = c.in-Ok-close.tally.rows.items in
    let known : HasJust (turns_of rows) (record { number = 0; places = map (λ n. n - 1) ns } ∷ record { number = 1; places = map (λ n. n - 1) ms } ∷ []) = search rules in
    let under : AreUnder (record { number = 0; places = map (λ n. n - 1) ns } ∷ record { number = 1; places = map (λ n. n - 1) ms } ∷ []) (turns_of rows) = search rules in
    let all : length (turns_of rows) ≡ length ns + length ms = counts_both 0 1 ns ms (turns_of rows) (λ e. omega arith) known under in
    let one : length ns ≡ c.args.ticks = search rules in let two : length ms ≡ c.args.ticks = search rules in let as_many : vec_len c.in-Ok-close.tally.rows ≡ length rows = search rules in omega (arith, length-map rows turn_of)
