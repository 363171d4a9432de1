use Rattle.std.proofs.Common.{rules, ap, sym, subst, List, ◌∷◌, [], arith, ◌≡◌}
use Rattle.std.proofs.lemmas.Grind.{common_steps}
use Rattle.atomic_table.specs.Table.{opening}
use Rattle.stripe_lock.specs.Steps.{opener}
use Rattle.stripe_lock.proofs.Bounds.{opens}
use Rattle.stripe_lock.proofs.Keeping.{Rule}
use Rattle.stripe_lock.proofs.lock.Gate.new.Goals as goal

pub new-requires : goal.new-requires
new-requires g c = let items : c.push.new.self.items ≡ c.args.state ∷ [] = grind (arith, common_steps) in let first : c.of.result.value ≡ c.args.state = search rules in
    let k = g.T.KeptState in let start = k.chronicle c.of.result.value in
    subst (λ (l : List g.row.T.Denot). Rule k c.args.seats start (opening (0 ∷ 0 ∷ 0 ∷ c.floor.result ∷ []) l (opener c.args.seats start (k.floor_of start [])))) (sym items)
    (opens k c.args.seats start c.args.state c.floor.result (ap k.chronicle (sym first)) c.requires.blank c.requires.sound c.floor.ensures c.requires.seats)
