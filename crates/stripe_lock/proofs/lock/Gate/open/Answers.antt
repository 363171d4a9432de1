use Rattle.std.proofs.Common.{rules, ◌≡◌, ◌<◌, ◌%◌, ap, sym, ◌∙◌, subst}
use Rattle.std.specs.Mem.Slots.{slots_items}
use mathlib.Core.Option.{some, some-injective}
use lib.ListN.{get_elem?}
use Rattle.stripe_lock.specs.declared.view.View.{View}
use Rattle.stripe_lock.specs.Rule.{weight}
use Rattle.stripe_lock.specs.Passes.{view_of, pass_of}
use Rattle.stripe_lock.specs.Turns.{LockEnds}
use Rattle.stripe_lock.proofs.Bounds.{closes}
use Rattle.stripe_lock.proofs.lock.Gate.open.Goals as goal

-- what came out of the slot
out : (g : _) (c : goal.After-free g) → (x : g.row.T.Denot) × (get_elem? (slots_items c.close_with-closed.result.slots) 0 ≡ some x)
    × LockEnds g.T.KeptState (pass_of c.args.badge.table_id c.into_seat.result.me.0) x × (weight c.into_seat.result.me.0 ≡ c.args.self.table.shared.key.seats)
out g c = let is = ap view_of c.into_seat.ensures.2 in
    closes g.T.KeptState c.args.self.table.shared.key.seats _ _ _ _ _ c.args.badge.table_id (ap (λ (v : View _). weight v % 4294967296) (sym is) ∙ (c.requires.all ∙ (search rules)))
    (subst (λ (v : View _). 0 < weight v) is c.requires.rests.some_weight) (ap (λ (v : View _). v.stage) (sym is) ∙ c.requires.rests.idle) c.close_with-closed.ensures.values.2

pub returns-clause-ends : goal.returns-clause-ends
returns-clause-ends g c = let f = out g c in let is = ap view_of c.into_seat.ensures.2 in let same : f.0 ≡ c.take-state.result = some-injective _ _ (sym f.1 ∙ c.take-state.ensures.value) in
    subst (λ (z : View _ × g.row.T.Denot). LockEnds g.T.KeptState (pass_of c.args.badge.table_id z.0) z.1) (λ i. (sym is i, same i)) f.2

pub returns-clause-weight : goal.returns-clause-weight
returns-clause-weight g c = ap weight (ap view_of c.into_seat.ensures.2) ∙ ((out g c).3 ∙ (search rules))
