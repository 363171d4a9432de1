use Rattle.std.proofs.Common.{rules, ◌≡◌, ◌<◌, ap, refl, sym, ◌∙◌, subst}
use mathlib.Core.Option.{none}
use Rattle.atomic_table.specs.Table.{step}
use Rattle.atomic_table.specs.Seated.{TableId}
use Rattle.stripe_lock.specs.declared.view.View.{View}
use Rattle.stripe_lock.specs.Rule.{weight}
use Rattle.stripe_lock.specs.Passes.{pass_of, view_of}
use Rattle.stripe_lock.specs.Steps.{joined_view, settled}
use Rattle.stripe_lock.specs.Turns.{Joins}
use Rattle.stripe_lock.proofs.Histories.{some_more}
use Rattle.stripe_lock.proofs.Looking.{settles}
use Rattle.stripe_lock.proofs.Passing.{joins}
use Rattle.stripe_lock.proofs.Turning.{joined, joined_rests}
use Rattle.stripe_lock.proofs.lock.Gate.merge.Goals as goal

pub join_seat-requires : goal.join_seat-requires
join_seat-requires g c = let mine = ap view_of c.into_seat-seat.ensures.2 in let theirs = ap view_of c.into_seat.ensures.2 in (
  search rules,
  search rules,
  search rules,
  search rules,
  joins g.T.KeptState _ _ _ _ _ _ (subst (λ (v : View _). 0 < weight v) mine c.requires.rests.some_weight) (subst (λ (v : View _). 0 < weight v) theirs c.requires.other.some_weight)
      (ap (λ (v : View _). v.stage) (sym mine) ∙ c.requires.rests.idle) (ap (λ (v : View _). v.stage) (sym theirs) ∙ c.requires.other.idle),
)

pub load-requires : goal.load-requires
load-requires g c = let mine = ap view_of c.into_seat-seat.ensures.2 in let joined_view = ap (λ m. m.0) c.join_seat.ensures.2 in (
  search rules,
  search rules,
  settles g.T.KeptState _ _ _ _ _ (ap (λ (v : View _). v.stage) joined_view ∙ (ap (λ (v : View _). v.stage) (sym mine) ∙ c.requires.rests.idle))
      (subst (λ (v : View _). 0 < weight v) (sym joined_view) (some_more _ _ (subst (λ (v : View _). 0 < weight v) mine c.requires.rests.some_weight))),
)

-- what was told of the two passes
told : (g : _) (c : goal.After-into_badge g) → settled g.T.KeptState (step c.args.self.now.table.shared.table_id.slots 3 0 0 none)
    (joined_view (view_of c.args.badge.views) (view_of c.args.other.views), c.into_seat-seat.result.me.1) c.load.result c.load.new.seat.me
told g c = let mine = ap view_of c.into_seat-seat.ensures.2 in let theirs = ap view_of c.into_seat.ensures.2 in
    subst (λ z. settled g.T.KeptState (step c.args.self.now.table.shared.table_id.slots 3 0 0 none) z c.load.result c.load.new.seat.me)
    (c.join_seat.ensures.2 ∙ (λ i. (joined_view (sym mine i) (sym theirs i), c.into_seat-seat.result.me.1))) c.load.ensures.2

-- what it is
both : (g : _) (c : goal.After-into_badge g) (l : TableId) → l ≡ c.args.badge.table_id
    → Joins g.T.KeptState (pass_of c.args.badge.table_id (view_of c.args.badge.views)) (pass_of c.args.other.table_id (view_of c.args.other.views)) (pass_of l c.load.new.seat.me.0)
both g c l same = joined g.T.KeptState c.args.self.now.table.shared.table_id.slots c.load.result (view_of c.args.badge.views) (view_of c.args.other.views) c.into_seat-seat.result.me.1 c.load.new.seat.me
    c.args.badge.table_id c.args.other.table_id l same c.requires.rests.known c.requires.other.known (told g c)

pub returns-clause-joins : goal.returns-clause-joins
returns-clause-joins g c = subst (λ (v : View _). Joins g.T.KeptState (pass_of c.args.badge.table_id (view_of c.args.badge.views)) (pass_of c.args.other.table_id (view_of c.args.other.views)) (pass_of c.into_badge.result.table_id v))
    (sym (ap view_of c.into_badge.ensures.2)) (both g c c.into_badge.result.table_id (search rules))

pub returns-clause-rests : goal.returns-clause-rests
returns-clause-rests g c = joined_rests g.T.KeptState c.args.self.now.table.shared.table_id.slots c.load.result (view_of c.args.badge.views) (view_of c.args.other.views) c.into_seat-seat.result.me.1 c.load.new.seat.me
    c.into_badge.result.views c.into_badge.ensures.2 c.requires.rests.idle c.requires.rests.some_weight (both g c c.args.badge.table_id refl).known (told g c)
