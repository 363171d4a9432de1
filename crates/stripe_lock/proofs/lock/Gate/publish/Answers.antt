use Rattle.std.proofs.Common.{rules, ap, ◌∙◌, ◌≤◌, sym, subst}
use Rattle.stripe_lock.specs.declared.view.View.{View}
use Rattle.stripe_lock.proofs.Publishing.{notes, raises}
use Rattle.stripe_lock.proofs.lock.Gate.publish.Goals as goal

pub store-requires : goal.store-requires
store-requires g c = let h = c.requires.turn in (search rules, search rules, notes g.T.KeptState _ _ _ _ _ _ h.x h.turn h.stage h.carried h.told h.added h.own h.counted)

pub fetch_max-requires : goal.fetch_max-requires
fetch_max-requires g c = let h = c.requires.turn in let noted_turn = c.store.ensures.2.2 h.x h.carried in (
  search rules,
  search rules,
  raises g.T.KeptState _ _ _ _ _ _ (ap (λ v. v.stage) noted_turn ∙ h.stage) (subst (λ (v : View _). v.sight.floor ≤ c.args.floor) (sym noted_turn) h.higher)
      (h.floor_is ∙ (λ i. g.T.KeptState.floor_of (sym noted_turn i).sight.chronicle (sym noted_turn i).sight.seen)),
)
