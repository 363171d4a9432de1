use Rattle.std.proofs.Common.{rules, ◌≡◌, refl, length, ◌+◌, ◌++◌, ◌∷◌, [], None, Some, nat_eq}
use Rattle.std.specs.Map.{lookup}
use lib.Pointwise.{pointwise}
use Rattle.actor_table.proofs.Numbers.{distinct_entered, index_entered}
use Rattle.actor_table.specs.Index.{known_from, texts_of_names}
use Rattle.actor_table.proofs.table.Actors.add.Goals as goal

pub invariant_of-self-2 : goal.invariant_of-self-2
invariant_of-self-2 g c =
    let names = c.self.inside.names.items in
    let new : known_from 1 (texts_of_names names) c.args.name.now ≡ None = search rules in
    let key_is : c.in_ok-key.key.items ≡ c.args.name.now = c.in_ok-key.ensures.items_if_clones_equal (λ x y e. e) in
    let kept_is : c.in_ok-kept.kept.items ≡ c.args.name.now = c.in_ok-kept.ensures.items_if_clones_equal (λ x y e. e) in
    let more : c.push_reserved.new.self.items ≡ names ++ c.in_ok-kept.kept ∷ [] = search rules in
    let long : length c.push_reserved-2.new.self.items ≡ length c.push_reserved.new.self.items = search rules in
    let updates = c.in_ok-insert.ensures.updates in
    let entered : lookup (λ stored. pointwise nat_eq c.in_ok-key.key.items stored.items) c.insert.new.self.entries ≡ Some (length names + 1) = search rules in (
      index_entered names c.push_reserved.new.self.items c.in_ok-key.key c.in_ok-kept.kept c.args.name.now (length names + 1) c.self.inside.numbers.entries c.insert.new.self.entries
          c.self.invariant.0 new key_is kept_is more refl entered updates.3,
      long,
      distinct_entered names c.push_reserved.new.self.items c.in_ok-kept.kept c.args.name.now c.self.invariant.2 new kept_is more,
    )
