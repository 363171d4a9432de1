use Rattle.std.proofs.Common.{◌≡◌, ap, ◌∙◌, refl}
use Rattle.std.specs.Ordering.{nat_cmp, is_eq}
use Rattle.std.proofs.lemmas.Iterator.Consumers.{YieldsList-from_first}
use Rattle.std.proofs.lemmas.Iterator.Search.{cmp_from_yields_List}
use Rattle.std.proofs.lemmas.Map.Text.{is_eq-slice_cmp}
use Rattle.alternate_vector.specs.Joined.{joined_rest, joined_text}
use Rattle.alternate_vector.proofs.matching.same_text.Goals as goal

pub returns : goal.returns
returns c =
    let a = joined_text c.args.first.now c.args.lines.now in
    let b = joined_text c.args.other.now c.args.others.now in
    let order = cmp_from_yields_List {xs = a} {ys = b} (λ x y. y ≡ x) _ nat_cmp _ c.cmp.ensures.ran
    (YieldsList-from_first (λ x. x) (λ s. joined_rest s.blank s.value.now s.lines.now) a c.new-text.ensures)
    (λ it e. YieldsList-from_first (λ x. x) (λ s. joined_rest s.blank s.value.now s.lines.now) b (ap (λ s. joined_rest s.blank s.value.now s.lines.now) e ∙ c.new.ensures)) (λ x y. refl) in
    c.is_eq.ensures ∙ ap is_eq order ∙ is_eq-slice_cmp a b
