use Rattle.std.proofs.Common.{◌≡◌, ◌<◌, sym, ap, subst, ◌∙◌, arith, length}
use Rattle.std.specs.List.{AllByRecursion}
use Rattle.std.proofs.lemmas.List.{length-map}
use Rattle.alternate_vector.specs.Alternates.{IsStored, all_stored, longest_within, merged, stored_of, with_new}
use Rattle.alternate_vector.proofs.Chosen.{each_merged, some_merged}
use Rattle.alternate_vector.proofs.vector.Vector.merge.Goals as goal
use Rattle.alternate_vector.proofs.vector.Vector.merge.Goals.{After-longest_within}

is_merged : (c : After-longest_within) → all_stored c.longest_within.result.items ≡ merged c.args.most c.args.bytes (all_stored c.self.inside.alternates.items) (stored_of c.args.new.now)
is_merged c =
    let all = c.in_ok-all.ensures.all ∙ ap (λ xs. with_new (all_stored xs) (stored_of c.args.new.now)) c.deref.ensures.value in
    c.longest_within.ensures.longest ∙ ap (longest_within c.args.most c.args.bytes) all

pub invariant_of-result : goal.invariant_of-result
invariant_of-result c =
    let before = all_stored c.self.inside.alternates.items in
    let new = stored_of c.args.new.now in
    let count : length (all_stored c.longest_within.result.items) ≡ length c.longest_within.result.items = simp length-map in
    record {
      few = omega (arith, count, c.longest_within.ensures.few);
      each = subst (AllByRecursion IsStored) (sym (is_merged c)) (each_merged c.args.most c.args.bytes before new c.self.invariant.each (c.in_ok-all.ensures.new c.requires.length));
    }

pub returns-clause-some : goal.returns-clause-some
returns-clause-some c =
    subst (λ v. 0 < length v) (sym (is_merged c)) (some_merged c.args.most c.args.bytes (all_stored c.self.inside.alternates.items) (stored_of c.args.new.now) c.requires.some c.requires.fits)
