use Rattle.std.proofs.Common.{◌≡◌, ◌≤◌, ◌<◌, ◌++◌, ◌∙◌, ap, sym, subst, arith, length}
use Rattle.tape_base.specs.Geometry.{budget_of}
use Rattle.alternate_vector.specs.Alternates.{merged, stored_of, vector_size, with_new}
use Rattle.alternate_vector.specs.Spelling.{IsSpelling, vector_bytes}
use Rattle.cache_model.specs.State.{most_payload}
use Rattle.cache_model.specs.Room.{greatest_pin}
use Rattle.cache_model.proofs.Merged.{blocks_fit}
use Rattle.stripe_vectors.specs.Spelled.{listed_with}
use Rattle.stripe_answers.proofs.Pins.{size_longest}
use Rattle.stripe_vectors.proofs.spelling.spell.Goals as goal

pub returns : goal.returns
returns c =
    let g = c.args.g.now in
    let new = stored_of c.args.new.now in
    let list = listed_with g c.args.list.now new in
    let same : c.in_ok-merged.merged ≡ list = c.in_ok-merged.ensures.merged ∙ ap (λ n. merged g.alternates n c.args.list.now new) (omega arith) in
    let encoded : c.encode.new.into.items ≡ vector_bytes c.in_ok-merged.merged =
    c.in_ok-encode.ensures.ok ∙ ap (λ xs. xs ++ vector_bytes c.in_ok-merged.merged) c.in_ok-bytes.ensures.items in
    let size : length c.encode.new.into.items ≡ vector_size list = ap length encoded ∙ (sym c.size.ensures.spelling ∙ (c.size.ensures.size ∙ ap vector_size same)) in
    let some : 0 < length list = subst (λ xs. 0 < length xs) same c.in_ok-merged.ensures.some in
    let within : vector_size list ≤ most_payload g = size_longest g.alternates (most_payload g) (with_new c.args.list.now new) some in
    let budget : 0 < budget_of g = omega (arith, c.requires.fits) in
    record {
      bytes = encoded ∙ ap vector_bytes same;
      size = size;
      pin = c.greatest_pin.ensures ∙ ap greatest_pin same;
      small = blocks_fit (length c.encode.new.into.items) (budget_of g) budget (omega (arith, size, within));
      lists = same;
      again = subst (λ xs. IsSpelling (vector_bytes xs) xs) same c.in_ok-encode.ensures.spelling;
    }
