use Rattle.std.proofs.Common.{◌≡◌, ◌∙◌, ◌+◌, ap, sym, arith, length, take}
use Rattle.std.specs.Prelude.{max}
use Rattle.alternate_vector.specs.Alternates.{stored_of}
use Rattle.cache_model.specs.Room.{greatest_pin}
use Rattle.stripe_answers.proofs.Pins.{pin_further, pin_whole}
use Rattle.stripe_vectors.proofs.spelling.greatest_pin.Goals as goal

pub alternates-preserved : goal.alternates-preserved
alternates-preserved c =
    let list = c.args.list.now in
    let a = stored_of c.get.result.now in
    let one : greatest_pin (take (c.alternates.i + 1) list) ≡ max (greatest_pin (take c.alternates.i list)) a.pin = pin_further c.alternates.i list a c.get.ensures in
    c.greater-pin.ensures ∙ (ap (λ n. max n a.pin) c.alternates.invariant ∙ sym one)

pub returns : goal.returns
returns c =
    let list = c.args.list.now in
    let all : c.alternates.i ≡ length list = omega (arith, c.alternates-test.false, c.alternates.auto.i-end, c.len-i-end.ensures.len) in
    c.alternates.invariant ∙ (ap (λ n. greatest_pin (take n list)) all ∙ pin_whole list)
