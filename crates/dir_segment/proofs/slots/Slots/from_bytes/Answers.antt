use Rattle.std.proofs.Common.{◌≡◌, ◌/◌, List, ℕ, length, sym, ap, subst, ◌∙◌, arith, length-take}
use Rattle.std.specs.List.{All}
use Rattle.std.proofs.lemmas.List.Elements.{All-push}
use Rattle.dir_segment.specs.Image.{entries_in_bytes}
use Rattle.dir_segment.proofs.Bytes.{one_read}
use Rattle.dir_segment.proofs.slots.Slots.from_bytes.Goals as goal

pub loop-ten-preserved : goal.loop-ten-preserved
loop-ten-preserved c =
    let cases = c.in-Some.ensures.cases in
    let ten : length c.in-Some.ten.now ≡ 10 = ap (λ (q : List ℕ). length q) cases.0 ∙ omega (arith, length-take 10 c.loop-ten.rest.now, cases.2) in
    record {
      spelled = one_read c.loop-ten.packed.items c.in-Some.ten.now c.push.new.self.items c.loop-ten.rest.now c.in-Some.after.now (entries_in_bytes (length c.args.bytes.now / 10) c.args.bytes.now)
          c.in_ok-push.ensures.items cases.0 cases.1 cases.2 c.loop-ten.invariant.spelled;
      tens = subst (λ (q : List (List ℕ)). All (λ bytes. length bytes ≡ 10) q) (sym c.in_ok-push.ensures.items) (All-push (λ bytes. length bytes ≡ 10) c.loop-ten.packed.items c.in-Some.ten.now c.loop-ten.invariant.tens ten);
    }
