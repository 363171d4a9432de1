use Rattle.std.proofs.Common.{◌∷◌, cond, map, filter, length, ap, sym, ◌∙◌, arith}
use Rattle.dir_table.specs.Links.{entries_of}
use Rattle.dir_table.specs.Window.{is_in_range}
use Rattle.dir_table.specs.Trail.{places_in, trail_of}
use Rattle.dir_table.proofs.walks.next_place.Goals as goal

pub returns-then-in_range-clause-steps : goal.returns-then-in_range-clause-steps
returns-then-in_range-clause-steps c =
    let longer = ap length c.in-Some.ensures.trail in
    let later = c.loop-row.invariant.later in
    let passed = c.loop-row.invariant.passed in
    let more = c.count.ensures.later in
    let one = c.count.ensures.one in
    let most = c.count.ensures.most in
    record {
      later = omega (arith, later, more);
      given = λ _. omega (arith, later, one);
      passed = omega (arith, longer, passed, most);
    }

pub loop-row-preserved : goal.loop-row-preserved
loop-row-preserved c =
    let w = c.args.window.now in
    let rest = trail_of c.pass.new.walk (entries_of c.args.links.now) in
    let out = sym c.in_range.ensures ∙ c.if-in_range.false in
    let longer = ap length c.in-Some.ensures.trail in
    let later = c.loop-row.invariant.later in
    let passed = c.loop-row.invariant.passed in
    let more = c.count.ensures.later in
    let most = c.count.ensures.most in
    record {
      on = c.in-Some.ensures.on;
      places = sym (ap (places_in w) c.in-Some.ensures.trail
          ∙ ap (λ b. map (λ r. r.place) (cond b (c.in-Some.row ∷ filter (λ r. is_in_range w r.place) rest) (filter (λ r. is_in_range w r.place) rest))) out)
          ∙ c.loop-row.invariant.places;
      later = omega (arith, later, more);
      passed = omega (arith, longer, passed, most);
    }
