use Rattle.std.proofs.Common.{◌≡◌, ◌*◌, ◌∙◌, ap, arith, refl}
use Rattle.sha2.specs.Sha256.{add_state, compress, rounds, schedule}
use Rattle.sha_twin.specs.Lanes.{state_of_lane}
use Rattle.sha_twin.proofs.rounds.compress_both.Goals as goal

pub turns-init : goal.turns-init
unfolding rounds
turns-init c = λ j low. refl

pub turns-preserved : goal.turns-preserved
turns-preserved c = λ j low.
    let b = c.args.block.now in
    let h = state_of_lane j c.args.states.now in
    c.four_steps-v.ensures j b h low c.keyed_words-keyed.ensures (c.turns.invariant j low) ∙ ap (rounds h (schedule b 48)) (omega arith)

pub returns : goal.returns
unfolding compress
returns c = λ j low.
    let h = state_of_lane j c.args.states.now in
    let done : 4 * c.turns.turn ≡ 64 = omega arith in
    rw (
      c.add-s0.ensures j low,
      c.add-s1.ensures j low,
      c.add-s2.ensures j low,
      c.add-s3.ensures j low,
      c.add-s4.ensures j low,
      c.add-s5.ensures j low,
      c.add-s6.ensures j low,
      c.add-s7.ensures j low,
    )
    (ap (add_state h) (rw done at (c.turns.invariant j low)))
