use Rattle.std.proofs.Common.{◌≡◌, ℕ, arith, refl}
use Rattle.sha2.specs.Sha256.{add32, temp1}
use Rattle.sha_twin.specs.Lanes.{state_of_lane, word_in}
use Rattle.sha_twin.proofs.rounds.round.Goals as goal

keyed_last : (a k w keyed : ℕ) → keyed ≡ add32 w k → add32 a keyed ≡ add32 (add32 a k) w
keyed_last a k w keyed e = omega arith

pub returns : goal.returns
returns c = λ j k w low e.
    let first : word_in c.add-temp1.result j ≡ temp1 (state_of_lane j c.args.v) k w =
    rw (
      c.add-temp1.ensures j low,
      c.add-with_chosen.ensures j low,
      c.add-with_s1.ensures j low,
      c.big_sigma1-s1.ensures j low,
      c.ch-chosen.ensures j low,
      c.both-word.ensures j low,
    ) (keyed_last _ k w c.args.keyed e) in
    rw (
      c.add-new_a.ensures j low,
      c.add-new_e.ensures j low,
      c.add-temp2.ensures j low,
      c.big_sigma0-s0.ensures j low,
      c.maj-most.ensures j low,
      first,
    ) refl
