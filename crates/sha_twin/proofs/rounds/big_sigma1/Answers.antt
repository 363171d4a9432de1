use Rattle.std.proofs.Common.{◌<◌, ◌^◌, arith, refl}
use Rattle.sha_twin.specs.Lanes.{word_in}
use Rattle.sha_twin.proofs.rounds.big_sigma1.Goals as goal

pub returns : goal.returns
returns c = λ j low.
    let n = word_in c.args.x j in
    let fits : n < 2 ^ 32 = omega arith in
    let twice = c.doubled-twice.ensures j low in
    rw (
      c.xor-2.ensures j low,
      c.xor.ensures j low,
      c.turned-r6.ensures j n low fits twice,
      c.turned-r11.ensures j n low fits twice,
      c.turned-r25.ensures j n low fits twice,
    ) refl
