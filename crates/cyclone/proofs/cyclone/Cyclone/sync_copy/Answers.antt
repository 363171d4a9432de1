use Rattle.std.proofs.Common.{◌≡◌, ◌+◌, ◌*◌, ◌∙◌, ap, arith}
use Rattle.tape_base.specs.Place.{device_blocks_of}
use Rattle.stripe_header.specs.Layout.{device_blocks}
use Rattle.cyclone.proofs.cyclone.Cyclone.sync_copy.Goals as goal

pub whole-requires-clause-within : goal.whole-requires-clause-within
whole-requires-clause-within g c =
    let a = c.args.copies.now.area in
    let same : device_blocks a ≡ device_blocks_of c.args.self.now.geometry =
    ap (λ n. 7 + 2 * n + a.geometry.content) c.requires.may.directory
    ∙ ap device_blocks_of c.requires.may.geometry in
    omega (arith, same, c.requires.turns.sized)
