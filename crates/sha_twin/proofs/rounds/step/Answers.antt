use Rattle.std.proofs.Common.{◌∙◌, ap, arith, List, slice_index, sym, ℕ}
use Rattle.sha2.proofs.Schedule256.{rounds_next}
use Rattle.sha2.specs.Sha256.{round, round_constants, schedule}
use Rattle.sha_twin.proofs.rounds.step.Goals as goal

pub returns : goal.returns
returns c = λ j b h low held is.
    let ws = schedule b 48 in
    let t = c.args.t in
    let k = slice_index round_constants t in
    let w = slice_index ws t in
    c.round.ensures j k w low (held t (omega arith)) ∙ ap (λ (v : List ℕ). round v k w) is ∙ sym (rounds_next h ws t)
