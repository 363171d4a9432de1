use Rattle.std.proofs.Common.{◌∙◌, ap, List, slice_index, sym, ℕ}
use Rattle.sha2.proofs.Schedule256.{rounds_next}
use Rattle.sha2.specs.Sha256.{round, round_constants, schedule}
use Rattle.sha_words.proofs.rounds.step.Goals as goal

pub returns : goal.returns
returns c = λ b h n low held is.
    let ws = schedule b 48 in
    let t = c.args.t in
    let k = slice_index round_constants t in
    let w = slice_index ws t in
    c.round.ensures k w (held t low) ∙ ap (λ (v : List ℕ). round v k w) is ∙ sym (rounds_next h ws t)
