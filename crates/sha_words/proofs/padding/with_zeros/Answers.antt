use Rattle.std.proofs.Common.{◌≡◌, ◌++◌, ◌-◌, List, ℕ, ap, arith, length}
use Rattle.std.proofs.lemmas.List.{drop-replicate}
use Rattle.sha_words.proofs.padding.with_zeros.Goals as goal

pub returns : goal.returns
returns c =
    let n : ℕ = length c.args.bytes.now in
    let zero : ℕ = 0 in
    let all : n - 0 ≡ n = omega arith in
    rw (c.zeros-out.ensures, c.copy_from_slice.ensures.after, all)
    (ap (λ (x : List ℕ). c.args.bytes.now ++ x) (drop-replicate n 128 zero))
