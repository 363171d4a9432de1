use Rattle.std.proofs.Common.{◌≡◌, ℕ, IfSome, Option, true, sym, subst, arith}
use Rattle.open_directory.specs.Directory.{is_kept_open, put_followed}
use Rattle.open_directory.proofs.Standing.{followed_opens}
use Rattle.open_directory.proofs.directory.OpenDirectory.follow.Goals as goal

pub returns-clause-open : goal.returns-clause-open
returns-clause-open c =
    let writers = c.self.inside.writers.items in
    let puts = c.self.inside.puts.entries in
    let opens = followed_opens c.args.key c.args.request.now writers puts c.self.invariant.held.writing in
    let same : put_followed c.args.key c.args.request.now writers ≡ c.last_match.result = grind arith in
    let P : Option ℕ → Type 0 = λ found. IfSome found (λ put. is_kept_open put puts ≡ true) in
    rw (sym c.self.view_is) (subst P same opens)
