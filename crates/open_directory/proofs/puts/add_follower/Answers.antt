use Rattle.std.proofs.Common.{◌+◌, sym, refl}
use Rattle.open_directory.specs.declared.kept.KeptPut.{KeptPut}
use Rattle.open_directory.specs.Directory.{with_followers}
use Rattle.open_directory.proofs.Entries.{written_as}
use Rattle.open_directory.proofs.puts.add_follower.Goals as goal

pub returns-in-Some-clause-more : goal.returns-in-Some-clause-more
returns-in-Some-clause-more c =
    let v = c.in-Some.kept.now in
    let w : KeptPut = with_followers (v.followers + 1) v in
    written_as (λ kept. with_followers (kept.followers + 1) kept) c.args.put c.args.puts.now.entries (c.get_mut.follows.lender w).entries v w (sym c.in-Some.ensures.value) (c.get_mut.follows.holds w).0 refl
