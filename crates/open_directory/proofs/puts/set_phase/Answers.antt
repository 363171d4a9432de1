use Rattle.std.proofs.Common.{sym, refl}
use Rattle.open_directory.specs.declared.kept.KeptPut.{KeptPut}
use Rattle.open_directory.specs.Directory.{with_phase}
use Rattle.open_directory.proofs.Entries.{written_as}
use Rattle.open_directory.proofs.puts.set_phase.Goals as goal

pub returns-in-Some-clause-phase : goal.returns-in-Some-clause-phase
returns-in-Some-clause-phase c =
    let v = c.in-Some.kept.now in
    let w : KeptPut = with_phase c.args.phase v in
    written_as (with_phase c.args.phase) c.args.put c.args.puts.now.entries (c.get_mut.follows.lender w).entries v w (sym c.in-Some.ensures.value) (c.get_mut.follows.holds w).0 refl
