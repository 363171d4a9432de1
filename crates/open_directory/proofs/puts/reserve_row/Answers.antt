use Rattle.std.proofs.Common.{◌≡◌, sym, arith}
use Rattle.open_directory.specs.declared.kept.KeptPut.{KeptPut}
use Rattle.open_directory.specs.Directory.{with_cuts}
use Rattle.open_directory.proofs.Entries.{room_written}
use Rattle.open_directory.proofs.puts.reserve_row.Goals as goal

pub returns-in_err-reserve-in-Some-clause-rest : goal.returns-in_err-reserve-in-Some-clause-rest
returns-in_err-reserve-in-Some-clause-rest c =
    let v = c.in-Some.kept.now in
    let w : KeptPut = record { phase = v.phase; cuts = c.reserve.new.self; followers = v.followers } in
    let same : w ≡ with_cuts v.cuts.rows w.cuts.room v = grind arith in
    room_written c.args.put c.args.puts.now.entries (c.get_mut.follows.lender w).entries v w (sym c.in-Some.ensures.value) (c.get_mut.follows.holds w).0 same

pub returns-in_ok-reserve-in-Some-clause-rest : goal.returns-in_ok-reserve-in-Some-clause-rest
returns-in_ok-reserve-in-Some-clause-rest c =
    let v = c.in-Some.kept.now in
    let w : KeptPut = record { phase = v.phase; cuts = c.reserve.new.self; followers = v.followers } in
    let same : w ≡ with_cuts v.cuts.rows w.cuts.room v = grind arith in
    room_written c.args.put c.args.puts.now.entries (c.get_mut.follows.lender w).entries v w (sym c.in-Some.ensures.value) (c.get_mut.follows.holds w).0 same
