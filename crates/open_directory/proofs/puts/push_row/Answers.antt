use Rattle.std.proofs.Common.{◌≡◌, ◌++◌, [], ◌∷◌, sym, arith}
use Rattle.fragment_table.specs.Table.{made_row}
use Rattle.open_directory.specs.declared.kept.KeptPut.{KeptPut}
use Rattle.open_directory.specs.Directory.{with_cuts}
use Rattle.open_directory.proofs.Entries.{cut_written, room_written}
use Rattle.open_directory.proofs.puts.push_row.Goals as goal

pub returns-in_err-push-in-Some-clause-err : goal.returns-in_err-push-in-Some-clause-err
returns-in_err-push-in-Some-clause-err c =
    let v = c.in-Some.kept.now in
    let w : KeptPut = record { phase = v.phase; cuts = c.push.new.self; followers = v.followers } in
    let same : w ≡ with_cuts v.cuts.rows w.cuts.room v = grind arith in
    let all = room_written c.args.put c.args.puts.now.entries (c.get_mut.follows.lender w).entries v w (sym c.in-Some.ensures.value) (c.get_mut.follows.holds w).0 same in
    grind arith

pub returns-in_ok-push-in-Some-clause-ok : goal.returns-in_ok-push-in-Some-clause-ok
returns-in_ok-push-in-Some-clause-ok c =
    let v = c.in-Some.kept.now in
    let w : KeptPut = record { phase = v.phase; cuts = c.push.new.self; followers = v.followers } in
    let same : w ≡ with_cuts (v.cuts.rows ++ made_row c.args.length c.args.digest.0 ∷ []) w.cuts.room v = grind arith in
    cut_written c.args.put (made_row c.args.length c.args.digest.0) c.args.puts.now.entries (c.get_mut.follows.lender w).entries v w (sym c.in-Some.ensures.value) (c.get_mut.follows.holds w).0 same
