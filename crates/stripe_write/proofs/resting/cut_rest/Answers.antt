use Rattle.std.proofs.Common.{◌≡◌, ◌<◌, [], length, refl, sym, subst, arith}
use Rattle.std.proofs.lemmas.List.{nil_from_length}
use Rattle.stripe_core.specs.Stripe.{kept_in, state_in}
use Rattle.stripe_core.proofs.Continuing.{rests_same, rests_with}
use Rattle.stripe_write.specs.Writes.{IsReady, SameButBytes, SameWriter, next_start}
use Rattle.stripe_write.proofs.Gathering.{failed_leaves, left_writer, same_as}
use Rattle.stripe_write.proofs.LastCut.{cut_open, no_rest_rows, rest_cut, rest_none, rest_ready, rest_refused, cut_rest_rows}
use Rattle.stripe_write.proofs.ToldPieces.{rests_as}
use Rattle.stripe_write.proofs.resting.cut_rest.Goals as goal
use Rattle.cache_calls.specs.Actors.{IsWriterOf}
use Rattle.cache_calls.specs.Writers.{piece_cut_next}
use Rattle.stripe_write.specs.Writers.{written_as}

pub returns-then-is_empty : goal.returns-then-is_empty
returns-then-is_empty g c =
    let w = c.args.writer.now in
    let none : length w.gathered.items ≡ 0 = grind (arith, c.is_empty.ensures, c.if-is_empty.true) in
    let empty : w.gathered.items ≡ [] = nil_from_length w.gathered.items none in
    record {
      rests = rests_with _ _ _ (rests_same c.args.stripe.now c.requires.writing.resting);
      counts = tt;
      unit = omega arith;
      does = rest_none c.args.now (kept_in c.args.stripe.now) _ _ w tt none;
      some = tt;
      number = tt;
      writer = c.requires.writing.writer;
      is_open = c.requires.writing.is_open;
      rows = no_rest_rows w empty;
      empty = empty;
      rest = record { put = refl; key = refl; request = refl; response = refl; pin = refl; sealed = refl };
      same = tt;
    }

pub cut-requires-clause-ready : goal.cut-requires-clause-ready
cut-requires-clause-ready g c =
    let some : 0 < length c.args.writer.now.gathered.items = grind (arith, c.is_empty.ensures, c.if-is_empty.false) in
    rest_ready (state_in c.args.stripe.now) c.args.writer.now c.requires.writing.is_open c.requires.writing.writer c.requires.sealed some
    c.requires.memory.table

pub returns-in-Ok : goal.returns-in-Ok
returns-in-Ok g c =
    let w = c.args.writer.now in
    let some : 0 < length w.gathered.items = grind (arith, c.is_empty.ensures, c.if-is_empty.false) in
    let ready : IsReady (state_in c.args.stripe.now) w =
    rest_ready (state_in c.args.stripe.now) w c.requires.writing.is_open c.requires.writing.writer c.requires.sealed some
    c.requires.memory.table in
    record {
      rests = rests_as _ _ _ _ (λ contents tells told. told some) c.in-Ok.ensures.rests;
      counts = tt;
      unit = c.cut.ensures.unit;
      does = rest_cut c.args.now (kept_in c.args.stripe.now) (kept_in c.cut.new.stripe) _ _ w c.in-Ok.field-0 tt some c.in-Ok.ensures.does;
      some = tt;
      number = tt;
      writer = c.in-Ok.ensures.writer;
      is_open =
          cut_open c.args.now (kept_in c.args.stripe.now) (kept_in c.cut.new.stripe) _ _ w c.cut.new.writer c.in-Ok.field-0 ready
          c.in-Ok.ensures.does c.in-Ok.ensures.rest.put;
      rows = cut_rest_rows w c.cut.new.writer some c.in-Ok.ensures.rows;
      empty = c.in-Ok.ensures.empty;
      rest = c.in-Ok.ensures.rest;
      same = tt;
    }

pub returns-in-Err : goal.returns-in-Err
returns-in-Err g c =
    let w = c.args.writer.now in
    let some : 0 < length w.gathered.items = grind (arith, c.is_empty.ensures, c.if-is_empty.false) in
    record {
      rests = c.in-Err.ensures.rests;
      counts = c.in-Err.ensures.counts;
      unit = c.cut.ensures.unit;
      does =
          rest_refused g.R.Directory.purges c.args.now (kept_in c.args.stripe.now) (kept_in c.cut.new.stripe) _ _ w c.in-Err.refusal some
          (c.in-Err.ensures.memory c.requires.memory.units c.requires.memory.row) c.in-Err.ensures.does;
      some = some;
      number = c.in-Err.ensures.number;
      writer =
          subst (λ w. IsWriterOf (state_in c.cut.new.stripe) (written_as w)) (sym c.in-Err.ensures.same)
          (left_writer (state_in c.args.stripe.now) (state_in c.cut.new.stripe) w
          (failed_leaves g.R.Directory.purges c.args.now (kept_in c.args.stripe.now) (kept_in c.cut.new.stripe) _ _ (piece_cut_next (written_as w)) w.pin
          (next_start w) w.gathered.items c.in-Err.refusal c.in-Err.ensures.does) c.requires.writing.writer);
      is_open = tt;
      rows = tt;
      empty = tt;
      rest =
          subst (SameButBytes w) (sym c.in-Err.ensures.same)
          (record { put = refl; key = refl; request = refl; response = refl; pin = refl; sealed = refl });
      same = subst (SameWriter w) (sym c.in-Err.ensures.same) (same_as w);
    }
