use Rattle.std.proofs.Common.{◌<◌, Bool, Err, sym, subst, refl, inl, arith}
use Rattle.stripe_core.specs.Stripe.{kept_in, seen_in, state_in}
use Rattle.stripe_write.specs.declared.writer.Writer.{Writer}
use Rattle.stripe_write.specs.Closes.{SealsInStripeWhere}
use Rattle.stripe_write.specs.Closing.{AreSpelled}
use Rattle.stripe_write.proofs.Faulted.{recorded_behind, weigh_recorded}
use Rattle.stripe_write.proofs.Owning.{then_owns}
use Rattle.stripe_write.proofs.LastSteps.{ended_leaves, ended_seals, ended_wants, ended_where, refused_closes, refused_leaves, refused_own, refused_seals, refused_where, weighed_closes}
use Rattle.stripe_write.proofs.WeighingReads.{still_writing}
use Rattle.stripe_core.proofs.Continuing.{rests_with}
use Rattle.stripe_write.proofs.ToldPieces.{rests_behind}
use Rattle.stripe_write.proofs.closing.close_open.Goals as goal
use Rattle.cache_calls.specs.Actors.{IsWriterOf}
use Rattle.cache_calls.specs.Standing.{IsToldClosed}
use Rattle.stripe_write.specs.Writers.{written_as}

pub end-requires-clause-writing : goal.end-requires-clause-writing
end-requires-clause-writing g c = record {
  resting = c.weigh.ensures.rests.resting;
  writer = c.weigh.ensures.writer;
  is_open =
      still_writing (state_in c.args.stripe.now) (state_in c.weigh.new.stripe) c.args.writer.now.put
      (record { puts = c.in-Ok.ensures.puts; geometry = c.in-Ok.ensures.geometry }) c.requires.writing.is_open;
}

pub end-requires-clause-vectors : goal.end-requires-clause-vectors
end-requires-clause-vectors g c = record {
  -- what was read is what the key has, where the device tells its content
  read = c.in-Ok.ensures.does.exact;
  spelled = subst (λ x. AreSpelled x c.args.writer.now c.in-Ok.vectors) (sym c.in-Ok.ensures.geometry) c.in-Ok.ensures.weighs;
}

pub end-requires-clause-memory : goal.end-requires-clause-memory
end-requires-clause-memory g c = record {
  units = omega (arith, c.requires.memory.units, c.in-Ok.ensures.unit);
  row = subst (λ n. 0 < n) (sym c.in-Ok.ensures.row) c.requires.memory.row;
  table = c.requires.memory.table;
}

pub returns-in-Ok : goal.returns-in-Ok
returns-in-Ok g c =
    let old = kept_in c.args.stripe.now in
    let mid = kept_in c.weigh.new.stripe in
    let new = kept_in c.end.new.stripe in
    let t = state_in c.end.new.stripe in
    let w = c.args.writer.now in
    let told = IsToldClosed t (written_as w) in
    record {
      rests = rests_behind told told _ _ _ (λ contents tells h. h) c.weigh.ensures.rests c.end.ensures.rests;
      closes = ended_where (state_in c.args.stripe.now) t w c.end.result c.requires.writing.is_open c.end.ensures.ends;
      does =
          weighed_closes c.args.now old mid new
          (seen_in c.args.stripe.now).device (seen_in c.weigh.new.stripe).device (seen_in c.end.new.stripe).device
          w c.in-Ok.vectors c.end.result c.weigh.ensures.rests.between.goes c.end.ensures.rests.between.goes c.in-Ok.ensures.does
          c.in-Ok.ensures.displaced c.end.ensures.ends c.end.ensures.does;
      writer = c.end.ensures.writer;
      seals = ended_seals t w c.end.new.writer c.end.result c.end.ensures.ends c.end.ensures.sealed;
      rested = c.end.ensures.rested;
      untouched = ended_leaves t w _ _ c.end.result c.end.ensures.ends;
      counts = c.end.ensures.counts;
      wanting = ended_wants t w c.end.result _ c.end.ensures.ends;
      own = then_owns w.put old mid new c.weigh.ensures.own c.end.ensures.own;
      recorded = recorded_behind old mid new c.end.result c.weigh.ensures.own c.end.ensures.recorded;
    }

abbrev used : Writer → Bool → Writer
used w sealed = record { put = w.put; key = w.key; request = w.request; response = w.response; pin = w.pin; gathered = w.gathered; table = w.table; sealed = sealed }

pub returns-in-Err : goal.returns-in-Err
returns-in-Err g c =
    let s = state_in c.args.stripe.now in
    let t = state_in c.weigh.new.stripe in
    let w = c.args.writer.now in
    let why = c.in-Err.why in
    let weighs = c.in-Err.ensures.weighs in
    record {
      rests = rests_with _ _ _ c.weigh.ensures.rests;
      closes = refused_where s t w why c.requires.writing.is_open weighs;
      does =
          refused_closes c.args.now (kept_in c.args.stripe.now) (kept_in c.weigh.new.stripe) (seen_in c.args.stripe.now).device
          (seen_in c.weigh.new.stripe).device w why weighs c.in-Err.ensures.does;
      writer =
          subst (λ b. IsWriterOf t (written_as (used w b))) (sym c.is_sealed_by-writer.ensures)
          (refused_own t s w why weighs c.weigh.ensures.writer);
      seals =
          subst (λ b. SealsInStripeWhere w (used w b) (Err why)) (sym c.is_sealed_by-writer.ensures)
          (refused_seals s w why weighs);
      rested = inl (record { put = refl; gathered = refl; cuts = refl });
      untouched = refused_leaves s w _ _ why weighs c.weigh.ensures.unwritten;
      counts = c.in-Err.ensures.counts;
      wanting = c.in-Err.ensures.wanting;
      own = c.weigh.ensures.own;
      recorded = weigh_recorded why c.in-Err.ensures.does;
    }
