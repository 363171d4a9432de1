use Rattle.std.proofs.Common.{◌<◌, ◌∙◌, sym, ap, subst, refl, inl, []}
use Rattle.std.specs.Prelude.{IfErr}
use Rattle.cache_model.specs.Kept.{Kept, state_of}
use Rattle.cache_model.specs.Legal.{is_writing}
use Rattle.logged_disk.proofs.GoingOn.{stays_put}
use Rattle.cache_answers.specs.declared.answers.Refusal.TheVariants as refusal
use Rattle.stripe_core.specs.Stripe.{kept_in, room_for, seen_in, state_in}
use Rattle.stripe_core.proofs.Stills.{still_shows}
use Rattle.stripe_answers.specs.Faults.{RefusalHasRecord}
use Rattle.stripe_write.specs.Others.{AddsOfPut}
use Rattle.stripe_write.proofs.Owning.{owns_none}
use Rattle.stripe_write.proofs.Gathering.{same_writer}
use Rattle.stripe_write.proofs.LastSteps.{closes_same, closes_where_same, prepared_leaves, rested_same, seals_same, wanting_closes, wanting_map}
use Rattle.stripe_write.proofs.Spending.{nothing_more}
use Rattle.stripe_core.proofs.Continuing.{continues_still, rests_same, rests_with, still_resting}
use Rattle.stripe_write.specs.Closes.{ClosesWhere}
use Rattle.stripe_write.proofs.ToldClosed.{closed_same}
use Rattle.stripe_write.proofs.ToldPieces.{rests_behind}
use Rattle.stripe_write.proofs.closing.close_write.Goals as goal
use Rattle.cache_calls.specs.Actors.{IsWriterOf}
use Rattle.cache_calls.specs.Standing.{IsToldClosed}
use Rattle.stripe_write.specs.Writers.{written_as}

pub close_open-requires-clause-writing : goal.close_open-requires-clause-writing
close_open-requires-clause-writing g c =
    let w = c.args.writer.now in
    let same = c.make_memory.ensures.same in
    let records = c.make_memory.ensures.records in
    record {
      resting = still_resting c.args.stripe.now _ c.make_memory.ensures.continues.stripe records c.requires.resting;
      writer =
          same_writer (state_in c.make_memory.new.stripe) w c.make_memory.new.writer same
          (subst (λ k. IsWriterOf (state_of k) (written_as w)) (sym records) c.requires.writer);
      is_open =
          ap (λ n. is_writing (state_in c.make_memory.new.stripe) n) same.put
          ∙ (ap (λ (k : Kept). is_writing (state_of k) w.put) records ∙ (sym c.is_open.ensures ∙ c.if-not-is_open.false));
    }

pub close_open-requires-clause-memory : goal.close_open-requires-clause-memory
close_open-requires-clause-memory g c = record {
  units = c.in-Ok.ensures.units;
  row = subst (λ n. 0 < room_for n c.make_memory.new.stripe.actors) (sym c.make_memory.ensures.same.put) c.in-Ok.ensures.row;
  table = c.in-Ok.ensures.table;
}

pub returns-then-not-is_open : goal.returns-then-not-is_open
returns-then-not-is_open g c =
    let kept = kept_in c.args.stripe.now in
    record {
      rests = rests_with _ _ _ (rests_same c.args.stripe.now c.requires.resting);
      closes = sym c.is_open.ensures ∙ c.if-not-is_open.true;
      does = record {
        does = λ p packs at covers told. inl (record { added = []; adds = sym (nothing_more kept); does = refl; number = tt });
      };
      writer = c.requires.writer;
      seals = record { put = refl; key = refl; request = refl; response = refl; pin = refl; gathered = refl; rows = refl; sealed = refl };
      rested = inl (record { put = refl; gathered = refl; cuts = refl });
      untouched = record { goes = stays_put (seen_in c.args.stripe.now).device; past = refl; seen = λ j. refl; faults = refl };
      counts = tt;
      wanting = tt;
      own = owns_none c.args.writer.now.put kept kept refl;
      recorded = tt;
    }

pub returns-in-Err : goal.returns-in-Err
returns-in-Err g c =
    let w = c.args.writer.now in
    let same = c.make_memory.ensures.same in
    let records = c.make_memory.ensures.records in
    record {
      rests = rests_with _ _ _ (continues_still _ _ c.make_memory.ensures.continues records c.requires.resting);
      closes = sym c.is_open.ensures ∙ c.if-not-is_open.false;
      does =
          wanting_closes c.args.now (kept_in c.args.stripe.now) (kept_in c.make_memory.new.stripe) _ _ w (refusal.Memory c.in-Err.e)
          c.in-Err.e refl records;
      writer =
          same_writer (state_in c.make_memory.new.stripe) w c.make_memory.new.writer same
          (subst (λ k. IsWriterOf (state_of k) (written_as w)) (sym records) c.requires.writer);
      seals = same;
      rested = inl (record { put = same.put; gathered = same.gathered; cuts = same.rows });
      untouched = still_shows _ _ c.make_memory.ensures.still;
      counts = tt;
      wanting = records;
      own = owns_none w.put (kept_in c.args.stripe.now) (kept_in c.make_memory.new.stripe) records;
      recorded = tt;
    }

pub returns-in-Ok : goal.returns-in-Ok
returns-in-Ok g c =
    let w = c.args.writer.now in
    let made = c.make_memory.new.writer in
    let same = c.make_memory.ensures.same in
    let records = c.make_memory.ensures.records in
    let mid = kept_in c.make_memory.new.stripe in
    let new = kept_in c.close_open.new.stripe in
    let t = state_in c.close_open.new.stripe in
    record {
      rests =
          rests_behind (IsToldClosed t (written_as made)) (IsToldClosed t (written_as w)) _ _ _
          (λ contents tells told. closed_same t w made contents same told)
          (continues_still _ _ c.make_memory.ensures.continues records c.requires.resting) c.close_open.ensures.rests;
      closes =
          subst (λ (k : Kept). ClosesWhere (state_of k) t w c.close_open.result) records
          (closes_where_same (state_of mid) t w made c.close_open.result same c.close_open.ensures.closes);
      does =
          closes_same c.args.now (kept_in c.args.stripe.now) mid new _ _ _ w made c.close_open.result records
          c.make_memory.ensures.still.past (record { put = same.put; key = same.key; gathered = same.gathered; rows = same.rows })
          c.close_open.ensures.does;
      writer = c.close_open.ensures.writer;
      seals = seals_same w made c.close_open.new.writer c.close_open.result same c.close_open.ensures.seals;
      rested = rested_same w made c.close_open.new.writer same c.close_open.ensures.rested;
      untouched =
          prepared_leaves (seen_in c.args.stripe.now).device (seen_in c.make_memory.new.stripe).device (seen_in c.close_open.new.stripe).device
          c.close_open.result c.make_memory.ensures.still c.close_open.ensures.untouched;
      counts = c.close_open.ensures.counts;
      wanting = wanting_map c.close_open.result _ _ (λ same. same ∙ records) c.close_open.ensures.wanting;
      own =
          subst (λ k. AddsOfPut w.put k new) records (subst (λ n. AddsOfPut n mid new) same.put c.close_open.ensures.own);
      recorded = subst (λ k. IfErr c.close_open.result (RefusalHasRecord k new)) records c.close_open.ensures.recorded;
    }
