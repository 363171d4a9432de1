use Rattle.std.proofs.Common.{◌≡◌, ◌<◌, length, refl, inl, inr, subst}
use Rattle.stripe_core.specs.Stripe.{kept_in, seen_in, state_in}
use Rattle.stripe_write.specs.declared.writer.Writer.{Writer}
use Rattle.stripe_write.specs.Others.{AddsOfPut}
use Rattle.stripe_write.proofs.Keeping.{keeps_rest}
use Rattle.stripe_write.specs.Resting.{RestsAsAsked}
use Rattle.stripe_write.proofs.Faulted.{recorded_behind, rest_recorded}
use Rattle.stripe_write.proofs.Flushed.{stop_in}
use Rattle.stripe_write.proofs.LastCut.{rest_own}
use Rattle.stripe_write.proofs.Owning.{then_owns}
use Rattle.stripe_write.proofs.LastSteps.{finished_where, no_rest_ends, no_rest_where, rest_reads, rest_then_finish}
use Rattle.stripe_write.proofs.Sealing.{IsSealed, cut_same, sealed_same, sealed_writer, spelled_same, then_same}
use Rattle.logged_disk.specs.Device.{TellsAll}
use Rattle.logged_disk.proofs.GoingOn.{told_before}
use Rattle.cache_model.specs.Contents.{TellsVectors}
use Rattle.cache_model.specs.Verdict.{cuts_of}
use Rattle.stripe_core.proofs.Continuing.{rests_with, rests_with_then}
use Rattle.stripe_write.specs.Closing.{IsReadFor}
use Rattle.stripe_write.proofs.CutsStay.{finished_cuts}
use Rattle.stripe_write.proofs.ToldClosed.{more_cut}
use Rattle.stripe_write.proofs.ToldPieces.{told_same}
use Rattle.stripe_write.proofs.closing.end.Goals as goal
use Rattle.cache_calls.specs.Standing.{IsToldNext, IsToldClosed}
use Rattle.stripe_write.specs.Writers.{written_as}

-- the writer, once it takes no more bytes
abbrev sealed_now : Writer → Writer
sealed_now w = record { put = w.put; key = w.key; request = w.request; response = w.response; pin = w.pin; gathered = w.gathered; table = w.table; sealed = Rattle.std.proofs.Common.true }

is_sealed : (w : Writer) → IsSealed w (sealed_now w)
is_sealed w = record { put = refl; key = refl; request = refl; response = refl; pin = refl; gathered = refl; rows = refl; sealed = refl }

pub cut_rest-requires-clause-writing : goal.cut_rest-requires-clause-writing
cut_rest-requires-clause-writing g c =
    let w = c.args.writer.now in
    record {
      resting = c.requires.writing.resting;
      writer = sealed_writer (state_in c.args.stripe.now) w (sealed_now w) (is_sealed w) c.requires.writing.writer;
      is_open = c.requires.writing.is_open;
    }

pub finish-requires-clause-vectors : goal.finish-requires-clause-vectors
finish-requires-clause-vectors g c =
    let w = c.args.writer.now in
    let sealed = sealed_now w in
    let cut = c.cut_rest.new.writer in
    let old = kept_in c.args.stripe.now in
    let mid = kept_in c.cut_rest.new.stripe in
    let before = (seen_in c.args.stripe.now).device in
    let between = (seen_in c.cut_rest.new.stripe).device in
    let rest = c.cut_rest.ensures.rest in
    record {
      -- what was read stays read behind the rest
      read = λ tells.
          rest_reads c.args.now old mid before.past between w sealed cut c.args.vectors c.in-Ok.field-0
          (is_sealed w) rest c.in-Ok.ensures.rows c.in-Ok.ensures.empty c.in-Ok.ensures.does
          (c.requires.vectors.read (told_before before between c.cut_rest.ensures.rests.between.goes tells));
      spelled =
          spelled_same _ _ w cut c.args.vectors (keeps_rest c.args.now old mid _ _ sealed c.in-Ok.field-0 c.in-Ok.ensures.does).geometry
          (then_same w sealed cut (sealed_same w sealed (is_sealed w)) (cut_same sealed cut rest c.in-Ok.ensures.rows c.in-Ok.ensures.empty))
          c.requires.vectors.spelled;
    }

pub returns-in-Ok : goal.returns-in-Ok
returns-in-Ok g c =
    let w = c.args.writer.now in
    let sealed = sealed_now w in
    let cut = c.cut_rest.new.writer in
    let old = kept_in c.args.stripe.now in
    let mid = kept_in c.cut_rest.new.stripe in
    let new = kept_in c.finish.new.stripe in
    let t = state_in c.finish.new.stripe in
    let before = (seen_in c.args.stripe.now).device in
    let between = (seen_in c.cut_rest.new.stripe).device in
    let last = (seen_in c.finish.new.stripe).device in
    let rest = c.cut_rest.ensures.rest in
    let read : TellsAll between → IsReadFor (state_in c.cut_rest.new.stripe) cut c.args.vectors = λ tells.
    rest_reads c.args.now old mid before.past between w sealed cut c.args.vectors c.in-Ok.field-0
    (is_sealed w) rest c.in-Ok.ensures.rows c.in-Ok.ensures.empty c.in-Ok.ensures.does
    (c.requires.vectors.read (told_before before between c.cut_rest.ensures.rests.between.goes tells)) in
    -- where the device tells its content, what was cut stays cut
    let cuts : TellsAll last → cuts_of t w.put ≡ cuts_of (state_in c.cut_rest.new.stripe) w.put = λ tells.
    finished_cuts c.args.now mid new between.past last.past cut c.args.vectors c.finish.result c.finish.ensures.does
    c.cut_rest.ensures.rests.resting.stripe.none (read (told_before between last c.finish.ensures.rests.between.goes tells)) w.put in
    record {
      rests =
          rests_with_then (IsToldClosed t (written_as w)) (λ contents. 0 < length w.gathered.items → IsToldNext (written_as sealed) w.gathered.items contents) TellsVectors _ _ _
          (λ contents tells told. (
            λ some. told_same contents w sealed w.gathered.items refl refl refl
                (told.rest (more_cut (state_in c.cut_rest.new.stripe) t w cut rest.put c.in-Ok.ensures.rows c.in-Ok.ensures.is_open
                c.cut_rest.ensures.writer (cuts tells) some)),
            told.vectors,
          )) c.in-Ok.ensures.rests c.finish.ensures.rests;
      ends = finished_where t w cut c.finish.result rest.put rest.key c.in-Ok.ensures.rows c.finish.ensures.finishes;
      does =
          rest_then_finish g.R.Directory.purges c.args.now old mid new before between last w sealed cut c.args.vectors c.in-Ok.field-0
          c.finish.result (is_sealed w) rest c.in-Ok.ensures.rows c.in-Ok.ensures.empty c.cut_rest.ensures.rests.between.goes
          c.finish.ensures.rests.between.goes c.in-Ok.ensures.does c.finish.ensures.finishes c.finish.ensures.does;
      writer = c.finish.ensures.writer;
      sealed = rest.sealed;
      rested = inr (record { put = rest.put; empty = c.in-Ok.ensures.empty; cuts = c.in-Ok.ensures.rows });
      counts = c.finish.ensures.counts;
      own =
          then_owns w.put old mid new (rest_own c.args.now old mid _ _ sealed _ c.in-Ok.ensures.does)
          (subst (λ n. AddsOfPut n mid new) rest.put c.finish.ensures.own);
      recorded =
          recorded_behind old mid new c.finish.result (rest_own c.args.now old mid _ _ sealed _ c.in-Ok.ensures.does)
          c.finish.ensures.recorded;
    }

pub returns-in-Err : goal.returns-in-Err
returns-in-Err g c =
    let w = c.args.writer.now in
    let sealed = sealed_now w in
    let old = kept_in c.args.stripe.now in
    let new = kept_in c.cut_rest.new.stripe in
    let t = state_in c.cut_rest.new.stripe in
    let after = (seen_in c.cut_rest.new.stripe).device in
    let why = c.in-Err.why in
    let same = c.in-Err.ensures.same in
    let answers = RestsAsAsked g.R.Directory.purges c.args.now old new (seen_in c.args.stripe.now).device.past after sealed in
    let stopped = stop_in answers why c.in-Err.ensures.does in
    record {
      rests = rests_with _ _ _ c.in-Err.ensures.rests;
      ends = no_rest_where t w (length w.gathered.items) why answers c.in-Err.ensures.does c.in-Err.ensures.number;
      does =
          no_rest_ends c.args.now old new _ _ w sealed c.args.vectors why (is_sealed w) c.requires.writing.is_open
          c.requires.writing.writer c.in-Err.ensures.some c.in-Err.ensures.number c.in-Err.ensures.does;
      writer = c.cut_rest.ensures.writer;
      sealed = same.sealed;
      rested = inl (record { put = same.put; gathered = same.gathered; cuts = same.rows });
      counts = c.in-Err.ensures.counts;
      own = rest_own c.args.now old new _ _ sealed _ stopped.1;
      recorded = rest_recorded g.R.Directory.purges c.args.now old new _ after sealed why c.in-Err.ensures.does;
    }
