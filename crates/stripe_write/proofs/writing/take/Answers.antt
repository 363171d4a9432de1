use Rattle.std.proofs.Common.{◌≡◌, ◌+◌, ◌<◌, ℕ, refl, sym, ◌∙◌, ap, subst, arith, length, take, Result, Ok, Err, true, false}
use Rattle.std.proofs.lemmas.Result.{err_from_is_err_and}
use Rattle.tape_base.specs.declared.geometries.Geometry.{Geometry}
use Rattle.cache_model.specs.Kept.{state_of}
use Rattle.cache_model.specs.Legal.{is_writing}
use Rattle.cache_answers.specs.declared.answers.Refusal.{Refusal}
use Rattle.stripe_core.specs.Stripe.{kept_in, state_in}
use Rattle.stripe_core.proofs.Continuing.{continues_still, rests_with, still_resting, then_rests}
use Rattle.stripe_core.proofs.Stills.{still_then, unstopped_map}
use Rattle.stripe_write.specs.declared.writer.Writer.{Writer}
use Rattle.stripe_answers.specs.Numbers.{StopsExhausted}
use Rattle.stripe_write.specs.Writes.{SameWriter, next_start}
use Rattle.stripe_write.proofs.CallsRefused.{write_wanting}
use Rattle.stripe_write.proofs.Gathering.{SameButGathered, back, cut_now, failed_leaves, few_gathered, gathered_length, is_ready, left_cut, left_more, left_writer, more_writer, not_cut, refused_where, same_as, same_writer, taken_back, writes_cut, writes_few, writes_refused}
use Rattle.stripe_write.proofs.ToldPieces.{rests_behind, told_same}
use Rattle.stripe_write.proofs.writing.take.Goals as goal
use Rattle.cache_calls.specs.Actors.{IsWriterOf}
use Rattle.cache_calls.specs.Asked.{taken_of, gathered_with, fills_fragment}
use Rattle.cache_calls.specs.Writers.{piece_cut_next}
use Rattle.cache_calls.specs.Standing.{IsToldNext, IsToldWritten}
use Rattle.stripe_write.specs.Writers.{written_as}

pub overflow_sub-room : goal.overflow_sub-room
overflow_sub-room g c =
    let few = few_gathered (state_in c.args.stripe.now) c.args.writer.now c.requires.writing.is_open c.requires.writing.writer in
    rw c.geometry.ensures (omega (arith, few, c.len-before.ensures))

pub returns-in_err-prepare : goal.returns-in_err-prepare
returns-in_err-prepare g c =
    let wanting = err_from_is_err_and c.from_residual.result c.from_residual.ensures.1 in
    write_wanting c.args.now c.args.stripe.now c.prepare.new.self c.args.writer.now _ c.args.bytes.now _ c.from_residual.result
    (wanting.1 ∙ ap Err wanting.2) c.requires.writing c.requires.unsealed c.prepare.ensures.continues c.prepare.ensures.records
    c.prepare.ensures.still (same_as c.args.writer.now)

pub returns-in_err-reserve : goal.returns-in_err-reserve
returns-in_err-reserve g c =
    let wanting = err_from_is_err_and c.from_residual-in_err-reserve.result c.from_residual-in_err-reserve.ensures.1 in
    write_wanting c.args.now c.args.stripe.now c.prepare.new.self c.args.writer.now _ c.args.bytes.now _
    c.from_residual-in_err-reserve.result (wanting.1 ∙ ap Err wanting.2) c.requires.writing c.requires.unsealed
    c.prepare.ensures.continues c.prepare.ensures.records c.prepare.ensures.still
    (record {
      put = refl;
      key = refl;
      request = refl;
      response = refl;
      pin = refl;
      gathered = refl;
      rows = c.reserve.ensures.rows;
      sealed = refl;
    })

pub returns-in_err-extend_from_slice : goal.returns-in_err-extend_from_slice
returns-in_err-extend_from_slice g c =
    let wanting = err_from_is_err_and c.from_residual-in_err-extend_from_slice.result c.from_residual-in_err-extend_from_slice.ensures.1 in
    write_wanting c.args.now c.args.stripe.now c.prepare.new.self c.args.writer.now _ c.args.bytes.now _
    c.from_residual-in_err-extend_from_slice.result (wanting.1 ∙ ap Err wanting.2) c.requires.writing c.requires.unsealed
    c.prepare.ensures.continues c.prepare.ensures.records c.prepare.ensures.still
    (record {
      put = refl;
      key = refl;
      request = refl;
      response = refl;
      pin = refl;
      gathered = c.in_err-extend_from_slice.ensures.items;
      rows = c.reserve.ensures.rows;
      sealed = refl;
    })

pub returns-then-taken-room : goal.returns-then-taken-room
returns-then-taken-room g c =
    let s = state_in c.args.stripe.now in
    let w = c.args.writer.now in
    let n : ℕ = c.min-taken.result in
    let few = few_gathered s w c.requires.writing.is_open c.requires.writing.writer in
    let fragment = ap (λ (x : Geometry). x.fragment) c.geometry.ensures in
    let size : length c.extend_from_slice.new.self.items ≡ length w.gathered.items + n =
    ap length c.in_ok-extend_from_slice.ensures.items ∙ gathered_length w c.args.bytes.now n (omega (arith, c.min-taken.ensures)) in
    let less : length c.extend_from_slice.new.self.items < s.geometry.fragment =
    omega (arith, size, few, fragment, c.len-before.ensures, c.if-taken-room.true) in
    let short : fills_fragment s.geometry (written_as w) n ≡ false =
    not_cut s.geometry w n (omega (arith, few, fragment, c.len-before.ensures, c.if-taken-room.true)) in
    record {
      rests = rests_with _ _ _ (continues_still _ _ c.prepare.ensures.continues c.prepare.ensures.records c.requires.writing.resting);
      writes = (
        (c.requires.writing.is_open, c.requires.unsealed),
        omega (arith, fragment, c.len-before.ensures, c.min-taken.ensures),
        λ some. c.requires.few,
      );
      number = tt;
      does =
          writes_few c.args.now (kept_in c.args.stripe.now) (kept_in c.prepare.new.self) _ _ w c.args.bytes.now n
          c.prepare.ensures.records short;
      writer =
          more_writer (state_in c.prepare.new.self) w (record w { table = c.reserve.new.self; gathered = c.extend_from_slice.new.self })
          (record { put = refl; key = refl; request = refl; response = refl; pin = refl; rows = c.reserve.ensures.rows; sealed = refl })
          c.requires.unsealed c.requires.few (rw (ap state_of c.prepare.ensures.records) less)
          (subst (λ k. IsWriterOf (state_of k) (written_as w)) (sym c.prepare.ensures.records) c.requires.writing.writer);
      gathers = record {
        put = refl;
        gathered = c.in_ok-extend_from_slice.ensures.items ∙ sym (left_more s.geometry w c.args.bytes.now n short);
        sealed = refl;
      };
      same = tt;
      untouched = tt;
    }

pub cut-requires-clause-resting : goal.cut-requires-clause-resting
cut-requires-clause-resting g c =
    still_resting c.args.stripe.now _ c.prepare.ensures.continues.stripe c.prepare.ensures.records c.requires.writing.resting

pub cut-requires-clause-ready : goal.cut-requires-clause-ready
cut-requires-clause-ready g c =
    let s = state_in c.args.stripe.now in
    let w = c.args.writer.now in
    let n : ℕ = c.min-taken.result in
    let few = few_gathered s w c.requires.writing.is_open c.requires.writing.writer in
    let fragment = ap (λ (x : Geometry). x.fragment) c.geometry.ensures in
    let size : length c.extend_from_slice.new.self.items ≡ length w.gathered.items + n =
    ap length c.in_ok-extend_from_slice.ensures.items ∙ gathered_length w c.args.bytes.now n (omega (arith, c.min-taken.ensures)) in
    let whole : length c.extend_from_slice.new.self.items ≡ s.geometry.fragment =
    omega (arith, size, few, fragment, c.len-before.ensures, c.min-taken.ensures, c.if-taken-room.false) in
    is_ready (state_in c.prepare.new.self) w _
    (ap (λ k. is_writing (state_of k) w.put) c.prepare.ensures.records ∙ c.requires.writing.is_open) c.requires.unsealed
    (subst (λ k. IsWriterOf (state_of k) (written_as w)) (sym c.prepare.ensures.records) c.requires.writing.writer)
    (record { put = refl; key = refl; request = refl; response = refl; pin = refl; rows = c.reserve.ensures.rows; sealed = refl })
    c.requires.few (rw (ap state_of c.prepare.ensures.records) whole) c.in_ok-reserve.ensures.room

pub returns-in-Ok : goal.returns-in-Ok
returns-in-Ok g c =
    let s = state_in c.args.stripe.now in
    let w = c.args.writer.now in
    let n : ℕ = c.min-taken.result in
    let few = few_gathered s w c.requires.writing.is_open c.requires.writing.writer in
    let fragment = ap (λ (x : Geometry). x.fragment) c.geometry.ensures in
    let held : Writer = record {
      put = w.put;
      key = w.key;
      request = w.request;
      response = w.response;
      pin = w.pin;
      gathered = c.extend_from_slice.new.self;
      table = c.reserve.new.self;
      sealed = w.sealed;
    } in
    let cuts : fills_fragment s.geometry (written_as w) n ≡ true =
    cut_now s.geometry w n (omega (arith, few, fragment, c.len-before.ensures, c.min-taken.ensures, c.if-taken-room.false)) in
    record {
      rests =
          rests_behind (IsToldNext (written_as held) held.gathered.items) (IsToldWritten s (written_as w) c.args.bytes.now (Ok n)) _ _ _
          (λ contents tells told.
          subst (λ bytes. IsToldNext (written_as held) bytes contents) (sym c.in_ok-extend_from_slice.ensures.items)
          (told_same contents w held (gathered_with (written_as w) c.args.bytes.now n) refl refl c.reserve.ensures.rows (told cuts)))
          (continues_still _ _ c.prepare.ensures.continues c.prepare.ensures.records c.requires.writing.resting) c.in-Ok.ensures.rests;
      writes = (
        (c.requires.writing.is_open, c.requires.unsealed),
        omega (arith, fragment, c.len-before.ensures, c.min-taken.ensures),
        λ some. c.requires.few,
      );
      number = tt;
      does =
          writes_cut c.args.now (kept_in c.args.stripe.now) (kept_in c.prepare.new.self) (kept_in c.cut.new.stripe) _ _ _ w held
          c.args.bytes.now n c.in-Ok.field-0 c.prepare.ensures.records c.prepare.ensures.still.past
          (record { put = refl; key = refl; request = refl; response = refl; pin = refl; rows = c.reserve.ensures.rows; sealed = refl })
          c.in_ok-extend_from_slice.ensures.items cuts c.in-Ok.ensures.does;
      writer = c.in-Ok.ensures.writer;
      gathers = record {
        put = c.in-Ok.ensures.rest.put;
        gathered = c.in-Ok.ensures.empty ∙ sym (left_cut s.geometry w c.args.bytes.now n cuts);
        sealed = c.in-Ok.ensures.rest.sealed;
      };
      same = tt;
      untouched = tt;
    }

pub returns-in-Err : goal.returns-in-Err
returns-in-Err g c =
    let s = state_in c.args.stripe.now in
    let w = c.args.writer.now in
    let n : ℕ = c.min-taken.result in
    let few = few_gathered s w c.requires.writing.is_open c.requires.writing.writer in
    let fragment = ap (λ (x : Geometry). x.fragment) c.geometry.ensures in
    let r : Result ℕ Refusal = Err c.in-Err.refusal in
    let held : Writer = record {
      put = w.put;
      key = w.key;
      request = w.request;
      response = w.response;
      pin = w.pin;
      gathered = c.extend_from_slice.new.self;
      table = c.reserve.new.self;
      sealed = w.sealed;
    } in
    let turned = c.cut.new.writer in
    let later : Writer = record {
      put = turned.put;
      key = turned.key;
      request = turned.request;
      response = turned.response;
      pin = turned.pin;
      gathered = c.truncate.new.self;
      table = turned.table;
      sealed = turned.sealed;
    } in
    let size : length c.extend_from_slice.new.self.items ≡ length w.gathered.items + n =
    ap length c.in_ok-extend_from_slice.ensures.items ∙ gathered_length w c.args.bytes.now n (omega (arith, c.min-taken.ensures)) in
    let whole : length c.extend_from_slice.new.self.items ≡ s.geometry.fragment =
    omega (arith, size, few, fragment, c.len-before.ensures, c.min-taken.ensures, c.if-taken-room.false) in
    let taken : n ≡ taken_of s.geometry (written_as w) c.args.bytes.now = omega (arith, fragment, c.len-before.ensures, c.min-taken.ensures) in
    let first : SameButGathered w held =
    record { put = refl; key = refl; request = refl; response = refl; pin = refl; rows = c.reserve.ensures.rows; sealed = refl } in
    let is : turned ≡ held = c.in-Err.ensures.same in
    let gathered : c.truncate.new.self.items ≡ w.gathered.items =
    c.truncate.ensures.items
    ∙ (ap (λ (x : Writer). take c.len-before.result x.gathered.items) is
    ∙ (ap (take c.len-before.result) c.in_ok-extend_from_slice.ensures.items
    ∙ taken_back w c.args.bytes.now n c.len-before.result (omega (arith, c.len-before.ensures)))) in
    let same : SameWriter w later = back w held later first
    (record {
      put = ap (λ (x : Writer). x.put) is;
      key = ap (λ (x : Writer). x.key) is;
      request = ap (λ (x : Writer). x.request) is;
      response = ap (λ (x : Writer). x.response) is;
      pin = ap (λ (x : Writer). x.pin) is;
      rows = ap (λ (x : Writer). x.table.rows) is;
      sealed = ap (λ (x : Writer). x.sealed) is;
    }) gathered in
    record {
      rests = then_rests _ _ _ c.prepare.ensures.continues c.in-Err.ensures.rests;
      writes =
          refused_where s w c.args.bytes.now c.in-Err.refusal _ _ c.in-Err.ensures.does (record {
            taking = (c.requires.writing.is_open, c.requires.unsealed);
            few = c.requires.few;
            full =
                cut_now s.geometry w (taken_of s.geometry (written_as w) c.args.bytes.now)
                (omega (arith, few, fragment, c.len-before.ensures, c.min-taken.ensures, c.if-taken-room.false));
          });
      number = subst (λ k. StopsExhausted (state_in c.cut.new.stripe) k c.in-Err.refusal) whole c.in-Err.ensures.number;
      does =
          writes_refused c.args.now (kept_in c.args.stripe.now) (kept_in c.prepare.new.self) (kept_in c.cut.new.stripe) _ _ _ w held
          c.args.bytes.now c.in-Err.refusal c.prepare.ensures.records c.prepare.ensures.still.past first
          (c.in_ok-extend_from_slice.ensures.items ∙ ap (gathered_with (written_as w) c.args.bytes.now) taken) c.in-Err.ensures.does;
      writer =
          left_writer (state_in c.prepare.new.self) (state_in c.cut.new.stripe) later
          (failed_leaves g.R.Directory.purges c.args.now (kept_in c.prepare.new.self) (kept_in c.cut.new.stripe) _ _ (piece_cut_next (written_as held))
          held.pin (next_start held) held.gathered.items c.in-Err.refusal c.in-Err.ensures.does)
          (same_writer (state_in c.prepare.new.self) w later same
          (subst (λ k. IsWriterOf (state_of k) (written_as w)) (sym c.prepare.ensures.records) c.requires.writing.writer));
      gathers = tt;
      same = same;
      untouched = unstopped_map r _ _ (still_then _ _ _ c.prepare.ensures.still) c.in-Err.ensures.untouched;
    }
