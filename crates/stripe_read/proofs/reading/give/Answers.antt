use Rattle.std.proofs.Common.{◌≡◌, ◌≤◌, ◌∙◌, subst, refl, arith}
use Rattle.std.proofs.lemmas.Result.{err_from_is_err_and}
use Rattle.cache_model.specs.State.{State, live_row_of}
use Rattle.cache_model.specs.Kept.{with_records}
use Rattle.piece_answers.specs.declared.answer.Found.TheVariants as found
use Rattle.piece_answers.specs.Find.{find_adds}
use Rattle.stripe_core.specs.Stripe.{kept_in, seen_in, state_in}
use Rattle.stripe_core.proofs.Continuing.{continues_proceeds, proceeds_then}
use Rattle.stripe_read.specs.Fetches.{Fetches}
use Rattle.stripe_read.proofs.Giving.{broken_kept, broken_reads, other_next, piece_kept, piece_reads}
use Rattle.stripe_read.proofs.Harmless.{or_else, unharmed_behind}
use Rattle.stripe_read.proofs.Nexts.{next_wanting}
use Rattle.stripe_read.proofs.Staying.{broken_behind, given_open, given_quiet, given_reader, leaves_open, leaves_reader, state_behind}
use Rattle.stripe_read.proofs.reading.give.Goals as goal

pub note-requires-clause-stripe : goal.note-requires-clause-stripe
note-requires-clause-stripe g c = c.fetch.ensures.stripe

pub note-requires-clause-unit : goal.note-requires-clause-unit
note-requires-clause-unit g c = omega (arith, c.requires.units, c.fetch.ensures.unit)

pub note-requires-in-Missing-clause-stripe : goal.note-requires-in-Missing-clause-stripe
note-requires-in-Missing-clause-stripe g c = c.fetch.ensures.stripe

pub note-requires-in-Missing-clause-unit : goal.note-requires-in-Missing-clause-unit
note-requires-in-Missing-clause-unit g c = omega (arith, c.requires.units, c.fetch.ensures.unit)

pub returns-in_err-size : goal.returns-in_err-size
returns-in_err-size g c =
    let wanting = err_from_is_err_and c.from_residual.result c.from_residual.ensures.1 in
    next_wanting c.args.stripe.now _ c.args.reader.now c.from_residual.result _ wanting.0 wanting.1 c.requires.open
    c.fetch.ensures.stripe c.fetch.ensures.proceeds
    (or_else (other_next (state_in c.args.stripe.now) c.args.reader.now c.next_piece.result c.args.cut c.args.digest c.requires.next
    c.next_piece.ensures) c.fetch.ensures.unharmed)
    c.in_err-size.ensures.err c.in_err-size.ensures.untouched

pub returns-in-Found : goal.returns-in-Found
returns-in-Found g c =
    let s = state_in c.args.stripe.now in
    let k = kept_in c.args.stripe.now in
    let k1 = kept_in c.fetch.new.stripe in
    let k2 = kept_in c.note.new.self in
    let old = seen_in c.args.stripe.now in
    let new = seen_in c.fetch.new.stripe in
    let newer = seen_in c.note.new.self in
    let own = c.args.reader.now in
    let id = c.next_piece.result in
    let row = live_row_of s id in
    record {
      resting = record {
        stripe = c.note.ensures.continues.stripe;
        quiet =
            given_quiet k k1 k2 row _ own.reader own.next c.args.cut c.in_ok-size.ensures.adds c.note.ensures.adds
            c.requires.open.resting.quiet;
      };
      proceeds = proceeds_then _ _ _ c.fetch.ensures.proceeds (continues_proceeds _ _ c.note.ensures.continues);
      unharmed =
          unharmed_behind old.device new.device newer.device k k1 k2
          (other_next s own id c.args.cut c.args.digest c.requires.next c.next_piece.ensures) c.fetch.ensures.unharmed
          c.note.ensures.continues.between;
      adds =
          piece_kept k k1 k2 own id c.args.cut c.args.digest c.in-Found.size c.requires.next
          (subst (λ f. k1 ≡ with_records k (find_adds s id f)) c.in-Found.is c.in_ok-size.ensures.adds) c.note.ensures.adds;
      reads =
          piece_reads s old new newer own id c.args.cut c.args.digest c.fetch.new.into c.requires.next c.requires.open.resting.quiet
          c.next_piece.ensures c.note.ensures.still
          c.note.ensures.does c.in-Found.size
          (subst (λ f. Fetches s old new id c.args.digest f c.fetch.new.into) c.in-Found.is c.in_ok-size.ensures.fetches);
      goes = record { reader = refl; key = refl; put = refl; table = refl; next = refl };
      reader =
          given_open k k1 k2 row _ own _ c.args.cut c.in_ok-size.ensures.adds c.note.ensures.adds
          (record { reader = refl; key = refl; put = refl; table = refl; next = refl }) c.requires.open.reader;
      keeps = λ has.
          given_reader k k1 k2 row _ own _ c.args.cut c.in_ok-size.ensures.adds c.note.ensures.adds
          (record { reader = refl; key = refl; put = refl; table = refl; next = refl }) has;
      err = tt;
      same = tt;
      untouched = tt;
    }

pub returns-in-Missing : goal.returns-in-Missing
returns-in-Missing g c =
    let s = state_in c.args.stripe.now in
    let k = kept_in c.args.stripe.now in
    let k1 = kept_in c.fetch.new.stripe in
    let k2 = kept_in c.note-in-Missing.new.self in
    let old = seen_in c.args.stripe.now in
    let new = seen_in c.fetch.new.stripe in
    let newer = seen_in c.note-in-Missing.new.self in
    let own = c.args.reader.now in
    let id = c.next_piece.result in
    let adds : k1 ≡ with_records k (find_adds s id (found.Missing c.in-Missing.why)) =
    subst (λ f. k1 ≡ with_records k (find_adds s id f)) c.in-Missing.is c.in_ok-size.ensures.adds in
    let leaves =
    broken_behind k k1 k2 (live_row_of s id) _ own.reader c.in-Missing.why c.in_ok-size.ensures.adds c.note-in-Missing.ensures.adds in
    record {
      resting = record { stripe = c.note-in-Missing.ensures.continues.stripe; quiet = leaves.pending ∙ c.requires.open.resting.quiet };
      proceeds = proceeds_then _ _ _ c.fetch.ensures.proceeds (continues_proceeds _ _ c.note-in-Missing.ensures.continues);
      unharmed =
          unharmed_behind old.device new.device newer.device k k1 k2
          (other_next s own id c.args.cut c.args.digest c.requires.next c.next_piece.ensures) c.fetch.ensures.unharmed
          c.note-in-Missing.ensures.continues.between;
      adds =
          broken_kept k k1 k2 own id c.args.cut c.args.digest c.in-Missing.why c.requires.next c.next_piece.ensures adds
          c.note-in-Missing.ensures.adds;
      reads =
          broken_reads s old new newer own id c.args.cut c.args.digest c.fetch.new.into c.requires.next c.requires.open.resting.quiet
          c.next_piece.ensures c.note-in-Missing.ensures.still
          c.in-Missing.why c.note-in-Missing.ensures.does
          (subst (λ (t : State). t.fault ≤ new.device.faults) (state_behind k k1 (find_adds s id (found.Missing c.in-Missing.why)) adds)
          c.fetch.ensures.stripe.pieces.faults)
          (subst (λ f. Fetches s old new id c.args.digest f c.fetch.new.into) c.in-Missing.is c.in_ok-size.ensures.fetches);
      goes = record { reader = refl; key = refl; put = refl; table = refl; next = refl };
      reader = leaves_open s (state_in c.note-in-Missing.new.self) own leaves c.requires.open.reader;
      keeps = λ has. leaves_reader s (state_in c.note-in-Missing.new.self) own leaves has;
      err = tt;
      same = tt;
      untouched = tt;
    }
