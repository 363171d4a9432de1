use Rattle.std.proofs.Common.{◌∙◌, ap, inl, subst, sym, [], ◌∷◌}
use Rattle.cache_model.specs.Kept.{with_records}
use Rattle.cache_model.specs.Legal.{answer_record}
use Rattle.logged_disk.specs.Device.{DeviceState as Device}
use Rattle.stripe_answers.specs.Acts.{NotesAsAsked}
use Rattle.stripe_core.specs.Stripe.{kept_in, seen_in, state_in}
use Rattle.stripe_core.proofs.Continuing.{continues_proceeds}
use Rattle.stripe_read.proofs.Giving.{no_piece, stop_adds, stop_goes, stop_reads}
use Rattle.stripe_read.proofs.Staying.{leaves_open, leaves_quiet, leaves_reader, told_behind}
use Rattle.stripe_read.proofs.reading.stop.Goals as goal
use Rattle.cache_calls.specs.Readers.{noted}

pub returns-clause-reads : goal.returns-clause-reads
returns-clause-reads g c = λ into.
    let s = state_in c.args.stripe.now in
    let t = state_in c.note.new.self in
    let k = kept_in c.args.stripe.now in
    let own = c.args.reader.now in
    let answer = c.at_end-answer.result in
    let adds = c.note.ensures.adds ∙ ap (λ a. with_records k (answer_record own.reader a ∷ [])) c.noted.ensures in
    let leaves =
    told_behind k (kept_in c.note.new.self) own.reader (noted 0 answer) adds
    (no_piece s own answer c.requires.none c.at_end-answer.ensures) in
    record {
      resting = record { stripe = c.note.ensures.continues.stripe; quiet = leaves_quiet s t leaves c.requires.open.resting.quiet };
      proceeds = continues_proceeds _ _ c.note.ensures.continues;
      unharmed = inl c.note.ensures.continues.between;
      adds = adds ∙ ap (with_records k) (sym (stop_adds s own answer c.requires.none c.at_end-answer.ensures));
      reads =
          stop_reads s own answer c.requires.none c.at_end-answer.ensures
          (subst (NotesAsAsked own.reader) c.noted.ensures c.note.ensures.does)
          (seen_in c.args.stripe.now) (seen_in c.note.new.self) into (ap (λ (d : Device). d.past) c.note.ensures.still)
          c.requires.open.resting.quiet;
      goes = stop_goes s own answer c.requires.none c.at_end-answer.ensures;
      reader = leaves_open s t own leaves c.requires.open.reader;
      keeps = λ has. leaves_reader s t own leaves has;
      err = tt;
      same = tt;
      untouched = tt;
    }
