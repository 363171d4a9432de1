use Rattle.std.proofs.Common.{◌≡◌, refl, sym, ◌∙◌, ap, subst, arith}
use Rattle.std.specs.Prelude.{None}
use Rattle.logged_disk.proofs.GoingOn.{stays_put}
use Rattle.cache_model.specs.Damage.{TellNoDamage}
use Rattle.cache_model.specs.Kept.{with_records}
use Rattle.cache_model.specs.State.{live_row_of}
use Rattle.piece_answers.specs.declared.answer.Found.TheVariants as found
use Rattle.piece_answers.specs.Find.{Finds, found_records}
use Rattle.stripe_pieces.specs.Pieces.{kept_now, seen_now, state_now}
use Rattle.stripe_pieces.proofs.Findings.{finds_nothing}
use Rattle.piece_answers.proofs.RecordsAdded.{with_records-nil}
use Rattle.piece_answers.proofs.Flushes.{records_use}
use Rattle.held_pieces.proofs.Takings.{no_row}
use Rattle.stripe_pieces.proofs.pieces.Pieces.find.Goals as goal

pub returns-in-Some : goal.returns-in-Some
returns-in-Some g c = c.read.ensures

pub returns-in-None : goal.returns-in-None
returns-in-None g c =
    let s = state_now c.args.self.now in
    let k = kept_now c.args.self.now in
    let seen = seen_now c.args.self.now in
    let none : live_row_of s c.args.id ≡ None = no_row (live_row_of s c.args.id) (sym c.in-None.ensures) in
    let nothing = sym (ap (λ o. found_records o (found.Missing c.why_piece.result)) none) in
    record {
      pieces = record { held = c.requires.ready.pieces; contents = λ contents told stands. stands };
      adds = sym (with_records-nil k) ∙ ap (with_records k) nothing;
      finds = subst (λ why. Finds s seen seen c.args.id (found.Missing why) c.args.into.now) (sym c.why_piece.ensures) (finds_nothing s seen c.args.id c.args.into.now none);
      unharmed = λ told. subst TellNoDamage nothing tt;
      unwritten = record { goes = stays_put seen.device; seen = λ j. refl };
      uses = records_use 1 _ _ seen (omega arith);
    }
