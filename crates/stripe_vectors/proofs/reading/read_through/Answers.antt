use Rattle.std.proofs.Common.{◌≡◌, ◌∙◌, ap, subst}
use Rattle.std.proofs.lemmas.Result.{err_from_is_err_and}
use Rattle.cache_model.specs.Kept.{with_records}
use Rattle.piece_answers.specs.Find.{Finds, find_adds}
use Rattle.piece_answers.specs.declared.answer.Found.TheVariants as found
use Rattle.logged_disk.proofs.GoingOn.{told_before}
use Rattle.stripe_core.specs.Stripe.{kept_in, seen_in, state_in}
use Rattle.stripe_pieces.proofs.VectorsListed.{are_listed}
use Rattle.stripe_vectors.proofs.Finding.{found_fits, found_taken, found_vector, live_row, missed_adds, missed_vector, nothing_read, read_adds}
use Rattle.stripe_answers.proofs.Seeing.{seen_none}
use Rattle.stripe_answers.proofs.Wanting.{holds_anyway, nothing_answered}
use Rattle.stripe_vectors.proofs.reading.read_through.Goals as goal

pub slice_bounds-listed-end-in-Found : goal.slice_bounds-listed-end-in-Found
slice_bounds-listed-end-in-Found g c =
    let s = state_in c.args.stripe.now in
    let old = seen_in c.args.stripe.now in
    let new = seen_in c.find_piece.new.self in
    let row = live_row _ c.requires.vector.live in
    let finds : Finds s old new c.args.vector (found.Found c.in-Found.length) c.find_piece.new.into = subst (λ f. Finds s old new c.args.vector f c.find_piece.new.into) c.in-Found.is c.in_ok-length.ensures.finds in
    found_taken s old new c.args.vector row.0 c.in-Found.length c.find_piece.new.into row.1 finds

pub slice_bounds-listed-end : goal.slice_bounds-listed-end
slice_bounds-listed-end g c =
    let s = state_in c.args.stripe.now in
    let old = seen_in c.args.stripe.now in
    let new = seen_in c.find_piece.new.self in
    let row = live_row _ c.requires.vector.live in
    let finds : Finds s old new c.args.vector (found.Found c.in-Found.length) c.find_piece.new.into = subst (λ f. Finds s old new c.args.vector f c.find_piece.new.into) c.in-Found.is c.in_ok-length.ensures.finds in
    found_fits s old new c.args.vector row.0 c.in-Found.length c.find_piece.new.into row.1 finds

pub returns-in_err-length : goal.returns-in_err-length
returns-in_err-length g c =
    let result = c.from_residual.result in
    let wanting = err_from_is_err_and c.from_residual.result c.from_residual.ensures.1 in
    record {
      continues = c.find_piece.ensures.continues;
      adds = nothing_answered result _ wanting.0 wanting.1;
      finds = nothing_answered result _ wanting.0 wanting.1;
      seen = seen_none (seen_in c.args.stripe.now).device (seen_in c.find_piece.new.self).device c.in_err-length.ensures.untouched.past;
      err = holds_anyway result _ c.in_err-length.ensures.err;
      unwritten = c.find_piece.ensures.unwritten;
      row = c.find_piece.ensures.row;
      unit = c.find_piece.ensures.unit;
    }

pub returns-in_err-listed-in-Found : goal.returns-in_err-listed-in-Found
returns-in_err-listed-in-Found g c =
    let s = state_in c.args.stripe.now in
    let k = kept_in c.args.stripe.now in
    let k1 = kept_in c.find_piece.new.self in
    let result = c.from_residual-in_err-listed-in-Found.result in
    let wanting = err_from_is_err_and c.from_residual-in_err-listed-in-Found.result c.from_residual-in_err-listed-in-Found.ensures.1 in
    let adds : k1 ≡ with_records k (find_adds s c.args.vector (found.Found c.in-Found.length)) =
    subst (λ f. k1 ≡ with_records k (find_adds s c.args.vector f)) c.in-Found.is c.in_ok-length.ensures.adds in
    record {
      continues = c.find_piece.ensures.continues;
      adds = nothing_answered result _ wanting.0 wanting.1;
      finds = nothing_answered result _ wanting.0 wanting.1;
      seen = c.in_ok-length.ensures.finds.seen;
      err = holds_anyway result _ (nothing_read k k1 c.args.vector c.in-Found.length adds);
      unwritten = c.find_piece.ensures.unwritten;
      row = c.find_piece.ensures.row;
      unit = c.find_piece.ensures.unit;
    }

pub returns-in_ok-listed-in-Found : goal.returns-in_ok-listed-in-Found
returns-in_ok-listed-in-Found g c =
    let s = state_in c.args.stripe.now in
    let k = kept_in c.args.stripe.now in
    let k1 = kept_in c.find_piece.new.self in
    let old = seen_in c.args.stripe.now in
    let new = seen_in c.find_piece.new.self in
    let into = c.find_piece.new.into in
    let row = live_row _ c.requires.vector.live in
    let finds : Finds s old new c.args.vector (found.Found c.in-Found.length) into =
    subst (λ f. Finds s old new c.args.vector f into) c.in-Found.is c.in_ok-length.ensures.finds in
    let adds : k1 ≡ with_records k (find_adds s c.args.vector (found.Found c.in-Found.length)) =
    subst (λ f. k1 ≡ with_records k (find_adds s c.args.vector f)) c.in-Found.is c.in_ok-length.ensures.adds in
    record {
      continues = c.find_piece.ensures.continues;
      adds = adds ∙ ap (with_records k) (read_adds s c.args.vector c.in-Found.length c.args.key _);
      finds =
          found_vector s old new c.args.vector row.0 c.in-Found.length into row.1 finds c.args.key _ c.requires.vector.vector
          c.in_ok-listed-in-Found.ensures
          (λ tells. are_listed s old c.requires.stripe.pieces c.requires.stripe.vectors
          (told_before old.device new.device c.find_piece.ensures.continues.between.goes tells)) c.requires.stripe.vectors;
      seen = finds.seen;
      err = tt;
      unwritten = c.find_piece.ensures.unwritten;
      row = c.find_piece.ensures.row;
      unit = c.find_piece.ensures.unit;
    }

pub returns-in-Missing : goal.returns-in-Missing
returns-in-Missing g c =
    let s = state_in c.args.stripe.now in
    let k = kept_in c.args.stripe.now in
    let k1 = kept_in c.find_piece.new.self in
    let old = seen_in c.args.stripe.now in
    let new = seen_in c.find_piece.new.self in
    let into = c.find_piece.new.into in
    let row = live_row _ c.requires.vector.live in
    let finds : Finds s old new c.args.vector (found.Missing c.in-Missing.why) into =
    subst (λ f. Finds s old new c.args.vector f into) c.in-Missing.is c.in_ok-length.ensures.finds in
    record {
      continues = c.find_piece.ensures.continues;
      adds = subst (λ f. k1 ≡ with_records k (find_adds s c.args.vector f)) c.in-Missing.is c.in_ok-length.ensures.adds
          ∙ ap (with_records k) (missed_adds s c.args.vector c.in-Missing.why c.args.key c.requires.vector.vector);
      finds = missed_vector s old new c.args.vector row.0 c.in-Missing.why into c.args.key row.1 c.requires.vector.vector finds;
      seen = finds.seen;
      err = tt;
      unwritten = c.find_piece.ensures.unwritten;
      row = c.find_piece.ensures.row;
      unit = c.find_piece.ensures.unit;
    }
