use Rattle.std.proofs.Common.{◌≡◌, ◌∙◌, ap, arith, inl, subst}
use Rattle.std.proofs.lemmas.Result.{err_from_is_err_and}
use Rattle.cache_model.specs.State.{live_row_of}
use Rattle.cache_model.specs.Kept.{Kept, state_of, with_records}
use Rattle.piece_answers.specs.Find.{Finds, find_adds}
use Rattle.stripe_core.specs.Stripe.{kept_in, seen_in, state_in}
use Rattle.stripe_pieces.proofs.Fitting.{budget_has_room}
use Rattle.stripe_read.specs.Fetches.{IsCompared, IsOtherPiece}
use Rattle.stripe_vectors.proofs.Finding.{found_same}
use Rattle.stripe_read.proofs.Comparing.{compared, missing}
use Rattle.stripe_read.proofs.Harmless.{behind_unharmed}
use Rattle.stripe_answers.proofs.Wanting.{holds_anyway, nothing_answered}
use Rattle.stripe_core.proofs.Continuing.{continues_proceeds, proceeds_then}
use Rattle.stripe_read.proofs.fetching.fetch.Goals as goal

pub find_piece-requires-clause-into : goal.find_piece-requires-clause-into
find_piece-requires-clause-into g c =
    budget_has_room (state_in c.args.stripe.now) (seen_in c.args.stripe.now) c.args.id c.args.into.now c.requires.stripe.pieces c.requires.into

pub returns-in-Found : goal.returns-in-Found
returns-in-Found g c =
    let s = state_in c.args.stripe.now in
    let k = kept_in c.args.stripe.now in
    let k1 = kept_in c.find_piece.new.self in
    let old = seen_in c.args.stripe.now in
    let new = seen_in c.find_piece.new.self in
    let newer = seen_in c.compare.new.stripe in
    let into = c.find_piece.new.into in
    let same = found_same k k1 (live_row_of s c.args.id) c.in-Found.size
    (subst (λ f. k1 ≡ with_records k (find_adds s c.args.id f)) c.in-Found.is c.in_ok-size.ensures.adds) in
    record {
      stripe = c.compare.ensures.stripe;
      proceeds = proceeds_then _ _ _ (continues_proceeds _ _ c.find_piece.ensures.continues) c.compare.ensures.proceeds;
      unharmed =
          behind_unharmed old.device new.device newer.device k k1 (kept_in c.compare.new.stripe)
          (λ (x : IsOtherPiece (state_of k1) c.args.id c.args.listed). subst
          (λ (t : Kept). IsOtherPiece (state_of t) c.args.id c.args.listed) same x)
          c.find_piece.ensures.continues.between c.compare.ensures.unharmed;
      adds = c.compare.ensures.adds ∙ ap (λ (x : Kept). with_records x (find_adds (state_of x) c.args.id c.compare.result)) same;
      fetches =
          compared s old new newer c.args.id c.args.listed c.in-Found.size into c.compare.result c.compare.ensures.still
          (subst (λ f. Finds s old new c.args.id f into) c.in-Found.is c.in_ok-size.ensures.finds)
          (subst (λ (x : Kept). IsCompared (state_of x) c.args.id c.args.listed c.in-Found.size c.compare.result) same
          c.compare.ensures.compares);
      err = tt;
      untouched = tt;
      unit = omega (arith, c.find_piece.ensures.unit, c.compare.ensures.unit);
    }

pub returns-in-Missing : goal.returns-in-Missing
returns-in-Missing g c =
    let s = state_in c.args.stripe.now in
    let k = kept_in c.args.stripe.now in
    let k1 = kept_in c.find_piece.new.self in
    let old = seen_in c.args.stripe.now in
    let new = seen_in c.find_piece.new.self in
    let into = c.find_piece.new.into in
    record {
      stripe = c.find_piece.ensures.continues.stripe;
      proceeds = continues_proceeds _ _ c.find_piece.ensures.continues;
      unharmed = inl c.find_piece.ensures.continues.between;
      adds = subst (λ f. k1 ≡ with_records k (find_adds s c.args.id f)) c.in-Missing.is c.in_ok-size.ensures.adds;
      fetches =
          missing s old new c.args.id c.args.listed c.in-Missing.why into
          (subst (λ f. Finds s old new c.args.id f into) c.in-Missing.is c.in_ok-size.ensures.finds);
      err = tt;
      untouched = tt;
      unit = omega (arith, c.find_piece.ensures.unit);
    }

pub returns-in_err-size : goal.returns-in_err-size
returns-in_err-size g c =
    let wanting = err_from_is_err_and c.from_residual.result c.from_residual.ensures.1 in
    record {
      stripe = c.find_piece.ensures.continues.stripe;
      proceeds = continues_proceeds _ _ c.find_piece.ensures.continues;
      unharmed = inl c.find_piece.ensures.continues.between;
      adds = nothing_answered c.from_residual.result _ wanting.0 wanting.1;
      fetches = nothing_answered c.from_residual.result _ wanting.0 wanting.1;
      err = holds_anyway c.from_residual.result _ c.in_err-size.ensures.err;
      untouched = holds_anyway c.from_residual.result _ c.in_err-size.ensures.untouched;
      unit = omega (arith, c.find_piece.ensures.unit);
    }
