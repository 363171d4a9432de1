use Rattle.std.proofs.Common.{◌≡◌, ◌∙◌, ap, subst}
use Rattle.std.proofs.lemmas.Result.{err_from_is_err_and}
use Rattle.cache_model.specs.State.{last_match}
use Rattle.cache_model.specs.Kept.{Kept, state_of, with_records}
use Rattle.stripe_core.specs.Stripe.{kept_in, seen_in, state_in}
use Rattle.stripe_vectors.specs.declared.reading.KeyVector.TheVariants as vector
use Rattle.stripe_vectors.specs.Reading.{FindsVector, vector_adds}
use Rattle.stripe_vectors.proofs.Counting.{missed_counted}
use Rattle.stripe_read.specs.Lookups.{IsChosen, otherwise}
use Rattle.stripe_read.proofs.Looking.{absent_looks, absent_same, matched_adds, matched_looks, read_same, same_adds, trouble_adds, trouble_looks, unmatched_looks}
use Rattle.stripe_answers.proofs.Wanting.{holds_anyway, nothing_answered}
use Rattle.stripe_read.proofs.opening.look_up.Goals as goal

pub look_further-requires : goal.look_further-requires
look_further-requires g c = c.read_vector.ensures.continues.stripe

pub look_further-requires-in-None : goal.look_further-requires-in-None
look_further-requires-in-None g c = c.read_vector.ensures.continues.stripe

pub returns-in_err-why : goal.returns-in_err-why
returns-in_err-why g c =
    let wanting = err_from_is_err_and c.from_residual.result c.from_residual.ensures.1 in
    record {
      continues = c.read_vector.ensures.continues;
      adds = nothing_answered c.from_residual.result _ wanting.0 wanting.1;
      looks = nothing_answered c.from_residual.result _ wanting.0 wanting.1;
      follows = nothing_answered c.from_residual.result _ wanting.0 wanting.1;
      err = holds_anyway c.from_residual.result _ c.in_err-why.ensures.err;
      unwritten = c.read_vector.ensures.unwritten;
      unit = c.read_vector.ensures.unit;
    }

pub returns-in-Trouble : goal.returns-in-Trouble
returns-in-Trouble g c =
    let k = kept_in c.args.stripe.now in
    let k1 = kept_in c.read_vector.new.stripe in
    let s = state_in c.args.stripe.now in
    let key = c.args.key in
    let why = c.in-Trouble.why in
    let old = (seen_in c.args.stripe.now).device in
    let new = (seen_in c.read_vector.new.stripe).device in
    let finds : FindsVector s old new key (vector.Trouble why) =
    subst (FindsVector s old new key) c.in-Trouble.is c.in_ok-why.ensures.finds in
    let adds : k1 ≡ with_records k (vector_adds s key (vector.Trouble why)) =
    subst (λ a. k1 ≡ with_records k (vector_adds s key a)) c.in-Trouble.is c.in_ok-why.ensures.adds in
    record {
      continues = c.read_vector.ensures.continues;
      adds = adds ∙ ap (with_records k) (trouble_adds s key why);
      looks =
          trouble_looks s old new key c.args.request.now why
          (missed_counted k k1 old new key why adds c.read_vector.ensures.continues.stripe.pieces.faults finds) finds;
      follows = tt;
      err = tt;
      unwritten = c.read_vector.ensures.unwritten;
      unit = c.read_vector.ensures.unit;
    }

pub returns-in-Absent : goal.returns-in-Absent
returns-in-Absent g c =
    let k = kept_in c.args.stripe.now in
    let k1 = kept_in c.read_vector.new.stripe in
    let s = state_in c.args.stripe.now in
    let key = c.args.key in
    let request = c.args.request.now in
    let old = (seen_in c.args.stripe.now).device in
    let new = (seen_in c.read_vector.new.stripe).device in
    let found = c.look_further.result in
    let same = absent_same k k1 key (subst (λ a. k1 ≡ with_records k (vector_adds s key a)) c.in-Absent.is c.in_ok-why.ensures.adds) in
    let answer = c.look_further.ensures.answer ∙ ap (λ (x : Kept). otherwise (state_of x) key request) same in
    record {
      continues = c.read_vector.ensures.continues;
      adds = same_adds k k1 key request found same answer;
      looks =
          absent_looks s old new key request found answer (subst (FindsVector s old new key) c.in-Absent.is c.in_ok-why.ensures.finds);
      follows = c.look_further.ensures.follows;
      err = tt;
      unwritten = c.read_vector.ensures.unwritten;
      unit = c.read_vector.ensures.unit;
    }

pub returns-in_err-chosen-in-Read : goal.returns-in_err-chosen-in-Read
returns-in_err-chosen-in-Read g c =
    let k = kept_in c.args.stripe.now in
    let k1 = kept_in c.read_vector.new.stripe in
    let s = state_in c.args.stripe.now in
    let result = c.from_residual-in_err-chosen-in-Read.result in
    let wanting = err_from_is_err_and c.from_residual-in_err-chosen-in-Read.result c.from_residual-in_err-chosen-in-Read.ensures.1 in
    record {
      continues = c.read_vector.ensures.continues;
      adds = nothing_answered result _ wanting.0 wanting.1;
      looks = nothing_answered result _ wanting.0 wanting.1;
      follows = nothing_answered result _ wanting.0 wanting.1;
      err =
          holds_anyway result _
          (read_same k k1 c.args.key c.in-Read.list
          (subst (λ a. k1 ≡ with_records k (vector_adds s c.args.key a)) c.in-Read.is c.in_ok-why.ensures.adds));
      unwritten = c.read_vector.ensures.unwritten;
      unit = c.read_vector.ensures.unit;
    }

pub returns-in-Some : goal.returns-in-Some
returns-in-Some g c =
    let k = kept_in c.args.stripe.now in
    let k1 = kept_in c.read_vector.new.stripe in
    let s = state_in c.args.stripe.now in
    let key = c.args.key in
    let request = c.args.request.now in
    let old = (seen_in c.args.stripe.now).device in
    let new = (seen_in c.read_vector.new.stripe).device in
    let same =
    read_same k k1 key c.in-Read.list (subst (λ a. k1 ≡ with_records k (vector_adds s key a)) c.in-Read.is c.in_ok-why.ensures.adds) in
    record {
      continues = c.read_vector.ensures.continues;
      adds = matched_adds k k1 key c.in-Some.chosen.put same;
      looks =
          matched_looks s old new key request c.read_is_listed.ensures c.in-Some.chosen c.in-Read.list
          (subst (IsChosen (last_match request c.in-Read.list)) c.in-Some.is c.in_ok-chosen-in-Read.ensures)
          (subst (FindsVector s old new key) c.in-Read.is c.in_ok-why.ensures.finds);
      follows = tt;
      err = tt;
      unwritten = c.read_vector.ensures.unwritten;
      unit = c.read_vector.ensures.unit;
    }

pub returns : goal.returns
returns g c =
    let k = kept_in c.args.stripe.now in
    let k1 = kept_in c.read_vector.new.stripe in
    let s = state_in c.args.stripe.now in
    let key = c.args.key in
    let request = c.args.request.now in
    let old = (seen_in c.args.stripe.now).device in
    let new = (seen_in c.read_vector.new.stripe).device in
    let found = c.look_further-in-None.result in
    let same =
    read_same k k1 key c.in-Read.list (subst (λ a. k1 ≡ with_records k (vector_adds s key a)) c.in-Read.is c.in_ok-why.ensures.adds) in
    let answer = c.look_further-in-None.ensures.answer ∙ ap (λ (x : Kept). otherwise (state_of x) key request) same in
    record {
      continues = c.read_vector.ensures.continues;
      adds = same_adds k k1 key request found same answer;
      looks =
          unmatched_looks s old new key request c.read_is_listed.ensures found c.in-Read.list answer
          (subst (IsChosen (last_match request c.in-Read.list)) c.in-None.is c.in_ok-chosen-in-Read.ensures)
          (subst (FindsVector s old new key) c.in-Read.is c.in_ok-why.ensures.finds);
      follows = c.look_further-in-None.ensures.follows;
      err = tt;
      unwritten = c.read_vector.ensures.unwritten;
      unit = c.read_vector.ensures.unit;
    }
