use Rattle.std.proofs.Common.{List, [], ◌∷◌, Err, false, sym, ◌∙◌, ap, subst, refl}
use Rattle.std.proofs.lemmas.Result.{err_from_is_err_and}
use Rattle.cache_model.specs.declared.record.Rec.{Rec}
use Rattle.stripe_answers.specs.Acts.{write_opened_record}
use Rattle.stripe_core.specs.Stripe.{kept_in, state_in}
use Rattle.stripe_core.proofs.Continuing.{continues_rests, continues_still, rests_same}
use Rattle.stripe_write.specs.declared.writer.Writer.{Writer}
use Rattle.stripe_write.proofs.CallsRefused.{open_refused}
use Rattle.stripe_write.proofs.Ended.{new_writer}
use Rattle.stripe_write.proofs.Spending.{quiet_behind, state_behind}
use Rattle.stripe_write.proofs.writing.begin.Goals as goal
use Rattle.cache_calls.specs.Actors.{IsWriterOf}
use Rattle.stripe_write.specs.Writers.{written_as}

pub returns-in_err-kept_request : goal.returns-in_err-kept_request
returns-in_err-kept_request g c =
    let wanting = err_from_is_err_and c.from_residual.result c.from_residual.ensures.1 in
    open_refused c.args.stripe.now c.args.stripe.now c.args.actor c.args.key c.args.request c.args.response c.args.pin _
    c.from_residual.result (wanting.1 ∙ ap Err wanting.2) (rests_same c.args.stripe.now c.requires.resting) refl refl c.requires.number

pub returns-in_err-kept_response : goal.returns-in_err-kept_response
returns-in_err-kept_response g c =
    let wanting = err_from_is_err_and c.from_residual-in_err-kept_response.result c.from_residual-in_err-kept_response.ensures.1 in
    open_refused c.args.stripe.now c.args.stripe.now c.args.actor c.args.key c.args.request c.args.response c.args.pin _
    c.from_residual-in_err-kept_response.result (wanting.1 ∙ ap Err wanting.2) (rests_same c.args.stripe.now c.requires.resting) refl refl
    c.requires.number

pub returns-in_err-put : goal.returns-in_err-put
returns-in_err-put g c =
    let refused = err_from_is_err_and c.from_residual-in_err-put.result c.from_residual-in_err-put.ensures.1 in
    open_refused c.args.stripe.now c.start_put.new.self c.args.actor c.args.key c.args.request c.args.response c.args.pin _
    c.from_residual-in_err-put.result (refused.1 ∙ ap Err refused.2)
    (continues_still _ _ c.start_put.ensures.continues c.in_err-put.ensures.err c.requires.resting) c.in_err-put.ensures.err
    c.start_put.ensures.still c.in_err-put.ensures.does

pub returns : goal.returns
returns g c =
    let s = state_in c.args.stripe.now in
    let old = kept_in c.args.stripe.now in
    let new = kept_in c.start_put.new.self in
    let recs : List Rec = write_opened_record s c.args.actor c.args.key c.args.request c.args.response c.args.pin ∷ [] in
    let w : Writer = record {
      put = c.in_ok-put.put;
      key = c.args.key;
      request = c.in_ok-kept_request.kept_request;
      response = c.in_ok-kept_response.kept_response;
      pin = c.args.pin;
      gathered = c.new.result;
      table = c.new-2.result;
      sealed = false;
    } in
    record {
      rests = continues_rests _ _ c.start_put.ensures.continues
          (quiet_behind old new recs c.in_ok-put.ensures.adds c.requires.resting.quiet);
      adds = c.in_ok-put.ensures.adds;
      err = tt;
      does = c.in_ok-put.ensures.does;
      writer =
          subst (λ t. IsWriterOf t (written_as w)) (sym (state_behind old new recs c.in_ok-put.ensures.adds))
          (new_writer s c.args.actor c.args.key c.args.request c.args.response c.args.pin w c.in_ok-put.ensures.does.0 refl
          c.in_ok-kept_request.ensures.copy c.in_ok-kept_response.ensures.copy refl c.new-2.ensures c.new.ensures.items);
      empty = c.new.ensures.items;
      unsealed = refl;
      still = c.start_put.ensures.still;
    }
