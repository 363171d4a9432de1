use Rattle.std.proofs.Common.{◌≡◌, ◌+◌, [], ◌∷◌, ◌++◌, sym, ◌∙◌, ap, subst, length, refl, Ok, Err, arith}
use Rattle.std.specs.Prelude.{MatchBool}
use Rattle.std.proofs.lemmas.Result.{err_from_is_err_and}
use Rattle.hex.specs.Hex.{IsBytes}
use Rattle.tape_base.specs.declared.pieces.PieceId.{PieceId}
use Rattle.tape_base.specs.Digest.{digest_of}
use Rattle.fragment_table.specs.Table.{made_row}
use Rattle.cache_model.specs.Legal.{IsQuiet}
use Rattle.cache_model.specs.Contents.{Contents, IsToldAs, contents_of_vectors}
use Rattle.piece_answers.specs.declared.answer.Placed.{Placed}
use Rattle.piece_answers.specs.Place.{CutsAsAsked, IsFragmentOf, IsPlacing, IsVectorFor}
use Rattle.piece_answers.specs.Standing.{IsToldPlaced}
use Rattle.stripe_core.specs.Stripe.{AnswersOrWants, kept_in, seen_in, state_in}
use Rattle.stripe_core.proofs.Continuing.{continues_rests, continues_with_rests, rests_with}
use Rattle.stripe_core.proofs.Stills.{wanting_unstopped}
use Rattle.stripe_write.specs.Writes.{CutsNextInStripe, next_start}
use Rattle.stripe_write.proofs.Counted.{cut_counted}
use Rattle.stripe_write.proofs.Cutting.{cut_quiet, cut_stops, cut_writer, cuts_behind, next_no_vector, ready_fragment, rows_behind}
use Rattle.stripe_write.proofs.Gathering.{failed_leaves}
use Rattle.stripe_write.proofs.Spending.{state_behind}
use Rattle.stripe_write.proofs.ToldPieces.{continues_as, told_of_next}
use Rattle.stripe_write.proofs.writing.cut.Goals as goal
use Rattle.cache_calls.specs.Writers.{piece_cut_next}
use Rattle.cache_calls.specs.Standing.{IsToldNext}
use Rattle.stripe_write.specs.Writers.{written_as}

pub place_piece-requires-clause-placing : goal.place_piece-requires-clause-placing
place_piece-requires-clause-placing g c =
    let s = state_in c.args.stripe.now in
    let w = c.args.writer.now in
    let here : IsPlacing s (piece_cut_next (written_as w)) w.pin (next_start w) w.gathered.items =
    subst (λ b. MatchBool b (IsVectorFor s (piece_cut_next (written_as w)) (next_start w) w.gathered.items)
    (IsFragmentOf s (piece_cut_next (written_as w)) w.pin (next_start w) w.gathered.items)) (sym (next_no_vector w))
    (ready_fragment s w c.requires.resting.quiet c.requires.ready
    (subst IsBytes c.deref-payload.ensures.value (λ i. omega (arith, c.type_inv.payload i)))) in
    rw (c.len.ensures.len, c.total.ensures, c.deref-payload.ensures.value) here

-- of a fragment no vector is told
pub place_piece-requires-clause-spelled : goal.place_piece-requires-clause-spelled
place_piece-requires-clause-spelled g c =
    let s = state_in c.args.stripe.now in
    let w = c.args.writer.now in
    let told : IsToldAs contents_of_vectors s (piece_cut_next (written_as w)) (next_start w) w.gathered.items =
    told_of_next contents_of_vectors s (piece_cut_next (written_as w)) (next_start w) w.gathered.items (next_no_vector w) tt in
    λ tells. rw (c.len.ensures.len, c.total.ensures, c.deref-payload.ensures.value) told

pub returns : goal.returns
returns g c =
    let old = kept_in c.args.stripe.now in
    let new = kept_in c.place_piece.new.self in
    let s = state_in c.args.stripe.now in
    let w = c.args.writer.now in
    let cuts : CutsAsAsked g.R.Directory.purges c.args.now old new (seen_in c.args.stripe.now).device.past
    (seen_in c.place_piece.new.self).device (piece_cut_next (written_as w)) w.pin (next_start w) w.gathered.items (Ok c.in_ok-placed.placed) =
    cuts_behind w c.len.result c.total.result c.deref-payload.result.now c.len.ensures.len c.total.ensures c.deref-payload.ensures.value
    g.R.Directory.purges c.args.now old new (seen_in c.args.stripe.now).device.past (seen_in c.place_piece.new.self).device
    (Ok c.in_ok-placed.placed) c.in_ok-placed.ensures.does in
    let id : PieceId = record { first = w.key; put = w.put; index = c.len.result + 1 } in
    let told : (contents : Contents) → IsToldNext (written_as w) w.gathered.items contents
    → IsToldPlaced (seen_in c.place_piece.new.self).device s id c.total.result c.deref-payload.result.now contents = λ contents next tells.
    rw (c.len.ensures.len, c.total.ensures, c.deref-payload.ensures.value)
    (told_of_next contents s (piece_cut_next (written_as w)) (next_start w) w.gathered.items (next_no_vector w) next) in
    let rows : c.push-pushed.new.self.rows ≡ w.table.rows ++ made_row (length w.gathered.items) (digest_of w.gathered.items).0 ∷ [] =
    rows_behind c.push-pushed.result c.unwrap.result w.table.rows c.push-pushed.new.self.rows c.len-size.result
    c.in_ok-placed.placed.payload w.gathered.items c.unwrap.ensures c.push-pushed.ensures.ok
    (c.len-size.ensures ∙ (sym c.deref-payload.ensures.len ∙ ap length c.deref-payload.ensures.value)) cuts.shape.payload_is in
    record {
      rests =
          continues_with_rests _ _ _ (continues_as _ _ _ _ (λ contents tells next. told contents next) c.in_ok-placed.ensures.continues)
          (subst IsQuiet (sym (state_behind old new cuts.added cuts.adds))
          (cut_quiet s (piece_cut_next (written_as w)) w.pin (next_start w) w.gathered.items cuts.added c.in_ok-placed.placed (next_no_vector w) cuts.shape
          c.requires.resting.quiet));
      does = cuts;
      number = tt;
      writer =
          cut_writer s (state_in c.place_piece.new.self) w (record w { table = c.push-pushed.new.self; gathered = c.clear.new.self }) cuts.added c.in_ok-placed.placed c.requires.ready cuts.shape
          (state_behind old new cuts.added cuts.adds) refl refl refl refl refl refl c.clear.ensures.items rows;
      rest = record { put = refl; key = refl; request = refl; response = refl; pin = refl; sealed = refl };
      rows = rows;
      empty = c.clear.ensures.items;
      same = tt;
      untouched = tt;
      counts = tt;
      memory = λ units row. tt;
      unit = c.place_piece.ensures.unit;
    }

pub returns-in_err-placed : goal.returns-in_err-placed
returns-in_err-placed g c =
    let packed = g.R.Directory.purges in
    let old = kept_in c.args.stripe.now in
    let new = kept_in c.place_piece.new.self in
    let past = (seen_in c.args.stripe.now).device.past in
    let device = (seen_in c.place_piece.new.self).device in
    let w = c.args.writer.now in
    let why = c.in_err-placed.field-0.0 in
    let cuts : AnswersOrWants {X = Placed} (Err why)
    (CutsAsAsked packed c.args.now old new past device (piece_cut_next (written_as w)) w.pin (next_start w) w.gathered.items)
    (new ≡ old) =
    cuts_behind w c.len.result c.total.result c.deref-payload.result.now c.len.ensures.len c.total.ensures c.deref-payload.ensures.value
    packed c.args.now old new past device (Err why) c.in_err-placed.ensures.does in
    let refused = err_from_is_err_and c.from_residual.result c.from_residual.ensures.1 in
    subst (CutsNextInStripe packed c.args.now c.args.stripe.now c.place_piece.new.self w w) (sym (refused.1 ∙ ap Err refused.2)) (record {
      rests =
          rests_with _ _ _ (continues_rests _ _ c.in_err-placed.ensures.continues
          ((failed_leaves packed c.args.now old new past device (piece_cut_next (written_as w)) w.pin (next_start w) w.gathered.items why cuts).pending
          ∙ c.requires.resting.quiet));
      does = cuts;
      number = cut_stops packed c.args.now old new past device (piece_cut_next (written_as w)) w.pin (next_start w) w.gathered.items why cuts;
      writer = tt;
      rest = tt;
      rows = tt;
      empty = tt;
      same = refl;
      untouched = wanting_unstopped (Err why) _ _ _ c.in_err-placed.ensures.does c.in_err-placed.ensures.untouched;
      counts =
          cut_counted packed c.args.now old new past device (piece_cut_next (written_as w)) w.pin (next_start w) w.gathered.items (new ≡ old) (Err why) cuts;
      memory = λ units row. c.in_err-placed.ensures.memory units (λ kind. row);
      unit = c.place_piece.ensures.unit;
    })

pub place_piece-requires-clause-digest : goal.place_piece-requires-clause-digest
place_piece-requires-clause-digest g c = c.requires.digest ∙ ap digest_of (sym c.deref-payload.ensures.value)
