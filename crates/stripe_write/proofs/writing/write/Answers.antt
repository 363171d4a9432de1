use Rattle.std.proofs.Common.{◌≡◌, ◌<◌, length, true, refl, sym, ◌∙◌, arith}
use Rattle.cache_model.specs.Legal.{is_writing}
use Rattle.stripe_core.specs.Stripe.{kept_in, state_in}
use Rattle.stripe_core.proofs.Continuing.{rests_same, rests_with}
use Rattle.stripe_core.proofs.Stills.{still_as}
use Rattle.stripe_write.proofs.CallsRefused.{write_over}
use Rattle.stripe_write.proofs.Gathering.{left_none, none_taken, same_as, writes_few, writes_none}
use Rattle.stripe_write.proofs.writing.write.Goals as goal

pub returns-then-not-is_open : goal.returns-then-not-is_open
returns-then-not-is_open g c = record {
  rests = rests_with _ _ _ (rests_same c.args.stripe.now c.requires.resting);
  writes = sym c.is_open.ensures ∙ c.if-not-is_open.true;
  number = tt;
  does = writes_none c.args.now (kept_in c.args.stripe.now) (kept_in c.args.stripe.now) _ _ c.args.writer.now c.args.bytes.now _ refl refl;
  writer = c.requires.writer;
  gathers = tt;
  same = same_as c.args.writer.now;
  untouched = still_as _ _ refl;
}

pub returns-then-writer : goal.returns-then-writer
returns-then-writer g c = record {
  rests = rests_with _ _ _ (rests_same c.args.stripe.now c.requires.resting);
  writes = (sym c.is_open.ensures ∙ c.if-not-is_open.false, c.if-writer.true);
  number = tt;
  does = writes_none c.args.now (kept_in c.args.stripe.now) (kept_in c.args.stripe.now) _ _ c.args.writer.now c.args.bytes.now _ refl refl;
  writer = c.requires.writer;
  gathers = tt;
  same = same_as c.args.writer.now;
  untouched = still_as _ _ refl;
}

-- nothing is told where nothing was cut
pub returns-then-is_empty : goal.returns-then-is_empty
returns-then-is_empty g c =
    let s = state_in c.args.stripe.now in
    let w = c.args.writer.now in
    let open_now : is_writing s w.put ≡ true = sym c.is_open.ensures ∙ c.if-not-is_open.false in
    let none : length c.args.bytes.now ≡ 0 = grind (arith, c.is_empty.ensures, c.if-is_empty.true) in
    record {
      rests = rests_with _ _ _ (rests_same c.args.stripe.now c.requires.resting);
      writes = ((open_now, c.if-writer.false), omega (arith, none), λ some. absurd (omega (arith, some, none)));
      number = tt;
      does =
          writes_few c.args.now (kept_in c.args.stripe.now) (kept_in c.args.stripe.now) _ _ w c.args.bytes.now 0 refl
          (none_taken s w open_now c.requires.writer);
      writer = c.requires.writer;
      gathers = record { put = refl; gathered = left_none s w c.args.bytes.now open_now c.requires.writer; sealed = refl };
      same = tt;
      untouched = tt;
    }

pub overflow-requires-clause-writing : goal.overflow-requires-clause-writing
overflow-requires-clause-writing g c =
    record { resting = c.requires.resting; writer = c.requires.writer; is_open = sym c.is_open.ensures ∙ c.if-not-is_open.false }

pub returns-then-len-eq-MAX_FRAGMENTS : goal.returns-then-len-eq-MAX_FRAGMENTS
returns-then-len-eq-MAX_FRAGMENTS g c =
    let some : 0 < length c.args.bytes.now = grind (arith, c.is_empty.ensures, c.if-is_empty.false) in
    write_over c.args.now c.args.stripe.now c.overflow.new.stripe c.args.writer.now c.args.bytes.now c.overflow.result
    (record { resting = c.requires.resting; writer = c.requires.writer; is_open = sym c.is_open.ensures ∙ c.if-not-is_open.false })
    c.if-writer.false some (omega (arith, c.len.ensures.len, c.if-len-eq-MAX_FRAGMENTS.true)) c.overflow.ensures

pub take-requires-clause-writing : goal.take-requires-clause-writing
take-requires-clause-writing g c =
    record { resting = c.requires.resting; writer = c.requires.writer; is_open = sym c.is_open.ensures ∙ c.if-not-is_open.false }
