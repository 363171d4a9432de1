use Rattle.std.proofs.Common.{◌≡◌, sym, ◌∙◌, ap, subst, arith, true}
use Rattle.logged_disk.specs.Device.{TellsAll}
use Rattle.cyclone.specs.Cyclone.{HasBuffer, Seen}
use Rattle.cache_model.specs.Kept.{with_records}
use Rattle.stripe_pieces.specs.Copying.{AreCopyable, AreToldCopied, copied_of, told_of_pieces}
use Rattle.stripe_pieces.specs.Pieces.{kept_now, seen_now}
use Rattle.stripe_pieces.proofs.GoneOn.{adds_behind, begun_is, cursor_stays}
use Rattle.piece_answers.proofs.Uses.{still_uses}
use Rattle.stripe_pieces.proofs.pieces.Pieces.go_on.Goals as goal

pub tell-requires-clause-ready : goal.tell-requires-clause-ready
tell-requires-clause-ready g c = record { pieces = c.requires.ready.pieces; records = omega (arith, c.requires.ready.records); entries = omega arith }

pub begin-requires-clause-ready : goal.begin-requires-clause-ready
begin-requires-clause-ready g c = record {
  pieces = c.tell.ensures.pieces.held;
  records = omega (arith, c.tell.ensures.room, c.requires.ready.records);
  entries = omega arith;
}

pub begin-requires-clause-out : goal.begin-requires-clause-out
begin-requires-clause-out g c = record {
  next = c.requires.out.next
      ∙ sym (cursor_stays (kept_now c.args.self.now) (kept_now c.tell.new.self) (seen_now c.args.self.now) (seen_now c.tell.new.self) _ c.requires.ready.pieces
      c.tell.ensures.pieces.held c.tell.ensures.rest c.tell.ensures.adds);
  below = c.requires.out.below;
  written = subst HasBuffer (sym c.tell.ensures.rest.same) c.requires.out.written;
}

pub copy-requires-clause-ready : goal.copy-requires-clause-ready
copy-requires-clause-ready g c = record {
  pieces = c.begin.ensures.pieces.held;
  records = omega (arith, c.begin.ensures.uses.of_records, c.tell.ensures.room, c.requires.ready.records);
  entries = omega (arith, c.begin.ensures.uses.of_entries, c.tell.ensures.rest.spare, c.requires.ready.entries);
}

pub copy-requires-clause-copied : goal.copy-requires-clause-copied
copy-requires-clause-copied g c =
    let a = c.args.ahead.now in
    subst (λ t. AreCopyable g.R.Directory.purges t 0 a.due.items a.fates.items a.bytes.items)
    (sym (begun_is (kept_now c.args.self.now) (kept_now c.tell.new.self) (seen_now c.args.self.now) (seen_now c.tell.new.self) (told_of_pieces true a.due.items a.fates.items)
    c.requires.ready.pieces c.tell.ensures.pieces.held c.tell.ensures.rest c.tell.ensures.adds (kept_now c.begin.new.self) c.begin.ensures.adds))
    c.requires.copied

pub returns : goal.returns
returns g c =
    let a = c.args.ahead.now in
    let k = kept_now c.args.self.now in
    let mid = kept_now c.tell.new.self in
    let begun = kept_now c.begin.new.self in
    let old = seen_now c.args.self.now in
    let seen = seen_now c.tell.new.self in
    let new = seen_now c.copy.new.self in
    let told = told_of_pieces true a.due.items a.fates.items in
    let tell = c.tell.ensures in
    let begins = begun_is k mid old seen told c.requires.ready.pieces tell.pieces.held tell.rest tell.adds begun c.begin.ensures.adds in
    let still = c.begin.ensures.still ∙ ap (λ (y : Seen). y.device) tell.rest.same in
    let copied = subst (λ t. kept_now c.copy.new.self
    ≡ with_records begun (copied_of t 0 a.due.items a.fates.items a.bytes.items)) begins c.copy.ensures.adds in
    record {
      pieces = record {
        held = c.copy.ensures.pieces.held;
        contents = λ contents said stands.
            c.copy.ensures.pieces.contents contents
            (λ tells. subst (λ t. AreToldCopied contents t 0 a.due.items a.fates.items a.bytes.items) (sym begins) (said (subst TellsAll still tells)))
            (c.begin.ensures.pieces.contents contents tt (tell.pieces.contents contents tt stands));
      };
      adds = adds_behind k mid old seen told c.requires.ready.pieces tell.pieces.held tell.rest tell.adds begun c.begin.ensures.adds (kept_now c.copy.new.self) _ copied;
      still = c.copy.ensures.still ∙ still;
      uses = still_uses _ _ _ _ old new (c.copy.ensures.uses.same ∙ (c.begin.ensures.uses.same ∙ ap (λ (y : Seen). y.geometry) tell.rest.same)) (c.copy.ensures.still ∙ still)
          (omega (arith, c.copy.ensures.uses.of_records, c.begin.ensures.uses.of_records, tell.room))
          (omega (arith, c.copy.ensures.uses.of_entries, c.begin.ensures.uses.of_entries, tell.rest.spare));
    }
