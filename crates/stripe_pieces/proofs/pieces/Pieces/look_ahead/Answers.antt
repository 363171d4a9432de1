use Rattle.std.proofs.lemmas.Grind.{common_steps}
use Rattle.std.proofs.Common.{◌≤◌, ◌∙◌, ap, arith, length}
use Rattle.cache_model.specs.Due.{due_pieces}
use Rattle.cache_model.specs.Due.{most_passed}
use Rattle.stripe_pieces.specs.Pieces.{seen_now, state_now}
use Rattle.piece_answers.proofs.Due.{due_are_few, due_in_order, due_rows, looks_by}
use Rattle.stripe_pieces.proofs.pieces.Pieces.look_ahead.Goals as goal

pub mark_kept-requires-clause-rising : goal.mark_kept-requires-clause-rising
mark_kept-requires-clause-rising g c =
    due_in_order (state_now c.args.self.now) c.args.now c.deref.result.now c.requires.pieces.sound (c.deref.ensures.value ∙ c.find_due.ensures.due)

pub mark_kept-requires-clause-few : goal.mark_kept-requires-clause-few
mark_kept-requires-clause-few g c =
    let s = state_now c.args.self.now in
    let few : length c.deref.result.now ≤ most_passed s.geometry = due_are_few s c.args.now c.deref.result.now c.requires.pieces.sound (c.deref.ensures.value ∙ c.find_due.ensures.due) in
    omega (arith, few, c.requires.ahead.kept, c.deref_mut.ensures.len)

pub read_kept-requires-clause-candidates : goal.read_kept-requires-clause-candidates
read_kept-requires-clause-candidates g c =
    let s = state_now c.args.self.now in
    let due = c.find_due.new.into.items in
    record {
      ahead = record {
        due = omega (arith, c.requires.ahead.due, c.find_due.ensures.room);
        kept = grind (arith, common_steps);
        fates = c.requires.ahead.fates;
        bytes = c.requires.ahead.bytes;
      };
      rows = record { rows = due_pieces s c.args.now; of = due_rows s c.args.now due c.requires.pieces.sound c.find_due.ensures.due };
      few = due_are_few s c.args.now due c.requires.pieces.sound c.find_due.ensures.due;
    }

pub returns-clause-keeps : goal.returns-clause-keeps
returns-clause-keeps g c =
    let keeps = c.read_kept.ensures.keeps in
    record { pieces = keeps.pieces; chronicle = keeps.chronicle; same = keeps.same; asked = keeps.asked; leaves = keeps.leaves; seen = keeps.seen }

pub returns-clause-ahead : goal.returns-clause-ahead
returns-clause-ahead g c = c.read_kept.ensures.made.ahead

pub returns-clause-looks : goal.returns-clause-looks
returns-clause-looks g c =
    let s = state_now c.args.self.now in
    let looked = c.read_kept.ensures.looked (due_pieces s c.args.now) (due_rows s c.args.now c.find_due.new.into.items c.requires.pieces.sound c.find_due.ensures.due) in
    looks_by c.args.now s (seen_now c.args.self.now).device (seen_now c.read_kept.new.self).device looked.0 c.read_kept.new.ahead c.requires.pieces.sound
    (ap (λ v. v.items) c.read_kept.ensures.made.due ∙ c.find_due.ensures.due) looked.1
