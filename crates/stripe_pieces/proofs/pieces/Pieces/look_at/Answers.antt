use Rattle.std.proofs.Common.{◌≡◌, ◌+◌, ◌*◌, ◌<◌, ◌≤◌, refl, sym, ◌∙◌, ap, arith, length}
use Rattle.std.specs.Prelude.{Some, slice_get}
use Rattle.std.proofs.lemmas.List.{length-append}
use Rattle.tape_base.specs.Geometry.{budget_of}
use Rattle.cache_model.specs.Due.{candidate_of}
use Rattle.stripe_pieces.specs.Pieces.{seen_now, state_now}
use Rattle.stripe_pieces.proofs.Adding.{reads_nothing}
use Rattle.piece_answers.proofs.Noting.{kept_fits, kept_taken, left_out, none_taken, notes_none, notes_read, read_at, row_of_candidate, vector_written}
use Rattle.stripe_pieces.proofs.pieces.Pieces.look_at.Goals as goal

pub slice_bounds-read_ahead-end : goal.slice_bounds-read_ahead-end
slice_bounds-read_ahead-end g c =
    let d = c.index-candidate.result.now in
    let due = c.args.ahead.now.due.items in
    let budget = budget_of (state_now c.args.self.now).geometry in
    let here : slice_get due c.args.i ≡ Some d = read_at due c.args.i d c.requires.next.within c.index-candidate.ensures in
    let fits : c.args.at + d.blocks ≤ budget =
    kept_fits due c.args.ahead.now.kept.items c.args.i c.args.at budget d c.index.result.now here c.index.ensures c.if-not-index.false c.requires.next.choice in
    omega (arith, fits, c.requires.candidates.ahead.bytes)

pub read_ahead-fate-requires-clause-row : goal.read_ahead-fate-requires-clause-row
read_ahead-fate-requires-clause-row g c =
    let d = c.index-candidate.result.now in
    let due = c.args.ahead.now.due.items in
    row_of_candidate (state_now c.args.self.now) due c.args.i d c.requires.candidates.rows (read_at due c.args.i d c.requires.next.within c.index-candidate.ensures)

pub returns-clause-keeps : goal.returns-clause-keeps
returns-clause-keeps g c = c.read_ahead-fate.ensures.keeps

pub returns-then-not-index-clause-keeps : goal.returns-then-not-index-clause-keeps
returns-then-not-index-clause-keeps g c = reads_nothing c.args.self.now c.requires.pieces

pub returns-clause-looks : goal.returns-clause-looks
returns-clause-looks g c =
    let s = state_now c.args.self.now in
    let d = c.index-candidate.result.now in
    let due = c.args.ahead.now.due.items in
    let here : slice_get due c.args.i ≡ Some d = read_at due c.args.i d c.requires.next.within c.index-candidate.ensures in
    record {
      fates = let e = ap length (rw c.unwrap-2.ensures at c.push-2.ensures.items) in omega (arith, simp length-append at e, c.requires.next.fates);
      taken =
          let marked : c.args.i < length c.args.ahead.now.kept.items = omega (arith, c.requires.next.within, c.requires.candidates.few, c.requires.candidates.ahead.kept) in
          ap (λ n. c.args.at + n) (sym (kept_taken due c.args.ahead.now.kept.items c.args.i d c.index.result.now here marked c.index.ensures c.if-not-index.false));
      room = kept_fits due c.args.ahead.now.kept.items c.args.i c.args.at (budget_of s.geometry) d c.index.result.now here c.index.ensures c.if-not-index.false c.requires.next.choice;
      looks = λ row at may.
          let memory = c.args.ahead.now.bytes.items in
          let both : Some d ≡ Some (candidate_of row) = sym here ∙ at in
          let is : d ≡ candidate_of row = cc in
          let fits : c.args.at + d.blocks ≤ budget_of s.geometry =
          kept_fits due c.args.ahead.now.kept.items c.args.i c.args.at (budget_of s.geometry) d c.index.result.now here c.index.ensures c.if-not-index.false c.requires.next.choice in
          let long : 512 * (c.args.at + d.blocks) ≤ length memory = omega (arith, fits, c.requires.candidates.ahead.bytes) in
          let written = vector_written c.args.ahead.now.bytes c.deref_mut.result.now c.read_ahead-fate.new.into c.args.at d.blocks c.deref_mut.ensures.value long c.read_ahead-fate.auto.into in
          notes_read s (seen_now c.args.self.now).device (seen_now c.read_ahead-fate.new.self).device d row c.args.at c.read_ahead-fate.result c.args.ahead.now _
          c.read_ahead-fate.new.into is fits (c.read_ahead-fate.ensures.comes row is may) (rw c.unwrap-2.ensures at c.push-2.ensures.items) written;
    }

pub returns-then-not-index-clause-looks : goal.returns-then-not-index-clause-looks
returns-then-not-index-clause-looks g c =
    record {
      fates = let e = ap length (rw c.unwrap.ensures at c.push.ensures.items) in omega (arith, simp length-append at e, c.requires.next.fates);
      taken =
          let marked : c.args.i < length c.args.ahead.now.kept.items = omega (arith, c.requires.next.within, c.requires.candidates.few, c.requires.candidates.ahead.kept) in
          omega (arith, none_taken c.args.ahead.now.due.items c.args.ahead.now.kept.items c.args.i c.index.result.now marked c.index.ensures c.if-not-index.true);
      room = c.requires.next.room;
      looks = λ row at may.
          let s = state_now c.args.self.now in
          notes_none s (seen_now c.args.self.now).device row c.args.at c.args.ahead.now _ c.requires.next.room
          (left_out c.args.ahead.now.due.items c.args.ahead.now.kept.items c.args.i c.args.at (budget_of s.geometry) (candidate_of row) c.index.result.now at c.index.ensures c.if-not-index.true c.requires.next.choice)
          (rw c.unwrap.ensures at c.push.ensures.items) refl;
    }
