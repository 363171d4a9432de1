use Rattle.std.proofs.Common.{◌≡◌, ◌+◌, ◌<◌, ◌≤◌, List, refl, sym, ◌∙◌, ap, subst, arith, length, take}
use Rattle.std.specs.Prelude.{Some, slice_get}
use Rattle.tape_base.specs.Geometry.{budget_of}
use Rattle.cache_model.specs.Kept.{state_of}
use Rattle.cache_model.specs.State.{Row, State}
use Rattle.cache_model.specs.Due.{candidate_of, most_passed}
use Rattle.piece_answers.specs.Ahead.{IsMadeFor}
use Rattle.piece_answers.specs.Looks.{HasCandidateRows, HasCandidates, HasLookedAhead, IsNextToLook, LooksOn, MayBeCopied, blocks_kept}
use Rattle.stripe_pieces.specs.Pieces.{seen_now, state_now}
use Rattle.piece_answers.proofs.Kept.{IsNext, choice_there, next_row, tape_on, taken_on}
use Rattle.logged_disk.proofs.GoingOn.{asked_further, asked_nothing}
use Rattle.power_cuts.specs.Surviving.{LeaveCopies, NoneMade}
use Rattle.power_cuts.proofs.Surviving.{leave_further}
use Rattle.cyclone.specs.Cyclone.{Seen}
use Rattle.piece_answers.proofs.OneMore.{looked_more, looked_none}
use Rattle.stripe_pieces.proofs.pieces.Pieces.read_kept.Goals as goal

pub loop-i-init : goal.loop-i-init
loop-i-init g c =
    let s = state_now c.args.self.now in
    let before = seen_now c.args.self.now in
    record {
      pieces = c.requires.pieces;
      chronicle = refl;
      same = refl;
      asked = asked_nothing before.device;
      leaves = NoneMade;
      seen = λ j. refl;
      made = record { due = c.requires.candidates.ahead.due; kept = c.requires.candidates.ahead.kept; fates = omega (arith, c.requires.candidates.ahead.fates, c.clear.ensures.capacity); bytes = c.requires.candidates.ahead.bytes };
      due = refl;
      kept = refl;
      fates = ap length c.clear.ensures.items;
      at = refl;
      room = omega arith;
      looked = λ rows of. looked_none s before.device _ c.clear.ensures.items c.requires.pieces.faults;
    }

pub look_at-at-requires : goal.look_at-at-requires
look_at-at-requires g c =
    let s = state_now c.args.self.now in
    let inv = c.loop-i.invariant in
    let a = c.loop-i.ahead in
    let due = c.args.ahead.now.due.items in
    let within : c.loop-i.i < length due = omega (arith, c.loop-i-test.true, c.len-i-end.ensures) in
    let same : state_now c.loop-i.self ≡ s = ap (λ x. state_of (g.C.Chronicle.kept x)) inv.chronicle in
    let candidates : HasCandidates s a = record {
      ahead = inv.made;
      rows = subst (λ v. HasCandidateRows s v.items) (sym inv.due) c.requires.candidates.rows;
      few = subst (λ v. length v.items ≤ most_passed s.geometry) (sym inv.due) c.requires.candidates.few;
    } in
    let next : IsNextToLook s c.loop-i.i c.loop-i.at a = record {
      within = subst (λ v. c.loop-i.i < length v.items) (sym inv.due) within;
      fates = inv.fates;
      room = inv.room;
      choice = choice_there (budget_of s.geometry) (budget_of s.geometry) due a.due.items c.args.ahead.now.kept.items a.kept.items c.loop-i.i c.loop-i.at refl
          (ap (λ v. v.items) inv.due) (ap (λ v. v.items) inv.kept) c.requires.choice within inv.at;
    } in
    record {
      pieces = inv.pieces;
      candidates = subst (λ (t : State). HasCandidates t a) (sym same) candidates;
      next = subst (λ (t : State). IsNextToLook t c.loop-i.i c.loop-i.at a) (sym same) next;
    }

pub loop-i-preserved : goal.loop-i-preserved
loop-i-preserved g c =
    let s = state_now c.args.self.now in
    let inv = c.loop-i.invariant in
    let before = seen_now c.args.self.now in
    let mid = seen_now c.loop-i.self in
    let after = seen_now c.look_at-at.new.self in
    let due = c.args.ahead.now.due.items in
    let marks = c.args.ahead.now.kept.items in
    let e = c.look_at-at.ensures in
    let within : c.loop-i.i < length due = omega (arith, c.loop-i-test.true, c.len-i-end.ensures) in
    let same : state_now c.loop-i.self ≡ s = ap (λ x. state_of (g.C.Chronicle.kept x)) inv.chronicle in
    let looks : (rows : List Row) (n : IsNext s due rows c.loop-i.i)
    → LooksOn s mid.device after.device n.row c.loop-i.at c.look_at-at.result c.loop-i.ahead c.look_at-at.new.ahead = λ rows n.
    let there : slice_get c.loop-i.ahead.due.items c.loop-i.i ≡ Some (candidate_of n.row) = ap (λ v. slice_get v.items c.loop-i.i) inv.due ∙ n.at in
    subst (λ (t : State). MayBeCopied t n.row → LooksOn t mid.device after.device n.row c.loop-i.at c.look_at-at.result c.loop-i.ahead c.look_at-at.new.ahead) same (e.looks.looks n.row there) n.may in
    record {
      pieces = e.keeps.pieces;
      chronicle = e.keeps.chronicle ∙ inv.chronicle;
      same = tape_on before mid after inv.same e.keeps.same;
      asked = asked_further before.device mid.device after.device inv.asked e.keeps.asked;
      leaves = leave_further before.geometry before.device.past mid.device.past after.device.past inv.leaves
          (subst (λ h. LeaveCopies h mid.device.past after.device.past) (ap (λ (y : Seen). y.geometry) inv.same) e.keeps.leaves);
      seen = λ j. e.keeps.seen j ∙ inv.seen j;
      made = subst (λ (t : State). IsMadeFor t.geometry c.look_at-at.new.ahead) same e.made.ahead;
      due = e.made.due ∙ inv.due;
      kept = e.made.kept ∙ inv.kept;
      fates = e.looks.fates;
      at = taken_on due marks c.loop-i.i c.loop-i.at c.look_at-at.result within (omega (arith, c.requires.candidates.few, c.requires.candidates.ahead.kept)) inv.at
          (e.looks.taken ∙ (ap (λ v. c.loop-i.at + blocks_kept v.items c.loop-i.ahead.kept.items c.loop-i.i) inv.due ∙ ap (λ v. c.loop-i.at + blocks_kept due v.items c.loop-i.i) inv.kept));
      room = subst (λ (t : State). c.look_at-at.result ≤ budget_of t.geometry) same e.looks.room;
      looked = λ rows of.
          let n = next_row s due rows c.loop-i.i of within in
          subst (λ xs. HasLookedAhead s before.device after.device xs c.look_at-at.result c.look_at-at.new.ahead) (sym n.next)
          (looked_more s before.device mid.device after.device (take c.loop-i.i rows) n.row c.loop-i.at c.look_at-at.result c.loop-i.ahead c.look_at-at.new.ahead e.keeps.asked
          inv.seen (inv.looked rows of) (looks rows n));
    }

pub returns-clause-keeps : goal.returns-clause-keeps
returns-clause-keeps g c =
    let inv = c.loop-i.invariant in
    record { pieces = inv.pieces; chronicle = inv.chronicle; same = inv.same; asked = inv.asked; leaves = inv.leaves; seen = inv.seen }

pub returns-clause-made : goal.returns-clause-made
returns-clause-made g c = let inv = c.loop-i.invariant in record { ahead = inv.made; due = inv.due; kept = inv.kept }
