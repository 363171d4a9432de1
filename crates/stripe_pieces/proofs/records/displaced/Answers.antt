use Rattle.std.proofs.Common.{◌+◌, subst, sym}
use Rattle.stripe_pieces.proofs.Pushing.{HasPushed, none_pushed, one_pushed}
use Rattle.stripe_pieces.proofs.records.displaced.Goals as goal
use Rattle.stripe_pieces.proofs.records.displaced.Goals.{in-Some, in_default}

pub loop-i-preserved : goal.loop-i-preserved
loop-i-preserved g c =
    let kept = g.C.Chronicle.kept in
    let old = kept c.args.chronicle.now in
    let now = kept c.loop-i.chronicle in
    let d = c.args.displaced.now.told in
    let room = g.C.Chronicle.room c.args.chronicle.now in
    let left = g.C.Chronicle.room c.loop-i.chronicle in
    let i = c.loop-i.i in
    elim c.match-last_at.branch [
      | in-Some w ↦ subst (λ x. HasPushed old (kept x) d room (g.C.Chronicle.room x) (i + 1)) (sym w.chronicle-is)
          (one_pushed old now d room left i c.place.result c.last_at.result c.loop-i.invariant c.place.ensures c.last_at.ensures
          (kept w.push.new.self) w.in-Some.piece w.segment.result w.live.result (g.C.Chronicle.room w.push.new.self)
          w.in-Some.is w.segment.ensures w.live.ensures w.push.ensures.kept w.push.ensures.room)
      | in_default w ↦ subst (λ x. HasPushed old (kept x) d room (g.C.Chronicle.room x) (i + 1)) (sym w.chronicle-is)
          (none_pushed old now d room left i c.place.result c.last_at.result c.loop-i.invariant c.place.ensures c.last_at.ensures w.in_default.is)
    ]
