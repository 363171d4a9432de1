use Rattle.std.proofs.Common.{arith}
use Rattle.stripe_pieces.specs.Pieces.{kept_now, seen_now}
use Rattle.stripe_pieces.proofs.Telling.{all_told, nothing_told}
use Rattle.stripe_pieces.proofs.pieces.Pieces.tell.Goals as goal

pub loop-i-init : goal.loop-i-init
loop-i-init g c =
    nothing_told (kept_now c.args.self.now) (seen_now c.args.self.now) (g.C.Chronicle.room c.args.self.now.chronicle) c.args.done
    c.args.ahead.now.due.items c.args.ahead.now.fates.items c.requires.ready.pieces c.requires.told

pub returns : goal.returns
returns g c =
    let inv = c.loop-i.invariant in
    let all = all_told (kept_now c.args.self.now) (kept_now c.loop-i.self) (seen_now c.args.self.now) (seen_now c.loop-i.self)
    (g.C.Chronicle.room c.args.self.now.chronicle) (g.C.Chronicle.room c.loop-i.self.chronicle) c.args.done
    c.args.ahead.now.due.items c.args.ahead.now.fates.items c.loop-i.i inv (omega arith) in
    record {
      pieces = record { held = inv.held; contents = λ contents any stands. inv.contents contents stands };
      adds = all.0;
      rest = inv.same;
      room = all.1;
    }
