use Rattle.std.proofs.Common.{◌≡◌, ◌+◌, ◌<◌, arith, length}
use Rattle.stripe_pieces.specs.Copying.{blocks_for}
use Rattle.stripe_pieces.specs.Pieces.{kept_now, seen_now}
use Rattle.stripe_pieces.proofs.Copied.{all_copied, bytes_taken, copied_more, copies_left, nothing_copied, taken_twice}
use Rattle.piece_answers.proofs.Uses.{still_uses}
use Rattle.stripe_pieces.proofs.pieces.Pieces.copy.Goals as goal

pub loop-i-init : goal.loop-i-init
loop-i-init g c =
    nothing_copied g.R.Directory.purges (kept_now c.args.self.now) (seen_now c.args.self.now) (g.C.Chronicle.room c.args.self.now.chronicle)
    c.args.ahead.now.due.items c.args.ahead.now.fates.items c.args.ahead.now.bytes.items c.requires.ready.pieces c.requires.copied

pub copy_one-requires-clause-ready : goal.copy_one-requires-clause-ready
copy_one-requires-clause-ready g c =
    let inv = c.loop-i.invariant in
    let fs = c.args.ahead.now.fates.items in
    let within : c.loop-i.i < length fs = omega (arith, c.loop-i-test.true, c.len-i-end.ensures, inv.many) in
    let few = copies_left fs c.loop-i.i c.index-in-loop-i.result.now within c.index-in-loop-i.ensures in
    record {
      pieces = inv.held;
      records = omega (arith, few, inv.records, c.requires.ready.records);
      entries = omega (arith, few, inv.entries, c.requires.ready.entries);
    }

pub loop-i-preserved : goal.loop-i-preserved
loop-i-preserved g c =
    let inv = c.loop-i.invariant in
    let ahead = c.args.ahead.now in
    let room = g.C.Chronicle.room in
    let at = c.loop-i.at in
    let x = c.index-candidate.result.now in
    let f = c.index-in-loop-i.result.now in
    let within : c.loop-i.i < length ahead.due.items = omega (arith, c.loop-i-test.true, c.len-i-end.ensures) in
    let taken : c.taken_by.result ≡ blocks_for x f =
    taken_twice ahead.fates.items c.loop-i.i c.taken_by.result x f c.index.result.now (omega (arith, within, inv.many)) c.index-in-loop-i.ensures c.index.ensures c.taken_by.ensures in
    copied_more g.R.Directory.purges (kept_now c.args.self.now) (kept_now c.loop-i.self) (kept_now c.copy_one.new.self)
    (seen_now c.args.self.now) (seen_now c.loop-i.self) (seen_now c.copy_one.new.self)
    (room c.args.self.now.chronicle) (room c.loop-i.self.chronicle) (room c.copy_one.new.self.chronicle) ahead.due.items ahead.fates.items ahead.bytes.items
    c.loop-i.i at (at + c.taken_by.result) x f _ within c.index-candidate.ensures c.index-in-loop-i.ensures
    (bytes_taken at c.taken_by.result x f c.deref.result.now ahead.bytes.items taken c.deref.ensures.value) (omega (arith, taken)) inv
    c.copy_one.ensures.adds c.copy_one.ensures.uses c.copy_one.ensures.pieces.held c.copy_one.ensures.still c.copy_one.ensures.pieces.contents

pub returns : goal.returns
returns g c =
    let inv = c.loop-i.invariant in
    let ahead = c.args.ahead.now in
    let old = seen_now c.args.self.now in
    let new = seen_now c.loop-i.self in
    record {
      pieces = record { held = inv.held; contents = inv.contents };
      adds = all_copied g.R.Directory.purges (kept_now c.args.self.now) (kept_now c.loop-i.self) old new (g.C.Chronicle.room c.args.self.now.chronicle)
          (g.C.Chronicle.room c.loop-i.self.chronicle) ahead.due.items ahead.fates.items ahead.bytes.items c.loop-i.i c.loop-i.at inv (omega arith);
      still = inv.device;
      uses = still_uses _ _ _ _ old new inv.geometry inv.device (omega (arith, inv.records)) (omega (arith, inv.entries));
    }
