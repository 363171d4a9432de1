use Rattle.std.proofs.Common.{◌<◌, refl, ◌∙◌, ap, arith}
use Rattle.logged_disk.specs.Device.{DeviceState as Device}
use Rattle.cyclone.specs.Cyclone.{seen_cyclone}
use Rattle.stripe_pieces.specs.Pieces.{seen_now, state_now}
use Rattle.held_pieces.proofs.HeldBehindFaults.{read_spares}
use Rattle.held_pieces.proofs.Going.{device_may_change}
use Rattle.stripe_pieces.proofs.ReadAhead.{comes_of, comes_refused, has_blocks, is_stored, reads_row}
use Rattle.cyclone.proofs.Calls.{reads_ask, reads_same}
use Rattle.piece_answers.proofs.Leaving.{read_leaves}
use Rattle.stripe_pieces.proofs.pieces.Pieces.read_ahead.Goals as goal

pub load-requires : goal.load-requires
load-requires g c =
    let s = state_now c.args.self.now in
    let seen = seen_now c.args.self.now in
    let row = c.requires.row in
    record {
      turns = c.requires.pieces.turning;
      some = has_blocks s seen c.args.candidate row.row c.requires.pieces row.may row.is;
      within = omega (arith, c.requires.into);
      stored = is_stored s seen c.args.candidate row.row c.requires.pieces row.may row.is;
    }

pub compare-requires-clause-some : goal.compare-requires-clause-some
compare-requires-clause-some g c =
    let some : 0 < c.args.candidate.blocks =
    has_blocks (state_now c.args.self.now) (seen_now c.args.self.now) c.args.candidate c.requires.row.row c.requires.pieces c.requires.row.may c.requires.row.is in
    omega (arith, c.load.ensures.length, c.requires.into)

pub returns-in-Ok-clause-keeps : goal.returns-in-Ok-clause-keeps
returns-in-Ok-clause-keeps g c = record {
  pieces = device_may_change (state_now c.args.self.now) (seen_now c.args.self.now) (seen_cyclone c.load.new.cyclone) c.requires.pieces
      c.load.ensures.same c.load.ensures.turns (read_spares _ _ _ _ _ _ c.load.ensures.reads);
  chronicle = refl;
  same = c.load.ensures.same;
  asked = reads_ask _ _ _ _ _ _ c.load.ensures.reads;
  leaves = read_leaves _ _ _ _ _ _ c.load.ensures.reads;
  seen = reads_same _ _ _ _ _ _ c.load.ensures.reads;
}

pub returns-in-Ok-clause-comes : goal.returns-in-Ok-clause-comes
returns-in-Ok-clause-comes g c row is may =
    let before = seen_now c.args.self.now in
    let after = seen_cyclone c.load.new.cyclone in
    comes_of (state_now c.args.self.now) before after row c.load.new.into c.requires.pieces may c.compare.result
    (reads_row before after c.args.candidate row _ c.load.new.into is (c.load.ensures.length ∙ c.requires.into) c.in-Ok.ensures.reads) (c.compare.ensures row is may)

pub returns-in-Err-clause-keeps : goal.returns-in-Err-clause-keeps
returns-in-Err-clause-keeps g c = record {
  pieces = device_may_change (state_now c.args.self.now) (seen_now c.args.self.now) (seen_cyclone c.load.new.cyclone) c.requires.pieces
      c.load.ensures.same c.load.ensures.turns (read_spares _ _ _ _ _ _ c.load.ensures.reads);
  chronicle = refl;
  same = c.load.ensures.same;
  asked = reads_ask _ _ _ _ _ _ c.load.ensures.reads;
  leaves = read_leaves _ _ _ _ _ _ c.load.ensures.reads;
  seen = reads_same _ _ _ _ _ _ c.load.ensures.reads;
}

pub returns-in-Err-clause-comes : goal.returns-in-Err-clause-comes
returns-in-Err-clause-comes g c row is may =
    let before = seen_now c.args.self.now in
    let after = seen_cyclone c.load.new.cyclone in
    comes_refused (state_now c.args.self.now) before after row c.load.new.into c.requires.pieces may c.faults.result c.in-Err.field-0
    (reads_row before after c.args.candidate row _ c.load.new.into is (c.load.ensures.length ∙ c.requires.into) c.in-Err.ensures.reads)
    (c.faults.ensures ∙ ap (λ (d : Device). d.faults) c.disk.ensures)
