use Rattle.std.proofs.Common.{◌+◌, ap, arith, length}
use Rattle.cyclone.specs.Cyclone.{seen_cyclone}
use Rattle.dir_table.specs.Displacement.{Displacement, purge_of}
use Rattle.stripe_pieces.specs.Pieces.{kept_now, seen_now, state_now}
use Rattle.stripe_pieces.proofs.Fitting.{small_in_bytes}
use Rattle.stripe_pieces.proofs.Puts.{IsPutAs, IsToldOf, few_displaced, put_adds, put_is_held, put_stands, put_uses}
use Rattle.stripe_pieces.proofs.pieces.Pieces.put.Goals as goal

pub overflow_cast-length : goal.overflow_cast-length
overflow_cast-length g c = let few = small_in_bytes (state_now c.args.self.now).geometry (length c.args.payload.now) c.requires.fits.new.small in omega (arith, few)

pub put-document-requires-clause-size : goal.put-document-requires-clause-size
put-document-requires-clause-size g c = small_in_bytes (state_now c.args.self.now).geometry (length c.args.payload.now) c.requires.fits.new.small

pub returns-clause-keeps : goal.returns-clause-keeps
returns-clause-keeps g c =
    let put_as : IsPutAs g.R.Directory.purges (seen_now c.args.self.now) (seen_cyclone c.put-document.new.self) c.args.doc.now c.args.payload.now c.args.digest c.put-document.result = record {
      put = c.put-document.ensures.put;
      turning = c.put-document.ensures.turns;
      slots = c.rows_fit.ensures;
      payload_is = c.requires.digest;
      document = c.put-document.ensures.document;
      again = c.put-document.ensures.again;
      size = c.put-document.ensures.size;
    } in
    let told_of : IsToldOf (kept_now c.args.self.now) (g.C.Chronicle.kept c.cut.new.chronicle) (g.C.Chronicle.kept c.displaced-2.new.chronicle) (g.C.Chronicle.kept c.placed.new.chronicle)
    (seen_cyclone c.put-document.new.self) c.args.doc.now c.args.payload.now c.args.digest c.put-document.result = record {
      told = c.displaced.result.now.told;
      told_is = c.displaced.ensures;
      blocks = c.blocks_of.result;
      blocks_are = c.blocks_of.ensures;
      cut_is = c.cut.ensures.kept;
      displaced_is = c.displaced-2.ensures.kept;
      placed_is = c.placed.ensures.kept;
    } in
    let purges = g.R.Directory.purges in
    let old = kept_now c.args.self.now in
    let cut = g.C.Chronicle.kept c.cut.new.chronicle in
    let displaced = g.C.Chronicle.kept c.displaced-2.new.chronicle in
    let last = g.C.Chronicle.kept c.placed.new.chronicle in
    let before = seen_now c.args.self.now in
    let after = seen_cyclone c.put-document.new.self in
    record {
      pieces = record {
        held = put_is_held purges old cut displaced last before after c.args.doc.now c.args.payload.now c.args.digest c.put-document.result c.requires.ready.pieces
            c.requires.fits.new c.requires.doc c.requires.fits.room put_as told_of;
        contents = λ contents said stands.
            put_stands purges old cut displaced last before after c.args.doc.now c.args.payload.now c.args.digest c.put-document.result c.requires.ready.pieces
            c.requires.fits.new c.requires.doc c.requires.fits.room put_as told_of contents (small_in_bytes (state_now c.args.self.now).geometry (length c.args.payload.now) c.requires.fits.new.small) said stands;
      };
      still = c.put-document.ensures.put.device;
      uses =
          let before = seen_now c.args.self.now in
          let after = seen_cyclone c.put-document.new.self in
          let few = few_displaced g.R.Directory.purges before after c.args.doc.now c.args.payload.now c.requires.ready.pieces.turning c.put-document.ensures.put in
          let told = ap (λ (x : Displacement). length x.places) c.displaced.ensures in
          put_uses g.R.Directory.purges before after c.args.doc.now c.args.payload.now (2 + purge_of before.geometry) (g.C.Chronicle.room c.args.self.now.chronicle)
          (g.C.Chronicle.room c.placed.new.chronicle) c.put-document.ensures.put (omega (arith, c.cut.ensures.room, c.displaced-2.ensures.room, c.placed.ensures.room, few, told));
    }

pub returns-clause-puts : goal.returns-clause-puts
returns-clause-puts g c =
    let put_as : IsPutAs g.R.Directory.purges (seen_now c.args.self.now) (seen_cyclone c.put-document.new.self) c.args.doc.now c.args.payload.now c.args.digest c.put-document.result = record {
      put = c.put-document.ensures.put;
      turning = c.put-document.ensures.turns;
      slots = c.rows_fit.ensures;
      payload_is = c.requires.digest;
      document = c.put-document.ensures.document;
      again = c.put-document.ensures.again;
      size = c.put-document.ensures.size;
    } in
    let told_of : IsToldOf (kept_now c.args.self.now) (g.C.Chronicle.kept c.cut.new.chronicle) (g.C.Chronicle.kept c.displaced-2.new.chronicle) (g.C.Chronicle.kept c.placed.new.chronicle)
    (seen_cyclone c.put-document.new.self) c.args.doc.now c.args.payload.now c.args.digest c.put-document.result = record {
      told = c.displaced.result.now.told;
      told_is = c.displaced.ensures;
      blocks = c.blocks_of.result;
      blocks_are = c.blocks_of.ensures;
      cut_is = c.cut.ensures.kept;
      displaced_is = c.displaced-2.ensures.kept;
      placed_is = c.placed.ensures.kept;
    } in
    put_adds g.R.Directory.purges (kept_now c.args.self.now) (g.C.Chronicle.kept c.cut.new.chronicle) (g.C.Chronicle.kept c.displaced-2.new.chronicle)
    (g.C.Chronicle.kept c.placed.new.chronicle) (seen_now c.args.self.now) (seen_cyclone c.put-document.new.self) c.args.doc.now c.args.payload.now c.args.digest
    c.put-document.result c.requires.ready.pieces c.requires.fits.new c.requires.doc c.requires.fits.room put_as told_of
