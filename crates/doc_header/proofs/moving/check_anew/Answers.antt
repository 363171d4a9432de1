use Rattle.std.proofs.Common.{sym, arith}
use Rattle.std.proofs.lemmas.List.{length-take-le}
use Rattle.doc_header.proofs.moving.check_anew.Goals as goal

pub slice_bounds-digest-end-2 : goal.slice_bounds-digest-end-2
slice_bounds-digest-end-2 c = sym (length-take-le 112 c.args.bytes.now (omega (arith, c.requires)))
