use Rattle.std.proofs.Common.{◌-◌, ◌≤◌, arith, take, take-add, drop, length, length-drop}
use Rattle.std.proofs.lemmas.List.{take_rest}
use Rattle.std.proofs.KnownBytes.{Appends-trans}
use Rattle.edge_io.proofs.streams.write_out.Goals as goal

pub loop-at-preserved : goal.loop-at-preserved
loop-at-preserved g c =
    let bytes = c.args.bytes.now in
    let at = c.loop-at.at in
    let n = c.in-Ok.count in
    let contents = g.W.Write.contents in
    let so_far = c.loop-at.invariant in
    let wrote = rw take_rest at (c.in-Ok.ensures.bytes) in
    let within = rw take_rest at (c.in-Ok.ensures.some.1) in
    let fits : n ≤ length bytes - at = rw length-drop at within in (
      rw take-add (Appends-trans (contents c.args.inner.now) (contents c.loop-at.inner) (contents c.write_some.new.inner) (take at bytes) (take n (drop at bytes)) so_far.0 wrote),
      omega arith,
    )
