use Rattle.std.proofs.Common.{rules, ◌≡◌, ◌+◌, ◌++◌, length, take, drop, sym, subst, ap, ◌∙◌, arith}
use Rattle.std.proofs.Math.Seq.{take-append_seam}
use Rattle.device_reads.specs.Reads.{Fails}
use Rattle.device_reads.proofs.Telling.{wants_none}
use Rattle.device_opening.proofs.Answering.{err_as}
use Rattle.device_opening.proofs.WindowReads.{tail_read}
use Rattle.device_opening.proofs.window.read_on.Goals as goal

pub returns-in_err-resize-clause-fails : goal.returns-in_err-resize-clause-fails
returns-in_err-resize-clause-fails g c =
    let s = g.D.Disk.state c.args.disk.now in
    let at = c.args.at in
    let top = at + c.args.blocks in
    err_as c.from_residual.result (Fails at top 1 s s) c.from_residual.ensures.1
    (λ y is. subst (Fails at top 1 s s) (sym is) (wants_none at top 1 s c.in_err-resize.field-0.0 (omega arith)))

pub returns-clause-reads : goal.returns-clause-reads
returns-clause-reads g c =
    let s = g.D.Disk.state c.args.disk.now in
    let t = g.D.Disk.state c.read_behind.new.disk in
    let new = c.read_behind.new.bytes in
    let old = c.resize.new.self.items in
    let len : length new ≡ c.resize.new.self.len = search rules in
    let all : new ≡ take c.resize.new.self.len (new ++ drop (length new) old) =
    sym (ap (λ k. take k (new ++ drop (length new) old)) (sym len) ∙ take-append_seam new (drop (length new) old)) in
    tail_read c.read_behind.result s t c.args.at _ c.args.blocks c.len-kept.result (length c.args.bytes.now.items) new _ (search rules) (search rules) all c.read_behind.ensures.reads
