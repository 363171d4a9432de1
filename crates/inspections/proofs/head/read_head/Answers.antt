use Rattle.std.proofs.Common.{◌≡◌, ℕ, length, rules, sym, subst, ◌∙◌}
use Rattle.inspections.specs.Head.{HeadIs}
use Rattle.inspections.proofs.Answering.{head_as_read, none_there}
use Rattle.inspections.proofs.head.read_head.Goals as goal

pub returns-then-size-eq0-clause-head : goal.returns-then-size-eq0-clause-head
returns-then-size-eq0-clause-head g c = none_there (g.D.Disk.state c.args.disk.now) (sym c.blocks-size.ensures ∙ c.if-size-eq0.true)

pub returns-clause-head : goal.returns-clause-head
returns-clause-head g c =
    let block = c.read.new.into in
    let long : length block ≡ 512 = search rules in
    head_as_read (g.D.Disk.state c.args.disk.now) (g.D.Disk.state c.read.new.disk) block c.head_of.result (λ is. c.if-size-eq0.false (c.blocks-size.ensures ∙ is)) long (subst (λ (n : ℕ). HeadIs block n c.head_of.result) c.blocks-size.ensures c.head_of.ensures.is) c.in_ok-read.ensures.reads
