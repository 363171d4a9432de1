use Rattle.std.proofs.Common.{subst}
use Rattle.cache_calls.specs.Keeping.{state_at}
use Rattle.cache_calls.specs.Writers.{GivesUp}
use Rattle.cache_caller.proofs.Over.{gives_over, is_over}
use Rattle.cache_caller.proofs.give_up.Goals as goal

pub returns-in_default-2-clause-over : goal.returns-in_default-2-clause-over
returns-in_default-2-clause-over g c =
    let old = g.S.Calls.at c.args.cache.now in
    let new = g.S.Calls.at c.abort_write.new.self in
    let w = g.S.Calls.written c.args.writer.now in
    is_over (state_at new) w.put c.args.why (gives_over old new w c.in_default.field-0 (subst (GivesUp old new w) c.in_default.is c.abort_write.ensures.gives))
