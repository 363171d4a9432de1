use Rattle.std.proofs.Common.{◌≤◌}
use Rattle.std.specs.Prelude.{⊤}
use Rattle.inspections.specs.Check.{SaysOpening}
use Rattle.inspections.specs.Inspect.{Says}
use Rattle.edge_io.proofs.Draws.{draws_nothing}
use Rattle.run_script.proofs.Inspecting.{can_be, none_failed}
use Rattle.run_script.proofs.words.run_command.Goals as goal

pub returns-in-Some-Help-clause-source : goal.returns-in-Some-Help-clause-source
returns-in-Some-Help-clause-source g c = draws_nothing g.S.Source.reads g.S.Source.left c.args.source.now

pub returns-in-Some-Version-clause-source : goal.returns-in-Some-Version-clause-source
returns-in-Some-Version-clause-source g c = draws_nothing g.S.Source.reads g.S.Source.left c.args.source.now

pub returns-in-Some-Inspect-clause-source : goal.returns-in-Some-Inspect-clause-source
returns-in-Some-Inspect-clause-source g c = draws_nothing g.S.Source.reads g.S.Source.left c.args.source.now

pub returns-in-Some-Work-clause-source : goal.returns-in-Some-Work-clause-source
returns-in-Some-Work-clause-source g c = draws_nothing g.S.Source.reads g.S.Source.left c.args.source.now

pub returns-in-Some-Inspect-clause-reads : goal.returns-in-Some-Inspect-clause-reads
returns-in-Some-Inspect-clause-reads g c =
    none_failed (g.S.Source.reads c.args.source.now) c.inspect_named.result (can_be Says (λ n. n ≤ 4) _ _ _ _ _ _ c.inspect_named.result c.inspect_named.ensures.concludes)

pub returns-in-Some-Check-clause-source : goal.returns-in-Some-Check-clause-source
returns-in-Some-Check-clause-source g c = draws_nothing g.S.Source.reads g.S.Source.left c.args.source.now

pub returns-in-Some-Check-clause-reads : goal.returns-in-Some-Check-clause-reads
returns-in-Some-Check-clause-reads g c =
    none_failed (g.S.Source.reads c.args.source.now) c.check_named.result (can_be SaysOpening (λ n. ⊤) _ _ _ _ _ _ c.check_named.result c.check_named.ensures.concludes)
