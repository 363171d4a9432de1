use Rattle.std.proofs.Common.{rules, ◌≡◌, false, [], ◌∷◌, length, map, vec_len, arith}
use Rattle.std.proofs.lemmas.List.{length-map}
use Rattle.shared_steps.specs.declared.shared.StepRecord.TheVariants.{Began}
use Rattle.work_script.specs.Turns.{AreSaid}
use Rattle.work_script.proofs.Taking.{are_under, are_workers, takes_turns}
use Rattle.work_script.proofs.jobs.do_jobs.Goals as goal

pub returns-else-not-are_said-clause-takes : goal.returns-else-not-are_said-clause-takes
returns-else-not-are_said-clause-takes g c =
    let rows = c.in-Ok.field-0.rows.items in
    let said : AreSaid rows = search rules in
    takes_turns g.C.Calls rows (record { session = c.args.session }) c.in-Ok.field-0.state said c.in-Ok.ensures.goes

pub returns-else-not-are_said-clause-order : goal.returns-else-not-are_said-clause-order
returns-else-not-are_said-clause-order g c =
    let rows = c.in-Ok.field-0.rows.items in
    let said : AreSaid rows = search rules in
    let all : c.in-Ok.field-0.short ≡ false = search rules in
    are_under g.C.Calls (Began (record { session = c.args.session }) ∷ []) rows (map (λ js. js.items) c.args.lanes.items) c.in-Ok.field-0.short all said c.in-Ok.ensures.order

pub returns-else-not-are_said-clause-workers : goal.returns-else-not-are_said-clause-workers
returns-else-not-are_said-clause-workers g c =
    let rows = c.in-Ok.field-0.rows.items in
    let jobs = map (λ js. js.items) c.args.lanes.items in
    let said : AreSaid rows = search rules in
    let each : vec_len c.args.lanes ≡ length c.args.lanes.items = search rules in
    let many : vec_len c.args.lanes ≡ length jobs = omega (arith, each, length-map c.args.lanes.items (λ js. js.items)) in
    are_workers g.C.Calls (Began (record { session = c.args.session }) ∷ []) rows jobs c.in-Ok.field-0.short (vec_len c.args.lanes) many said c.in-Ok.ensures.order
