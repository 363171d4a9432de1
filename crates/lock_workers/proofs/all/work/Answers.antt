use Rattle.std.proofs.Common.{rules, ◌≡◌, ◌+◌, [], List, length, map, vec_len, sym, ◌∙◌, ap, subst, arith}
use Rattle.stripe_lock.specs.Passes.{PassState, dealt}
use Rattle.lock_workers.specs.Workers.{AreHired, IsShared, jobs_of}
use Rattle.lock_workers.proofs.Hiring.{dealt_length, first_of, hired_jobs}
use Rattle.lock_workers.proofs.all.work.Goals as goal

pub hire-requires-clause-enough : goal.hire-requires-clause-enough
hire-requires-clause-enough g c =
    let chronicle = g.T.KeptState.chronicle c.args.state in
    let floor = g.T.KeptState.floor_of chronicle [] in
    let passes : c.in_ok-lock.passes.items ≡ dealt c.in_ok-lock.lock.lock chronicle floor 0 (vec_len c.args.jobs + 1) = search rules in
    let dealt_all = ap length passes ∙ dealt_length c.in_ok-lock.lock.lock chronicle floor 0 (vec_len c.args.jobs + 1) in
    let each : length c.in_ok-lock.passes.items ≡ vec_len c.in_ok-lock.passes = search rules in
    omega arith

pub share-requires-clause-hired : goal.share-requires-clause-hired
share-requires-clause-hired g c κs within =
    let chronicle = g.T.KeptState.chronicle c.args.state in
    let floor = g.T.KeptState.floor_of chronicle [] in
    let passes : c.in_ok-lock.passes.items ≡ dealt c.in_ok-lock.lock.lock chronicle floor 0 (vec_len c.args.jobs + 1) = search rules in
    let hired = c.hire.ensures.hired c.in_ok-lock.lock.lock chronicle floor passes in
    let jobs = hired_jobs c.in_ok-lock.lock.lock chronicle 0 c.hire.new.workers.items _ hired in
    let last = c.hire.ensures.last c.in_ok-lock.lock.lock chronicle floor passes in
    let pass = first_of _ c.remove-pass.result [] c.hire.new.passes.items last c.remove-pass.ensures.value in
    let same : c.remove-pass.result.chronicle ≡ chronicle = ap (λ (p : PassState _). p.chronicle) pass in
    subst (λ (l : List (List _)). AreHired c.in_ok-lock.lock.lock c.remove-pass.result.chronicle 0 c.hire.new.workers.items l) (sym jobs)
    (subst (λ (r : List _). AreHired c.in_ok-lock.lock.lock r 0 c.hire.new.workers.items (map (λ js. js.items) c.args.jobs.items)) (sym same) hired)

pub returns-clause-shared : goal.returns-clause-shared
returns-clause-shared g c =
    let chronicle = g.T.KeptState.chronicle c.args.state in
    let floor = g.T.KeptState.floor_of chronicle [] in
    let passes : c.in_ok-lock.passes.items ≡ dealt c.in_ok-lock.lock.lock chronicle floor 0 (vec_len c.args.jobs + 1) = search rules in
    let hired = c.hire.ensures.hired c.in_ok-lock.lock.lock chronicle floor passes in
    let jobs = hired_jobs c.in_ok-lock.lock.lock chronicle 0 c.hire.new.workers.items _ hired in
    let last = c.hire.ensures.last c.in_ok-lock.lock.lock chronicle floor passes in
    let pass = first_of _ c.remove-pass.result [] c.hire.new.passes.items last c.remove-pass.ensures.value in
    let same : c.remove-pass.result.chronicle ≡ chronicle = ap (λ (p : PassState _). p.chronicle) pass in
    subst (λ (l : List (List _)). IsShared g.J.Job.number g.J.Job.fits chronicle (g.T.KeptState.turns c.share.result.state) l c.share.result.short) jobs
    (subst (λ (r : List _). IsShared g.J.Job.number g.J.Job.fits r (g.T.KeptState.turns c.share.result.state) (jobs_of c.hire.new.workers.items) c.share.result.short) same c.share.ensures.shared)
