use Rattle.std.proofs.Common.{rules, ◌≡◌, ◌<◌, length, map, vec_len, arith, false, ◌∙◌}
use Rattle.std.proofs.lemmas.List.{length-map}
use Rattle.lock_workers.specs.declared.worker.Worker.{Worker}
use Rattle.lock_workers.proofs.Hiring.{hired_more, next_part, passes_left, removed_drop}
use Rattle.lock_workers.proofs.all.hire.Goals as goal

pub loop-preserved : goal.loop-preserved
loop-preserved g c =
    let i = c.loop.invariant in
    let jobs = map (λ js. js.items) c.args.jobs.items in
    let below : c.loop.counter < vec_len c.args.jobs = search rules in
    let many : length c.args.jobs.items ≡ vec_len c.args.jobs = search rules in
    let within : c.loop.counter < length jobs = omega (arith, length-map c.args.jobs.items (λ js. js.items)) in
    let counted : length c.loop.workers.items ≡ c.loop.counter = search rules in
    let w : Worker _ _ = record { pass = c.remove.result; jobs = c.remove-in-loop.result; short = false } in
    record {
      jobs = c.remove-in-loop.ensures.items ∙ removed_drop c.loop.counter c.args.jobs.items c.loop.jobs.items i.jobs;
      jobs_left = search rules;
      passes_left = search rules;
      workers = search rules;
      room = search rules;
      hired = λ lock chronicle floor is. let h = i.hired lock chronicle floor is in (
        c.remove.ensures.items ∙ passes_left lock chronicle floor (vec_len c.args.jobs) c.loop.counter c.loop.passes.items jobs c.loop.workers.items w below h.0,
        rw c.push_reserved.ensures.items
            (hired_more lock chronicle floor (vec_len c.args.jobs) c.loop.counter c.loop.passes.items jobs c.loop.workers.items w below h.0 within c.remove.ensures.value
            (next_part (λ js. js.items) c.loop.counter c.args.jobs.items c.loop.jobs.items c.remove-in-loop.result i.jobs c.remove-in-loop.ensures.value) counted h.1),
      );
    }
