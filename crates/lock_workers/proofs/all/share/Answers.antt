use Rattle.std.proofs.Common.{rules, ◌≡◌, ◌+◌, length, vec_len, ◌∙◌, arith}
use Rattle.std.proofs.lemmas.List.{length-map}
use Rattle.lock_workers.specs.Workers.{jobs_of}
use Rattle.lock_workers.proofs.Hiring.{all_gathered, may_begin, through_slice}
use Rattle.lock_workers.proofs.Joining.{is_shared, owned_length}
use Rattle.lock_workers.proofs.all.share.Goals as goal

pub all_work-requires-after_bounds : goal.all_work-requires-after_bounds
all_work-requires-after_bounds g c κs within =
    rw c.deref_mut.ensures.value (may_begin g.J.Job.number g.J.Job.fits c.args.lock.lock c.args.pass.chronicle 0 c.args.workers.items (jobs_of c.args.workers.items) c.requires.hired)

pub gather-short-requires-clause-each : goal.gather-short-requires-clause-each
gather-short-requires-clause-each g c =
    let many : c.args.workers.len ≡ length c.all_work.new.workers = search rules in
    rw (through_slice c.args.workers.len c.all_work.new.workers c.args.workers.items many)
    (λ k d l. (c.all_work.ensures.work k d (search rules)).lock_is)

pub unreachable-requires : goal.unreachable-requires
unreachable-requires g c =
    let olds = c.args.workers.items in
    let news = c.all_work.new.workers in
    let many : c.args.workers.len ≡ length news = search rules in
    let lengths : length news ≡ length olds = search rules in
    let all = all_gathered g.J.Job.number g.J.Job.fits c.args.lock.lock (vec_len c.args.workers) c.args.pass c.gather-short.new.pass olds news _ c.gather-short.result c.requires.lock c.requires.fresh.0 c.requires.fresh.1 c.requires.hired
    (rw (← c.deref_mut.ensures.value) c.all_work.ensures.work) lengths (through_slice c.args.workers.len news olds many) (c.gather-short.ensures.gathers _ _ _) in
    let owned = owned_length g.J.Job.number g.J.Job.fits g.T.KeptState c.args.lock.lock c.args.pass.chronicle (vec_len c.args.workers) (jobs_of olds) c.gather-short.new.pass c.gather-short.result all in
    let jobs : length (jobs_of olds) ≡ length olds = length-map olds (λ w. w.jobs.items) in
    let each : length olds ≡ vec_len c.args.workers = search rules in
    let seats : c.args.lock.seats ≡ vec_len c.args.workers + 1 = c.requires.seats in
    let full : length c.gather-short.new.pass.owned ≡ c.args.lock.seats = omega arith in
    search rules

pub returns-clause-shared : goal.returns-clause-shared
returns-clause-shared g c =
    let olds = c.args.workers.items in
    let news = c.all_work.new.workers in
    let many : c.args.workers.len ≡ length news = search rules in
    let lengths : length news ≡ length olds = search rules in
    let all = all_gathered g.J.Job.number g.J.Job.fits c.args.lock.lock (vec_len c.args.workers) c.args.pass c.gather-short.new.pass olds news _ c.gather-short.result c.requires.lock c.requires.fresh.0 c.requires.fresh.1 c.requires.hired
    (rw (← c.deref_mut.ensures.value) c.all_work.ensures.work) lengths (through_slice c.args.workers.len news olds many) (c.gather-short.ensures.gathers _ _ _) in
    rw (← all.chronicle_is) (is_shared g.J.Job.number g.J.Job.fits g.T.KeptState c.args.lock.lock c.args.pass.chronicle (vec_len c.args.workers) (jobs_of olds) c.gather-short.new.pass c.gather-short.result all c.in-Ok.state c.in-Ok.ensures.ends)

pub returns-clause-chronicle : goal.returns-clause-chronicle
returns-clause-chronicle g c =
    let olds = c.args.workers.items in
    let news = c.all_work.new.workers in
    let many : c.args.workers.len ≡ length news = search rules in
    let lengths : length news ≡ length olds = search rules in
    let all = all_gathered g.J.Job.number g.J.Job.fits c.args.lock.lock (vec_len c.args.workers) c.args.pass c.gather-short.new.pass olds news _ c.gather-short.result c.requires.lock c.requires.fresh.0 c.requires.fresh.1 c.requires.hired
    (rw (← c.deref_mut.ensures.value) c.all_work.ensures.work) lengths (through_slice c.args.workers.len news olds many) (c.gather-short.ensures.gathers _ _ _) in
    c.in-Ok.ensures.ends.chronicle ∙ all.chronicle_is
