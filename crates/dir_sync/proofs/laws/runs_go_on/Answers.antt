use Rattle.std.proofs.Common.{inl, refl, sym, subst, Bool, List}
use Rattle.device_log.specs.Image.{Image}
use Rattle.device_log.specs.Calls.{Call}
use Rattle.stripe_header.proofs.CopyLaws.{again}
use Rattle.dir_sync.specs.Moments.{Stands}
use Rattle.dir_sync.specs.Runs.{directory_in}
use Rattle.dir_sync.proofs.Others.{others_spare}
use Rattle.dir_sync.proofs.laws.runs_go_on.Goals as goal

pub returns-clause-others : goal.returns-clause-others
returns-clause-others c run before after calls settled first past off stands =
    let a = run.area in
    let side = run.side in
    let body = run.body in
    let p = run.progress in
    subst (λ (b : Bool). Stands a side body p b after.first after.past) (sym settled)
    (subst (λ (i : Image). Stands a side body p before.settled i after.past) (sym first)
    (subst (λ (l : List Call). Stands a side body p before.settled before.first l) (sym past)
    (others_spare before.settled before.first a side body p calls before.past off stands)))

pub returns-clause-accepted : goal.returns-clause-accepted
returns-clause-accepted c a side s bytes gate run may begun opened =
    again a.geometry gate run.body 2 s (directory_in bytes) opened
    (record { says = may; of_version = inl refl; spelled = begun.spelled })
