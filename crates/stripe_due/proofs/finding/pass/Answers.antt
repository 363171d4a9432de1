use Rattle.std.proofs.Common.{◌++◌, refl, ap}
use Rattle.cache_model.specs.Kept.{state_of}
use Rattle.stripe_due.proofs.Passing.{passes_found, passes_none}
use Rattle.stripe_due.proofs.finding.pass.Goals as goal

pub returns-in-Some-clause-due : goal.returns-in-Some-clause-due
returns-in-Some-clause-due g c = λ next below.
    let s = state_of (g.C.Chronicle.kept c.args.chronicle.now) in
    rw c.bring.ensures.brought
    (passes_found s c.args.now c.args.place next c.args.into.now.items c.in-Some.piece c.in-Some.pin c.is_due-due.result _
    c.requires.sound c.requires.live below refl c.in-Some.ensures (c.is_due-due.ensures s c.requires.actors))

pub returns-in-None-clause-due : goal.returns-in-None-clause-due
returns-in-None-clause-due g c = λ next below.
    let s = state_of (g.C.Chronicle.kept c.args.chronicle.now) in
    ap (λ rows. c.args.into.now.items ++ rows) (passes_none s c.args.now c.args.place next c.requires.sound c.requires.live c.in-None.ensures)
