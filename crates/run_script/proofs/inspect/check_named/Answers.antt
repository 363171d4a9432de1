use Rattle.std.proofs.Common.{◌≡◌, ℕ, ◌≤◌, List, [], ◌∷◌, ap, ◌∙◌}
use Rattle.std.specs.Prelude.{⊤}
use Rattle.device_bay.specs.Calls.{BayCall, Gave, TookBack}
use Rattle.inspections.specs.Check.{SaysOpening}
use Rattle.run_script.proofs.Inspecting.{any_fail, any_read, inspected, inspected_order}
use Rattle.run_script.proofs.Steady.{steady_in_order}
use Rattle.run_script.proofs.inspect.check_named.Goals as goal

pub returns-clause-concludes : goal.returns-clause-concludes
returns-clause-concludes g c =
    let past = g.B.Bay.past c.args.bay.now in
    let fresh = g.B.Dev.Disk.state c.in-Ok.device in
    let device = g.B.Dev.Disk.state c.check-said.new.disk in
    let is : g.B.Bay.past c.give_back.new.self ≡ TookBack device ∷ Gave c.args.name.now 0 ∷ past =
    c.give_back.ensures.took ∙ ap (λ (l : List BayCall). TookBack device ∷ l) (c.in-Ok.ensures.gave ∙ ap (λ (n : List ℕ). Gave n 0 ∷ past) c.as_bytes.ensures.value) in
    inspected SaysOpening (λ n. ⊤) c.args.name.now past (g.B.Bay.past c.give_back.new.self) (g.K.Sink.writes c.args.sink.now) (g.K.Sink.writes c.print_inspection.new.sink) c.print_inspection.result
    fresh device c.in-Ok.ensures.device is c.check-said.result (any_read c.check-said.result fresh device c.check-said.ensures.says) c.check-said.ensures.unrefused
    (any_fail c.check-said.result fresh device c.check-said.ensures.fails) c.print_inspection.ensures.out

pub returns-clause-order : goal.returns-clause-order
returns-clause-order g c =
    let past = g.B.Bay.past c.args.bay.now in
    let fresh = g.B.Dev.Disk.state c.in-Ok.device in
    let device = g.B.Dev.Disk.state c.check-said.new.disk in
    let is : g.B.Bay.past c.give_back.new.self ≡ TookBack device ∷ Gave c.args.name.now 0 ∷ past =
    c.give_back.ensures.took ∙ ap (λ (l : List BayCall). TookBack device ∷ l) (c.in-Ok.ensures.gave ∙ ap (λ (n : List ℕ). Gave n 0 ∷ past) c.as_bytes.ensures.value) in
    inspected_order SaysOpening (λ n. ⊤) c.args.name.now past (g.B.Bay.past c.give_back.new.self) (g.K.Sink.writes c.args.sink.now) (g.K.Sink.writes c.print_inspection.new.sink) c.print_inspection.result
    fresh device c.in-Ok.ensures.device is c.check-said.result (any_read c.check-said.result fresh device c.check-said.ensures.says) (any_fail c.check-said.result fresh device c.check-said.ensures.fails)

pub returns-clause-steady : goal.returns-clause-steady
returns-clause-steady g c = steady_in_order _ [] _ _ (returns-clause-order g c) (g.met.B.Bay.is_log c.give_back.new.self)
