use Rattle.std.proofs.Common.{◌≡◌, refl, rules, subst, ◌∷◌}
use Rattle.device_bay.specs.Bay.{IsNewDevice}
use Rattle.device_bay.specs.Calls.{Gave}
use Rattle.stripe_copies.specs.Format.{IsRefusedFormat}
use Rattle.cache_replay.proofs.Formats.{format_begun, format_failed, format_stopped, format_wanted}
use Rattle.cache_replay.proofs.Order.{order_same}
use Rattle.cache_replay.proofs.beginning.format.Goals as goal

pub returns-in-Ok : goal.returns-in-Ok
returns-in-Ok g c =
    let before = g.B.Bay.past c.args.bay.now in
    let given = g.B.Bay.past c.attach.new.bay in
    record {
      formats = format_begun c.args.name.now c.args.geometry c.args.replay.now c.start.new.replay _ (g.B.Dev.Disk.state c.in_ok-device.device) before given
          (g.B.Bay.past c.start.new.bay) c.in-Ok.ensures.begins (g.met.S.Calls.at_rest _ c.in-Ok.ensures.begins.holds_first) c.in_ok-page.ensures c.start.ensures.part
          c.start.ensures.bare c.start.ensures.slots c.start.ensures.names c.start.ensures.now
          (subst (λ n. IsNewDevice n before (g.B.Dev.Disk.state c.in_ok-device.device)) c.device_blocks.ensures c.in_ok-device.ensures.device)
          (subst (λ n. given ≡ Gave c.args.name.now n ∷ before) c.device_blocks.ensures c.in_ok-device.ensures.gave) c.start.ensures.gives;
    }

pub returns-in-Memory : goal.returns-in-Memory
returns-in-Memory g c =
    let before = g.B.Bay.past c.args.bay.now in
    let given = g.B.Bay.past c.attach.new.bay in
    let device = g.B.Dev.Disk.state c.in_ok-device.device in
    let back = g.B.Dev.Disk.state c.in-Err.device in
    record {
      formats = format_wanted c.args.name.now c.args.geometry c.args.replay.now c.end.new.replay device back before given (g.B.Bay.past c.end.new.bay) (g.B.Bay.past c.give_back.new.self)
          c.end.ensures.part c.end.ensures.bare c.end.ensures.slots c.end.ensures.names
          (subst (λ n. IsNewDevice n before device) c.device_blocks.ensures c.in_ok-device.ensures.device)
          (subst (λ n. given ≡ Gave c.args.name.now n ∷ before) c.device_blocks.ensures c.in_ok-device.ensures.gave)
          c.end.ensures.gives c.give_back.ensures.took c.requires.held c.in-Memory.field-0
          (subst (IsRefusedFormat c.args.geometry device back) c.in-Memory.is c.in-Err.ensures.back);
    }

pub returns : goal.returns
returns g c =
    let before = g.B.Bay.past c.args.bay.now in
    let given = g.B.Bay.past c.attach.new.bay in
    let device = g.B.Dev.Disk.state c.in_ok-device.device in
    let back = g.B.Dev.Disk.state c.in-Err.device in
    record {
      formats = format_failed c.args.name.now c.args.geometry c.args.replay.now c.end.new.replay device back before given (g.B.Bay.past c.end.new.bay) (g.B.Bay.past c.give_back.new.self)
          c.end.ensures.part c.end.ensures.bare c.end.ensures.slots c.end.ensures.names
          (subst (λ n. IsNewDevice n before device) c.device_blocks.ensures c.in_ok-device.ensures.device)
          (subst (λ n. given ≡ Gave c.args.name.now n ∷ before) c.device_blocks.ensures c.in_ok-device.ensures.gave)
          c.end.ensures.gives c.give_back.ensures.took c.requires.held c.in-Device.count c.end.ensures.now
          (subst (IsRefusedFormat c.args.geometry device back) c.in-Device.is c.in-Err.ensures.back);
    }

pub returns-in_err-page : goal.returns-in_err-page
returns-in_err-page g c = record {
  formats = format_stopped c.args.name.now c.args.geometry c.args.replay.now (g.B.Bay.past c.args.bay.now) (g.B.Bay.past c.args.bay.now) c.from_residual.result
      c.from_residual.ensures.0 c.requires.replay
      (search rules) (search rules) (record { back = refl; out = refl; order = λ own. order_same own (g.B.Bay.past c.args.bay.now); names = refl });
}
