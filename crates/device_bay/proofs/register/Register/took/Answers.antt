use Rattle.std.proofs.Common.{refl, ap}
use Rattle.device_bay.specs.Register.{calls_of_entries}
use Rattle.device_bay.proofs.BayLemmas.{took_is_register}
use Rattle.device_bay.proofs.register.Register.took.Goals as goal

pub returns-clause-register : goal.returns-clause-register
unfolding calls_of_entries
returns-clause-register g c =
    let device = c.args.device.now in
    let laws = g.met.D.Disk in
    took_is_register g.D.Disk.state _ _ (g.D.Disk.state device) (ap (calls_of_entries g.D.Disk.state) c.with-self.ensures) refl refl
    (record {
      is_log = laws.is_log device;
      was_image = laws.was_image device;
      counted = laws.counted device;
      obeys = laws.obeys device;
      reads = laws.reads device;
      tells = laws.tells device;
      switched = laws.switched device;
      honest = laws.honest device;
      unturned = laws.unturned device;
    }) c.requires.out c.requires.register
