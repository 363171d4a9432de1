use Rattle.std.proofs.Common.{sym}
use Rattle.open_directory.proofs.Halves.{half_fits}
use Rattle.open_directory.proofs.nexts.without_last_bit.Goals as goal

pub returns-clause-a_bits : goal.returns-clause-a_bits
returns-clause-a_bits c = half_fits c.args.bits c.args.a c.args.b c.requires.two c.requires.a_bits c.requires.b_bits

pub returns-clause-b_bits : goal.returns-clause-b_bits
returns-clause-b_bits c = half_fits c.args.bits c.args.b c.args.a (λ same. c.requires.two (sym same)) c.requires.b_bits c.requires.a_bits
