use Rattle.std.proofs.Common.{arith}
use Rattle.dir_entry.proofs.Classes.{class_of_8, class_of_64, class_of_512}
use Rattle.dir_entry.proofs.size.size_class.Goals as goal

pub returns-in-65-to-512-clause-least : goal.returns-in-65-to-512-clause-least
returns-in-65-to-512-clause-least c = class_of_8 c.args.blocks (omega arith) (omega arith)

pub returns-in-513-to-4096-clause-least : goal.returns-in-513-to-4096-clause-least
returns-in-513-to-4096-clause-least c = class_of_64 c.args.blocks (omega arith) (omega arith)

pub returns-in-4097-to-32768-clause-least : goal.returns-in-4097-to-32768-clause-least
returns-in-4097-to-32768-clause-least c = class_of_512 c.args.blocks (omega arith) (omega arith)
