use Rattle.std.proofs.Common.{ap, ◌∙◌, rules}
use Rattle.std.specs.Int.{to_le_bytes, w128}
use Rattle.tape_base.specs.declared.keys.Key.{Key}
use Rattle.tape_base.specs.Key.{key_bytes, key_of_bytes}
use Rattle.tape_base.proofs.LowBytes.{to_le_bytes-from_le_bytes}
use Rattle.tape_base.proofs.keys.Key.new.Goals as goal

pub returns-clause-made : goal.returns-clause-made
unfolding key_of_bytes
returns-clause-made c = ap (λ n. let key : Key = record { number = n } in key) c.from_le_bytes.ensures

pub returns-clause-bytes : goal.returns-clause-bytes
unfolding key_bytes
returns-clause-bytes c = ap (to_le_bytes w128) c.from_le_bytes.ensures ∙ to_le_bytes-from_le_bytes c.args.bytes (search rules) (search rules)
