use Rattle.std.proofs.Common.{ap, ◌∙◌, rules}
use Rattle.std.specs.Int.{from_le_bytes, w128}
use Rattle.tape_base.specs.declared.keys.Key.{Key}
use Rattle.tape_base.specs.Key.{key_bytes, key_of_bytes}
use Rattle.tape_base.proofs.LowBytes.{from_le_bytes-to_le_bytes}
use Rattle.tape_base.proofs.keys.Key.bytes.Goals as goal

pub returns-clause-bytes : goal.returns-clause-bytes
unfolding key_bytes
returns-clause-bytes c = c.to_le_bytes.ensures

pub returns-clause-key : goal.returns-clause-key
unfolding key_of_bytes
returns-clause-key c =
    ap (λ n. let key : Key = record { number = n } in key) (ap (from_le_bytes w128) c.to_le_bytes.ensures ∙ from_le_bytes-to_le_bytes c.args.self.now.number (search rules))
