use Rattle.std.proofs.Common.{◌≡◌, [], ap, ◌∙◌}
use Rattle.std.proofs.lemmas.Result.{IfOk-weaker}
use Rattle.packed_directory.specs.Packed.{Packed, packed_rows}
use Rattle.packed_directory.proofs.Beginning.{first_is_packed, first_has_none}
use Rattle.packed_directory.proofs.packed.PackedDirectory.empty.Goals as goal

pub assemble-requires : goal.assemble-requires
assemble-requires c = record { packed = rw c.floor_of.ensures (first_is_packed c.args.g.now c.in_ok-segments.segments.items c.in_ok-segments.ensures) }

pub returns-clause-rows : goal.returns-clause-rows
returns-clause-rows c =
    IfOk-weaker c.assemble.result _ (λ (d : Packed). packed_rows d ≡ [])
    (λ d is. ap packed_rows is ∙ first_has_none c.args.g.now c.in_ok-segments.segments.items c.in_ok-segments.ensures) c.assemble.ensures
