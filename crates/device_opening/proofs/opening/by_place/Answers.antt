use Rattle.std.proofs.Common.{rules}
use Rattle.std.proofs.lemmas.List.Sorted.{IsNonDecreasingBy-from_sort_by_key}
use Rattle.dir_table.specs.declared.rows.StoredRow.{StoredRow}
use Rattle.device_opening.proofs.Elements.{ascend_sorted}
use Rattle.device_opening.proofs.opening.by_place.Goals as goal

pub returns-clause-ascend : goal.returns-clause-ascend
returns-clause-ascend c = ascend_sorted _ (IsNonDecreasingBy-from_sort_by_key (λ (r : StoredRow). r.place) _ c.sort_unstable_by_key.ensures.sorted (λ a r q k. search rules))
