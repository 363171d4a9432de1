use Rattle.std.proofs.Common.{◌≤◌, sym, subst}
use Rattle.packed_directory.specs.Packed.{packed_rows}
use Rattle.packed_directory.specs.Phases.{least_place}
use Rattle.reopening.proofs.Bounds.{bound_fits}
use Rattle.reopening.proofs.ToldRows.{told_rows}
use Rattle.reopening.proofs.rows.rows_told.Goals as goal

pub from_image-requires-clause-floor : goal.from_image-requires-clause-floor
from_image-requires-clause-floor c =
    let g = c.args.g.now in
    let e = bound_fits g c.args.told.now c.requires.says in (
      subst (λ low. least_place g c.args.told.now.cursor ≤ low) (sym c.bound_of-low.ensures) e.0,
      subst (λ low. low ≤ c.args.told.now.cursor) (sym c.bound_of-low.ensures) e.1,
    )

pub returns-clause-rows : goal.returns-clause-rows
returns-clause-rows c =
    told_rows c.args.g.now c.args.told.now c.args.bytes.now c.bound_of-low.result (packed_rows c.in_ok-directory.directory) c.in_ok-all_rows.field-0.items
    c.bound_of-low.ensures c.in_ok-directory.ensures.rows c.in_ok-all_rows.ensures
