use Rattle.std.proofs.Common.{ap, map, filter, length, ◌∙◌, arith}
use Rattle.dir_table.specs.declared.rows.StoredRow.{StoredRow}
use Rattle.dir_table.specs.Links.{rows_in, stands_at}
use Rattle.dir_table.specs.Rows.{spot_of_key}
use Rattle.dir_table.specs.Window.{is_in_range}
use Rattle.dir_table.specs.Trail.{places_in}
use Rattle.dir_table.proofs.RowLists.{count_stored, filter_both, places_under}
use Rattle.dir_table.proofs.list.ListDirectoryDirectory.candidates.Goals as goal

pub returns-clause-rest : goal.returns-clause-rest
returns-clause-rest c =
    let w = c.self.inside.window in
    let rows = rows_in c.self.inside.links in
    let spot = spot_of_key w.geometry c.args.key in
    let trail = c.begin.ensures.trail ∙ ap (λ s. filter (stands_at s) rows) c.of_key.ensures in
    rw (← c.self.view_is) (ap (places_in w) trail
    ∙ ap (map (λ (r : StoredRow). r.place)) (filter_both (stands_at spot) (λ r. is_in_range w r.place) rows)
    ∙ places_under w spot rows)

pub returns-clause-ahead : goal.returns-clause-ahead
returns-clause-ahead c =
    let w = c.self.inside.window in
    let rows = rows_in c.self.inside.links in
    let trail = c.begin.ensures.trail ∙ ap (λ s. filter (stands_at s) rows) c.of_key.ensures in
    let few = count_stored w.geometry c.args.key rows in
    let same = ap length trail in
    rw (← c.self.view_is) (omega (arith, few, same))
