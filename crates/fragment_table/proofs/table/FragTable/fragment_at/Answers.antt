use Rattle.std.proofs.Common.{◌≡◌, ◌∙◌, ap}
use Rattle.std.specs.Prelude.{List}
use Rattle.fragment_table.specs.Table.{Table, TableRow, fragment_at}
use Rattle.fragment_table.specs.Kept.{table_rows_of}
use Rattle.fragment_table.proofs.Finding.{none_past, past_none}
use Rattle.fragment_table.proofs.table.FragTable.fragment_at.Goals as goal

pub returns-clause-none : goal.returns-clause-none
returns-clause-none c =
    let rows : table_rows_of c.deref.result.now ≡ c.args.self.now.rows = ap table_rows_of c.deref.ensures.value ∙ ap (λ (t : Table). t.rows) c.self.view_is in
    let is : c.find_fragment.result ≡ fragment_at c.args.self.now.rows c.args.offset = c.find_fragment.ensures ∙ ap (λ (rs : List TableRow). fragment_at rs c.args.offset) rows in
    (λ h. past_none c.args.self.now.rows c.args.offset (rw is at h), λ h. rw is (none_past c.args.self.now.rows c.args.offset h))
