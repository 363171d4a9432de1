use Rattle.std.proofs.Common.{ap, subst, arith, ◌∙◌, ◌++◌}
use Rattle.fragment_table.specs.Table.{table_bytes}
use Rattle.fragment_table.specs.Reading.{Gives, read_table}
use Rattle.fragment_table.proofs.Whole.{short_cause, count_cause, sum_cause, is_spelled, table_again}
use Rattle.fragment_table.proofs.table.FragTable.decode.Goals as goal

pub returns-clause-spelled : goal.returns-clause-spelled
returns-clause-spelled c = is_spelled c.args.bytes.now c.args.total c.read.result (λ i. omega (arith, c.type_inv.bytes i)) c.read.ensures

pub returns-clause-again : goal.returns-clause-again
returns-clause-again c = λ rows rest valid sum bytes. subst (λ f. Gives c.read.result f) (ap (λ bs. read_table bs c.args.total) bytes ∙ ap (read_table (table_bytes rows ++ rest)) sum ∙ table_again rows rest valid) c.read.ensures

pub returns-clause-short : goal.returns-clause-short
returns-clause-short c = λ h. short_cause c.args.bytes.now c.args.total (rw h at c.read.ensures)

pub returns-clause-count : goal.returns-clause-count
returns-clause-count c = λ h. count_cause c.args.bytes.now c.args.total (rw h at c.read.ensures)

pub returns-clause-sum : goal.returns-clause-sum
returns-clause-sum c = λ h. sum_cause c.args.bytes.now c.args.total (rw h at c.read.ensures)
