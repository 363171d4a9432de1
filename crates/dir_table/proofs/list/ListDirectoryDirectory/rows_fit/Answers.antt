use Rattle.dir_table.proofs.list.ListDirectoryDirectory.rows_fit.Goals as goal

pub returns-clause-few : goal.returns-clause-few
returns-clause-few c purges = absurd (cc purges)
