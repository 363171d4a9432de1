use Rattle.model_laws.proofs.ReadPairs.{copied_fits, lookup_reads, none_reads, reader_reads}
use Rattle.model_laws.proofs.laws.pairs_are_read.Goals as goal

pub returns-clause-none : goal.returns-clause-none
returns-clause-none c = none_reads

pub returns-clause-lookup : goal.returns-clause-lookup
returns-clause-lookup c = lookup_reads

pub returns-clause-reader : goal.returns-clause-reader
returns-clause-reader c = reader_reads

pub returns-clause-copied : goal.returns-clause-copied
returns-clause-copied c = λ p s now left row copied. copied_fits p row s left _ copied.comes
