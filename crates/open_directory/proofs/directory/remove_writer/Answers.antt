use Rattle.std.proofs.Common.{rules}
use Rattle.std.proofs.lemmas.Fn.{filter_same}
use Rattle.open_directory.proofs.directory.remove_writer.Goals as goal

pub returns-clause-but : goal.returns-clause-but
returns-clause-but c = filter_same _ _ _ (λ x b f' k. search rules) _ _ c.retain.ensures.filtered
