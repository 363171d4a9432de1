use Rattle.format_laws.proofs.Opening.{format_is_guarded, format_opens}
use Rattle.format_laws.proofs.laws.a_format_opens.Goals as goal

pub returns-clause-opens : goal.returns-clause-opens
returns-clause-opens c = format_opens

pub returns-clause-guarded : goal.returns-clause-guarded
returns-clause-guarded c = format_is_guarded
