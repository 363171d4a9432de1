use Rattle.std.proofs.Common.{ap, ◌∙◌}
use Rattle.dir_entry.specs.Layout.{bytes_of_number, entry_of_bytes, bytes_of_entry}
use Rattle.dir_entry.proofs.RoundTrip.{encoded-again}
use Rattle.dir_entry.proofs.codec.encode.Goals as goal

pub returns-clause-bytes : goal.returns-clause-bytes
unfolding bytes_of_entry
returns-clause-bytes c = c.bytes_of.ensures ∙ ap (bytes_of_number 10) c.pack.ensures

pub returns-clause-again : goal.returns-clause-again
returns-clause-again c = ap entry_of_bytes (returns-clause-bytes c) ∙ encoded-again c.args.e.now c.requires.entry
