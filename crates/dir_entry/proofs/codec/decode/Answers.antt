use Rattle.std.proofs.Common.{◌<◌, ◌^◌, ap, ◌∙◌, subst}
use Rattle.dir_entry.specs.Layout.{entry_of_word, entry_of_bytes, bytes_of_entry}
use Rattle.dir_entry.proofs.RoundTrip.{decoded-again}
use Rattle.dir_entry.proofs.codec.decode.Goals as goal

pub returns-clause-entry : goal.returns-clause-entry
unfolding entry_of_bytes
returns-clause-entry c = c.unpack.ensures ∙ ap entry_of_word c.word_of.ensures.value

pub returns-clause-again : goal.returns-clause-again
returns-clause-again c =
    ap bytes_of_entry (returns-clause-entry c)
    ∙ decoded-again c.args.bytes.now c.told-bytes c.fits-bytes (subst (λ n. n < 2 ^ 80) c.word_of.ensures.value c.word_of.ensures.small)
