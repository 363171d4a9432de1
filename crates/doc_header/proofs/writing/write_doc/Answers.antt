use Rattle.std.proofs.Common.{◌∙◌}
use Rattle.doc_header.proofs.ReadingLaws.{written}
use Rattle.doc_header.proofs.writing.write_doc.Goals as goal

pub returns-clause-document : goal.returns-clause-document
returns-clause-document c =
    written c.put_all.new.into c.args.doc.now c.args.payload.now c.put_all.ensures.fits (c.put_all.ensures.len ∙ c.requires.room) c.put_all.ensures.bytes
