use Rattle.std.proofs.Common.{◌∙◌}
use Rattle.doc_header.proofs.ReadingLaws.{recorded}
use Rattle.doc_header.proofs.digests.document_digest.Goals as goal

pub returns-clause-document : goal.returns-clause-document
returns-clause-document c generation place doc payload d = c.digest_in.ensures.digest ∙ recorded c.args.bytes.now generation place doc payload d
