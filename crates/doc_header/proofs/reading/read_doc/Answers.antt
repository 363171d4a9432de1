use Rattle.doc_header.proofs.ReadingLaws.{is_found, is_again, reads_alike}
use Rattle.doc_header.proofs.reading.read_doc.Goals as goal
use Rattle.std.proofs.Common.{arith}

pub returns-clause-found : goal.returns-clause-found
returns-clause-found c =
    is_found c.args.bytes.now c.args.generation c.args.place _ (λ i. omega (arith, c.type_inv.bytes i)) c.read.ensures.key c.read.ensures.exact

pub returns-clause-only : goal.returns-clause-only
returns-clause-only c doc payload d =
    is_again c.args.bytes.now c.args.generation c.args.place _ c.read.ensures.exact doc payload d

pub returns-clause-behind : goal.returns-clause-behind
returns-clause-behind c other as_many same =
    reads_alike other c.args.bytes.now c.args.generation c.args.place _ as_many same c.read.ensures.exact
